-- What the pass of the full cut over the unsorted list promises: what it holds after some events is what counts last among
-- them, sorted. Nothing here is promised to a caller.
use Rattle.std.specs.Prelude.{Bool, true, false, cond, not, ◌&&◌, ◌||◌, List, [], ℕ, ◌^◌, ℤ, pos, neg_ℤ, get_or}
use Rattle.std.specs.Int.Signed.{le_z}
use Rattle.laws.specs.Integers.{cut}
use Rattle.events.specs.declared.Event.{Event}
use Rattle.events.specs.Events.{zero_event, voice_event}
use Rattle.events.specs.Kinds.{control_change, pitch_bend, voice}
use Rattle.cutting.specs.declared.Last.{Last}
use Rattle.cutting.specs.declared.Latest.{Latest}
use Rattle.cutting.specs.declared.Standing.{Standing}
use Rattle.cutting.specs.Choice.{last_of}
use Rattle.cutting.specs.Cuts.{unset, folds, controls, tells}

-- the last event of which p holds, or d, and whether there is one
abbrev pub latest_of : (Event → Bool) → Event → List Event → Latest
latest_of p d es = record { found = last_of p (λ e. true) false es; event = last_of p (λ e. e) d es }

-- an event at t counts where none does so far, or none that is later
abbrev pub counts_at : Latest → ℤ → Bool
counts_at l t = not l.found || le_z l.event.time t

abbrev pub replacing : Latest → Event → Bool → Latest
replacing l e does = cond does (record { found = true; event = e }) l

-- a program that is unset
abbrev pub no_program : Event
no_program = voice_event (pos 0) (pos 0) unset

abbrev pub standing_at : ℤ → List Event → Standing
standing_at at es =
    record {
      program = latest_of (folds voice at) no_program es;
      channel = latest_of (tells at) zero_event es;
      bend = latest_of (folds pitch_bend at) zero_event es;
    }

abbrev pub none_stands : Standing
none_stands = standing_at (pos 0) []

-- what stands after one more event
unfoldable pub stood : ℤ → Standing → Event → Standing
stood at s e =
    record {
      program = replacing s.program e (folds voice at e && counts_at s.program e.time);
      channel = replacing s.channel e (tells at e && counts_at s.channel e.time);
      bend = replacing s.bend e (folds pitch_bend at e && counts_at s.bend e.time);
    }

-- and as it is remembered
abbrev pub last_in : Standing → Last
last_in s =
    record {
      program = s.program.event.v1;
      channel = s.channel.event.channel;
      bent = s.bend.found;
      bend = s.bend.event;
    }

-- no event that may be stored is before it
abbrev pub earliest : ℤ
earliest = neg_ℤ (pos (2 ^ 42))

-- the time of the event that counts for a controller
abbrev pub time_at : ℤ → List Event → ℕ → ℤ
time_at at es n = last_of (controls at n) (λ e. e.time) earliest es

-- a controller's event before the cut, not earlier than the time in the table
unfoldable pub dated : ℤ → List ℤ → Event → Bool
dated at times e = folds control_change at e && le_z (get_or times (cut e.v1) (pos 0)) e.time
