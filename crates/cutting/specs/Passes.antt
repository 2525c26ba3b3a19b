-- What the passes of a cut promise each other; nothing here is promised to a caller.
use Rattle.std.specs.Prelude.{Bool, true, false, cond, ◌&&◌, ◌||◌, ◌≡◌, List, [], ◌∷◌, ◌++◌, ℕ, ◌<◌, ℤ, pos, length, get_or, set, take, drop}
use Rattle.laws.specs.Integers.{cut}
use Rattle.laws.specs.Lists.{put_first}
use Rattle.numbers.specs.Ranges.{is_event_time}
use Rattle.events.specs.declared.Event.{Event}
use Rattle.events.specs.Events.{zero_event, ok_numbered}
use Rattle.events.specs.Kinds.{control_change, pitch_bend, voice}
use Rattle.eventlist.specs.Rows.{rows_of, events_of}
use Rattle.cutting.specs.declared.Cut.{Cut}
use Rattle.cutting.specs.declared.Last.{Last}
use Rattle.cutting.specs.declared.Parts.{Parts}
use Rattle.cutting.specs.Choice.{last_of}
use Rattle.cutting.specs.Cuts.{controllers, with_time, folds, program_at, channel_at, controls_from, program_on, in_order, kept_of, folded}

-- what a cut leans on: a time that may be taken from, and a number that is a controller's where the kind is one
unfoldable pub sound : Event → Bool
sound e = is_event_time e.time && ok_numbered e

-- the table has the number of each controller
pub record Holds (value : ℕ → ℤ) (table : List ℤ) : Type 0 where
  pub long : length table ≡ controllers
  pub each : (n : ℕ) → n < controllers → get_or table n (pos 0) ≡ value n

-- what is remembered beside it, of events in the order in which they count
abbrev pub lasts_of : ℤ → List Event → Last
lasts_of at es =
    record {
      program = program_at at es;
      channel = channel_at at es;
      bent = last_of (folds pitch_bend at) (λ e. true) false es;
      bend = last_of (folds pitch_bend at) (λ e. e) zero_event es;
    }

-- what is remembered after one more event
unfoldable pub noted : ℤ → Last → Event → Last
noted at last e =
    record {
      program = cond (folds voice at e) e.v1 last.program;
      channel = cond (folds voice at e || folds control_change at e) e.channel last.channel;
      bent = cond (folds pitch_bend at e) true last.bent;
      bend = cond (folds pitch_bend at e) e last.bend;
    }

-- a table after x was stored at the place of number v, if it was
abbrev pub stored : Bool → ℤ → ℤ → List ℤ → List ℤ
stored does v x table = cond does (set table (cut v) x) table

unfoldable pub valued : ℤ → List ℤ → Event → List ℤ
valued at table e = stored (folds control_change at e) e.v1 e.v2 table

-- the controllers of a table, the program and the bend that are remembered, as events
abbrev pub controls_in : List ℤ → Last → List Event
controls_in table last = controls_from (λ n. get_or table n (pos 0)) last.channel controllers 0

abbrev pub program_in : Last → List Event
program_in last = program_on last.program last.channel

abbrev pub bend_in : Cut → Last → List Event
bend_in c last = cond (c.full && last.bent) (with_time (pos 0) last.bend ∷ []) []

-- the records of a list after `more` was put after the first n
abbrev pub with_more : List ℤ → ℕ → List Event → List Event
with_more l n more = put_first zero_event n (events_of l n ++ more) (rows_of l)

abbrev pub parts_of : Cut → List Event → Parts
parts_of c es = record { kept = length (kept_of c es); count = length (kept_of c es ++ folded c (in_order c es)) }

-- the first `count` records, of which those after the first `kept` come to the front
abbrev pub turned : Parts → List Event → List Event
turned p r = (drop p.kept (take p.count r) ++ take p.kept (take p.count r)) ++ drop p.count r
