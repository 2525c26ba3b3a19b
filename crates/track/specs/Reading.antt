-- 01, "Defaults", and the Rust's `current_cc_value`: what a controller reads on the track's channel at its time.
use Rattle.std.specs.Prelude.{cond, ◌&&◌, List, ℕ, eqb, ℤ, pos}
use Rattle.numbers.specs.Ranges.{is_controller}
use Rattle.eventlist.specs.Rows.{events_of}
use Rattle.eventlist.specs.Sound.{is_list, ok_events}
use Rattle.reserved.specs.Setting.{demand}
use Rattle.cutting.specs.declared.Asked.{Asked}
use Rattle.cutting.specs.declared.CcValue.{CcValue}
use Rattle.cutting.specs.Value.{cc_value}
use Rattle.state.specs.declared.Track.{Track}
use Rattle.state.specs.Tests.{ok_track}

abbrev pub asked_of : Track → ℤ → Asked
asked_of a number = record { channel = a.channel; time = a.timepos; number = number }

-- a list that is none gives 1; a number that is no controller's 2; a track, or an event below the count, that may not be used 4
unfoldable pub cc_track_refusal : ℕ → Track → ℤ → List ℤ → ℕ → ℕ
cc_track_refusal store a number l count = cond (is_list l count) (cond (is_controller number) (demand (ok_track a && ok_events store l count)) 2) 1

-- the answer: a call that is refused has no value
unfoldable pub cc_of_track : ℕ → Track → ℤ → List ℤ → ℕ → CcValue
cc_of_track store a number l count =
    record {
      code = cc_track_refusal store a number l count;
      value = cond (eqb (cc_track_refusal store a number l count) 0) (cc_value (asked_of a number) (events_of l count)) (pos 0);
    }
