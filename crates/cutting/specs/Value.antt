-- 01, "Defaults", and the Rust's `current_cc_value`: what a controller reads on a channel at a time.
use Rattle.std.specs.Prelude.{Bool, cond, ◌&&◌, List, ℕ, eqb, ℤ, pos}
use Rattle.std.specs.Int.Signed.{le_z}
use Rattle.laws.specs.Integers.{eq_z}
use Rattle.numbers.specs.Ranges.{is_time, is_channel, is_controller}
use Rattle.events.specs.declared.Event.{Event}
use Rattle.events.specs.Kinds.{control_change}
use Rattle.eventlist.specs.Rows.{events_of}
use Rattle.eventlist.specs.Sound.{is_list, ok_events}
use Rattle.cutting.specs.declared.Asked.{Asked}
use Rattle.cutting.specs.declared.CcValue.{CcValue}
use Rattle.cutting.specs.Choice.{last_of}

-- "before any event controller 7 reads 100, 10 reads 64, 11 reads 127, any other 0"
unfoldable pub default_of : ℤ → ℤ
default_of number =
    cond (eq_z number (pos 7)) (pos 100) (cond (eq_z number (pos 10)) (pos 64) (cond (eq_z number (pos 11)) (pos 127) (pos 0)))

-- an event of the controller on the channel, at or before the time
unfoldable pub speaks : Asked → Event → Bool
speaks a e =
    eq_z e.kind control_change && eq_z e.channel a.channel && eq_z e.v1 a.number && le_z e.time a.time

-- the last in list order counts
abbrev pub cc_value : Asked → List Event → ℤ
cc_value a es = last_of (speaks a) (λ e. e.v2) (default_of a.number) es

-- a list that is none gives 1; a number that is no controller's 2; a time outside ±2^40, a channel outside 0..15, or an
-- event below the count that may not be stored, 4
unfoldable pub cc_refusal : ℕ → List ℤ → ℕ → Asked → ℕ
cc_refusal store l count a =
    cond (is_list l count)
    (cond (is_controller a.number)
    (cond (is_time a.time && is_channel a.channel && ok_events store l count) 0 4)
    2)
    1

-- the answer: a call that is refused has no value
abbrev pub cc_answer : ℕ → List ℤ → ℕ → Asked → CcValue
cc_answer store l count a =
    record {
      code = cc_refusal store l count a;
      value = cond (eqb (cc_refusal store l count a) 0) (cc_value a (events_of l count)) (pos 0);
    }
