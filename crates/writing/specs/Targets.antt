-- Whose an event is: a controller's by its number, both bends one. And the value that it carries.
use Rattle.std.specs.Prelude.{Bool, cond, not, ◌&&◌, ◌||◌, List, ℤ, pos}
use Rattle.laws.specs.Integers.{eq_z, inside}
use Rattle.laws.specs.Lists.{without}
use Rattle.numbers.specs.Ranges.{is_controller}
use Rattle.events.specs.declared.Event.{Event}
use Rattle.events.specs.Kinds.{control_change}
use Rattle.values.specs.Clamp.{top_of}
use Rattle.values.specs.Value.{kind_of}

unfoldable pub belongs : ℤ → Event → Bool
belongs target e = eq_z e.kind (kind_of target) && (not (eq_z (kind_of target) control_change) || eq_z e.v1 target)

-- within the clamp of its target
unfoldable pub in_clamp : ℤ → Event → Bool
in_clamp target e = inside (pos 0) (pos (top_of target)) (cond (is_controller target) e.v2 e.v1)

-- the key under which a target's option and reservation stand: a controller's number, both bends 128
abbrev pub key_of : ℤ → ℤ
key_of target = cond (is_controller target) target (pos 128)

-- a target's own events, in order
abbrev pub own_events : ℤ → List Event → List Event
own_events target es = without (λ (e : Event). not (belongs target e)) es
