-- The match on the code is the definition's test of a controller.
use mathlib.Core.Path.{◌≡◌, ◌∙◌}
use mathlib.Core.Bool.{false}
use lib.IntN.{pos}
use mir.Syntax.{w64}
use mir.Facts.{to_z-of_z}
use borrow.Author.Rules.{rules, sfits_of}
use Rattle.laws.proofs.Signed.{lt-back-l}
use Rattle.numbers.specs.Ranges.{is_controller}
use Rattle.values.specs.Value.{event_for}
use Rattle.values.proofs.Targets.{told-controller, told_below, told-above}
use Rattle.values.proofs.make_event.Goals.{in_default-via-then-target-lt0, in_default-via-else-target-lt0+else-target-lt128}
use Rattle.values.proofs.make_event.Goals as goal

pub returns-in-0-to-127 : goal.returns-in-0-to-127
unfolding event_for
returns-in-0-to-127 c =
    let f = c.ranges.target in
    let q = told-controller c.args.target (lt-back-l (pos 0) f (search rules)) (lt-back-l (pos 128) f (search rules)) in
    let on = to_z-of_z {w = w64} (sfits_of c.from.type_inv) ∙ c.from.ensures ∙ to_z-of_z c.ranges.channel in
    let number = to_z-of_z {w = w64} (sfits_of c.from-in-0-to-127.type_inv) ∙ c.from-in-0-to-127.ensures ∙ to_z-of_z f in
    rw (c.cc_event.ensures, on, number, to_z-of_z c.ranges.time, to_z-of_z c.ranges.v, q)

pub returns-in_default : goal.returns-in_default
unfolding event_for
returns-in_default c =
    let f = c.ranges.target in
    let q : is_controller c.args.target ≡ false = elim c.in_default.branch [
      | in_default-via-then-target-lt0 w ↦ told_below c.args.target (lt-back-l (pos 0) f (search rules))
      | in_default-via-else-target-lt0+else-target-lt128 w ↦ told-above c.args.target (lt-back-l (pos 128) f (search rules))
    ] in
    let on = to_z-of_z {w = w64} (sfits_of c.from-in_default.type_inv) ∙ c.from-in_default.ensures ∙ to_z-of_z c.ranges.channel in
    rw (c.pitch_bend_event.ensures, on, to_z-of_z c.ranges.time, to_z-of_z c.ranges.v, q)
