-- `cc_target`: the arm that the number meets.
use mathlib.Core.Path.{◌∙◌}
use lib.IntN.{pos}
use mir.Facts.{to_z-of_z}
use borrow.Author.Rules.{rules}
use Rattle.laws.proofs.Signed.{lt-back-l}
use Rattle.values.proofs.Targets.{told-controller, told_below, told-above}
use Rattle.drawing.proofs.cc_target.Goals as goal

pub returns-in-0-to-127 : goal.returns-in-0-to-127
returns-in-0-to-127 c =
    let f = c.ranges.number in
    to_z-of_z f ∙ rw (told-controller c.args.number (lt-back-l (pos 0) f (search rules)) (lt-back-l (pos 128) f (search rules)))

pub returns-in_default : goal.returns-in_default
returns-in_default c = rw (told_below c.args.number (lt-back-l (pos 0) c.ranges.number (search rules)))

pub returns-in_default-2 : goal.returns-in_default-2
returns-in_default-2 c = rw (told-above c.args.number (lt-back-l (pos 128) c.ranges.number (search rules)))
