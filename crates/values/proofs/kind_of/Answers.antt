use lib.IntN.{pos}
use borrow.Author.Rules.{rules}
use Rattle.laws.proofs.Signed.{lt-back-l}
use Rattle.values.specs.Value.{kind_of}
use Rattle.values.proofs.Targets.{told-controller, told_below, told-above}
use Rattle.values.proofs.kind_of.Goals as goal

pub returns-in-0-to-127 : goal.returns-in-0-to-127
unfolding kind_of
returns-in-0-to-127 c =
    let f = c.ranges.target in
    rw (told-controller c.args.target (lt-back-l (pos 0) f (search rules)) (lt-back-l (pos 128) f (search rules)))

pub returns-in_default : goal.returns-in_default
unfolding kind_of
returns-in_default c = rw (told_below c.args.target (lt-back-l (pos 0) c.ranges.target (search rules)))

pub returns-in_default-2 : goal.returns-in_default-2
unfolding kind_of
returns-in_default-2 c = rw (told-above c.args.target (lt-back-l (pos 128) c.ranges.target (search rules)))
