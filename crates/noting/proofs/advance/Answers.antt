-- `advance`: a place is at most a list's count.
use native.Mathlib.Omega.{arith}
use Rattle.noting.specs.Lists.{advanced}
use Rattle.noting.proofs.Rules.{sound, place-few}
use Rattle.noting.proofs.advance.Goals as goal

pub overflow_add-e : goal.overflow_add-e
overflow_add-e c =
    let s = sound c.args.e c.requires in
    omega (arith, place-few c.args.e s, c.place_of.ensures)

pub returns : goal.returns
unfolding advanced
returns c = rw c.place_of.ensures
