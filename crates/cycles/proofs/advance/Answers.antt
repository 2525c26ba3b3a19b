-- `cycles::advance`: the sum fits, and each number read back is itself.
use native.Mathlib.Omega.{arith}
use mir.Facts.{to_z-of_z}
use Rattle.cycles.specs.Due.{advanced}
use Rattle.cycles.proofs.Rules.{sound}
use Rattle.cycles.proofs.Fitting.{fits-target, fits-length, fits-wide, fits_next, fits_sum}
use Rattle.cycles.proofs.advance.Goals as goal

pub overflow_add-result : goal.overflow_add-result
overflow_add-result c =
    let s = sound c.args.c c.requires in
    rw (to_z-of_z (fits_next c.args.c s), c.from.ensures, to_z-of_z (fits-length c.args.c s), to_z-of_z (fits-wide c.args.c s)) (fits_sum c.args.c s)

pub overflow_add-result-2 : goal.overflow_add-result-2
overflow_add-result-2 c = let s = sound c.args.c c.requires in omega arith

pub nonzero_rem-result : goal.nonzero_rem-result
nonzero_rem-result c = let s = sound c.args.c c.requires in omega arith

pub returns : goal.returns
unfolding advanced
returns c =
    let x = c.args.c in
    let s = sound x c.requires in
    rw (to_z-of_z (fits-target x s), c.from.ensures, to_z-of_z (fits-length x s), to_z-of_z (fits-wide x s), to_z-of_z (fits_next x s), to_z-of_z (fits_sum x s))
