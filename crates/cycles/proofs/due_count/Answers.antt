-- `cycles::due_count`: a difference that is not below 0, divided.
use native.Mathlib.Omega.{arith}
use native.Mathlib.Nat.{div-le_self}
use mir.Facts.{to_z-of_z}
use lib.IntN.{nat_abs, ◌-ℤ◌}
use Rattle.laws.specs.Integers.{cut}
use Rattle.laws.proofs.Signed.{lt_back, sub_back}
use Rattle.cycles.proofs.Rules.{sound}
use Rattle.cycles.proofs.Fitting as F
use Rattle.cycles.proofs.due_count.Goals as goal

pub returns-then-until-c : goal.returns-then-until-c
returns-then-until-c c =
    let x = c.args.c in
    let s = sound x c.requires.0 in
    F.none x s c.args.until c.requires.1 (lt_back c.ranges.until (F.fits_next x s) c.if-until-c.true)

pub overflow_sub-gap : goal.overflow_sub-gap
overflow_sub-gap c =
    let x = c.args.c in
    let s = sound x c.requires.0 in
    rw (to_z-of_z c.ranges.until, to_z-of_z (F.fits_next x s)) (F.fits-gap x s c.args.until c.requires.1)

pub overflow_cast-gap : goal.overflow_cast-gap
overflow_cast-gap c =
    let x = c.args.c in
    let s = sound x c.requires.0 in
    let e = lt_back c.ranges.until (F.fits_next x s) c.if-until-c.false in
    rw (sub_back c.ranges.until (F.fits_next x s) (F.fits-gap x s c.args.until c.requires.1))
    (F.gap_up x s c.args.until c.requires.1 e, omega (arith, F.gap-size x s c.args.until c.requires.1 e))

pub overflow_cast-result : goal.overflow_cast-result
overflow_cast-result c =
    let x = c.args.c in
    let s = sound x c.requires.0 in
    rw (to_z-of_z (F.fits-length x s)) (F.up x.length s.forward, F.abs-fits x s)

pub nonzero_div-result : goal.nonzero_div-result
nonzero_div-result c =
    let x = c.args.c in
    let s = sound x c.requires.0 in
    rw (to_z-of_z (F.fits-length x s), F.nat_abs-cut x.length s.forward) s.forward

pub overflow_add-result : goal.overflow_add-result
overflow_add-result c =
    let x = c.args.c in
    let s = sound x c.requires.0 in
    let e = lt_back c.ranges.until (F.fits_next x s) c.if-until-c.false in
    let g = nat_abs (c.args.until -ℤ x.next) in
    rw (sub_back c.ranges.until (F.fits_next x s) (F.fits-gap x s c.args.until c.requires.1), to_z-of_z (F.fits-length x s), F.nat_abs-cut x.length s.forward)
    (omega (arith, div-le_self g (cut x.length), F.gap-size x s c.args.until c.requires.1 e))

pub returns-else-until-c : goal.returns-else-until-c
returns-else-until-c c =
    let x = c.args.c in
    let s = sound x c.requires.0 in
    let e = lt_back c.ranges.until (F.fits_next x s) c.if-until-c.false in
    rw (sub_back c.ranges.until (F.fits_next x s) (F.fits-gap x s c.args.until c.requires.1), to_z-of_z (F.fits-length x s), F.nat_abs-cut x.length s.forward)
    (F.some x s c.args.until c.requires.1 e)
