-- `shift` meets its contract: times and cuts are small enough for their difference to fit.
use mathlib.Core.Path.{◌≡◌, ap, ◌∙◌}
use mathlib.Core.Bool.{true}
use Prim.Native.Nat.{◌^◌}
use native.Mathlib.Omega.{arith}
use lib.IntN.{ℤ, ◌-ℤ◌}
use mir.Syntax.{w64}
use mir.Val.{SFits}
use mir.Facts.{to_z-of_z}
use Rattle.laws.proofs.Fitting.{fit}
use Rattle.laws.proofs.Ranges.{sized-mag}
use Rattle.laws.proofs.Signed.{lt_back, sub_back, mag-sub}
use Rattle.numbers.specs.Ranges.{is_time, is_event_time}
use Rattle.cutting.specs.Cuts.{with_time, shifted}
use Rattle.cutting.proofs.shift.Goals as goal

-- what is left of a time after a cut
left-fits : (time at : ℤ) → is_time at ≡ true → is_event_time time ≡ true → SFits w64 (time -ℤ at)
unfolding is_time is_event_time
left-fits time at p q =
    let a = sized-mag (2 ^ 40) at p in
    let b = sized-mag (2 ^ 42) time q in
    let d = mag-sub time at in
    fit w64 (time -ℤ at) (omega arith)

pub returns-then-e-c : goal.returns-then-e-c
unfolding shifted
returns-then-e-c c =
    let time = fit w64 c.args.e.time (omega arith) in
    let at = fit w64 c.args.c.at (omega arith) in
    rw (lt_back time at c.if-e-c.true) c.at_time.ensures

pub overflow_sub-e : goal.overflow_sub-e
overflow_sub-e c =
    let time = fit w64 c.args.e.time (omega arith) in
    let at = fit w64 c.args.c.at (omega arith) in
    rw (to_z-of_z time, to_z-of_z at) (left-fits c.args.e.time c.args.c.at c.requires.0 c.requires.1)

pub returns : goal.returns
unfolding shifted
returns c =
    let time = fit w64 c.args.e.time (omega arith) in
    let at = fit w64 c.args.c.at (omega arith) in
    let left = left-fits c.args.e.time c.args.c.at c.requires.0 c.requires.1 in
    rw (lt_back time at c.if-e-c.false)
    (c.at_time-2.ensures ∙ ap (λ (z : ℤ). with_time z c.args.e) (sub_back time at left))
