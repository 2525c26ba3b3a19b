-- `later` meets its contract: the times are compared as the numbers that they are.
use mathlib.Core.Path.{◌≡◌, sym, ap, ap₂, ◌∙◌}
use mathlib.Core.Bool.{Bool, not, ◌||◌}
use lib.IntN.{ℤ}
use lib.Signed.{le_z}
use mir.Syntax.{w64}
use mir.Val.{SFits, to_z, of_z}
use mir.Facts.{to_z-of_z}
use native.Mathlib.Omega.{arith}
use Rattle.laws.proofs.Fitting.{fit}
use Rattle.cutting.proofs.later.Goals as goal

read : (f : Bool) {s t : ℤ} → SFits w64 s → SFits w64 t → (not f || le_z (to_z w64 (of_z w64 s)) (to_z w64 (of_z w64 t))) ≡ (not f || le_z s t)
read f p q = ap (λ (b : Bool). not f || b) (ap₂ le_z (to_z-of_z p) (to_z-of_z q))

pub returns-then-l-since : goal.returns-then-l-since
returns-then-l-since c =
    rw (sym (read c.args.l.found c.ranges.since (fit w64 c.args.e.time (omega arith))) ∙ c.if-l-since.true)

pub returns : goal.returns
returns c =
    rw (sym (read c.args.l.found c.ranges.since (fit w64 c.args.e.time (omega arith))) ∙ c.if-l-since.false)
