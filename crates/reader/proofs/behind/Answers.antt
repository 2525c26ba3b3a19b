-- `behind` meets its contract: what is kept counts one or nothing, and is late past the latest time (Kept).
use mathlib.Core.Bool.{Bool, true, false, cond, ◌||◌}
use mathlib.Core.Path.{◌≡◌, refl, sym, ap, ap₂, ◌∙◌}
use Prim.Native.Nat.{ℕ, ◌+◌}
use native.Mathlib.Omega.{arith}
use mir.Val.{bool_byte}
use Rattle.reader.specs.Steps.{tells}
use Rattle.reader.proofs.Kept.{found-late, found-few}
use Rattle.reader.proofs.behind.Goals as goal

as_byte : (b : Bool) → bool_byte b ≡ cond b 1 0
as_byte true = refl
as_byte false = refl

pub overflow_add-result-2 : goal.overflow_add-result-2
overflow_add-result-2 c = omega (arith, c.from.ensures ∙ as_byte c.args.kept ∙ sym c.requires.0, found-few c.args.c.time c.args.f, c.requires.1.1.1)

pub returns : goal.returns
unfolding tells
returns c =
    let p = c.args.c in
    let f = c.args.f in
    ap₂ (λ (k : ℕ) (l : Bool). record { at = p.at + f.used; status = f.status; time = p.time + f.gap; kept = k; late = l })
    (ap (λ (n : ℕ). p.kept + n) (c.from.ensures ∙ as_byte c.args.kept ∙ sym c.requires.0))
    (ap (λ (b : Bool). p.late || b) (found-late p.time f c.args.kept c.requires.0))
