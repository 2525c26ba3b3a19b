-- By the piece's shape: what the shape's own function asks is what `Drawn` says, what it ensures is the definition's case.
use mathlib.Core.Path.{◌≡◌, sym, ap, ap₂, ◌∙◌, subst}
use native.Mathlib.Omega.{arith}
use Prim.Native.Nat.{ℕ, ◌+◌, ◌%◌, ◌≤◌, ◌^◌}
use lib.IntN.{ℤ, pos, negsuc, nat_abs}
use lib.Signed.{mag}
use mir.Syntax.{w64}
use mir.Val.{SFits, to_z, of_z}
use mir.Facts.{to_z-of_z}
use borrow.Author.Rules.{sfits_of}
use Rattle.shapes.specs.Curve.{curve_of}
use Rattle.sines.specs.Sine.{sine_of}
use Rattle.values.specs.declared.Offer.{Offer}
use Rattle.offers.specs.declared.Shape.{Shape}
use Rattle.offers.specs.Pieces.{value_by, value_at, Drawn}
use Rattle.offers.proofs.point.Goals as goal

mag-nat_abs : (z : ℤ) → mag z ≤ nat_abs z
mag-nat_abs (pos a) = omega arith
mag-nat_abs (negsuc a) = omega arith

abbrev offer : ℕ → ℤ → Offer
offer n v = record { step = n; value = v }

-- an end, in either shape
end-is : (z : ℤ) → mag z ≤ 2 ^ 22 → to_z w64 (of_z w64 z) ≡ z
end-is z h = to_z-of_z (let f : SFits w64 z = omega arith in f)

pub returns-in-Glide : goal.returns-in-Glide
unfolding value_by
returns-in-Glide c =
    let S = c.args in
    let d = subst (λ (x : Shape). Drawn x S.t.low S.t.high S.t.len) c.in-Glide.is c.requires.0.drawn in
    let n = c.requires.0.ends in
    let j = c.requires.1 in
    let m = c.curve_value.ensures.result_bound in
    let q : c.curve_value.result ≡ value_at S.t S.j =
    c.curve_value.ensures.value ∙ ap₂ (λ (x y : ℤ). curve_of x y S.j S.t.len) (end-is S.t.low d.0) (end-is S.t.high d.1)
    ∙ sym (ap (λ (x : Shape). value_by x S.t.low S.t.high S.t.len S.j) c.in-Glide.is) in
    rw (to_z-of_z {w = w64} (sfits_of c.curve_value.type_inv))
    (ap (offer (S.at + S.j)) q, record { step = omega arith; value = omega arith })

pub returns-in-Turn : goal.returns-in-Turn
unfolding value_by
returns-in-Turn c =
    let S = c.args in
    let T = c.in-Turn in
    let d = subst (λ (x : Shape). Drawn x S.t.low S.t.high S.t.len) T.is c.requires.0.drawn in
    let l = d.0 in
    let h = d.1 in
    let n = c.requires.0.ends in
    let j = c.requires.1 in
    let m = c.sine_value.ensures.result_bound in
    let q : c.sine_value.result ≡ value_at S.t S.j =
    c.sine_value.ensures.value ∙ ap₂ (λ (x y : ℤ). sine_of T.stype x y (S.j % T.turn) T.turn) (end-is S.t.low (omega arith)) (end-is S.t.high (omega arith))
    ∙ sym (ap (λ (x : Shape). value_by x S.t.low S.t.high S.t.len S.j) T.is) in
    rw (to_z-of_z {w = w64} (sfits_of c.sine_value.type_inv))
    (ap (offer (S.at + S.j)) q, record { step = omega arith; value = omega (arith, mag-nat_abs c.sine_value.result) })
