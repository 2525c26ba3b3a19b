-- The size is rounded, and the sign put before it, so that a half goes away from zero on both sides; `round-below` and `round-above` say that
-- the definition does so.
use Rattle.std.proofs.Common.{rules, nat_abs, ℕ, ◌≡◌, ap, ◌∙◌, arith, pos, to_z, to_z-of_z, w64}
use lib.IntN.{neg_ℤ, +ℤ_idl}
use mir.Facts.{to_z_pos}
use Rattle.laws.proofs.Signed.{lt-back-l}
use Rattle.laws.proofs.Sizes.{abs_neg, abs-fits}
use Rattle.sines.proofs.Mixing.{round-below, round-above}
use Rattle.sines.proofs.round_away.Goals as goal

pub returns-then-n-lt0 : goal.returns-then-n-lt0
returns-then-n-lt0 c =
    let k = c.nearest_of-size.result in
    let reads : to_z w64 k ≡ pos k = to_z_pos w64 (omega (arith, c.nearest_of-size.ensures.1)) in
    let fits = abs-fits (neg_ℤ (pos k)) (omega (arith, abs_neg (pos k), c.nearest_of-size.ensures.1)) in
    let size : c.unsigned_abs.result ≡ nat_abs c.args.n = search rules in
    let is = rw size at c.nearest_of-size.ensures.0 in
    rw (reads, +ℤ_idl (neg_ℤ (pos k)), to_z-of_z fits)
    (ap (λ (n : ℕ). neg_ℤ (pos n)) is ∙ (round-below c.args.n c.args.d (lt-back-l (pos 0) c.ranges.n c.if-n-lt0.true)).1)

pub returns-else-n-lt0 : goal.returns-else-n-lt0
returns-else-n-lt0 c =
    let reads : to_z w64 c.nearest_of-size.result ≡ pos c.nearest_of-size.result = to_z_pos w64 (omega (arith, c.nearest_of-size.ensures.1)) in
    let size : c.unsigned_abs.result ≡ nat_abs c.args.n = search rules in
    let is = rw size at c.nearest_of-size.ensures.0 in
    reads ∙ ap pos is ∙ (round-above c.args.n c.args.d (lt-back-l (pos 0) c.ranges.n c.if-n-lt0.false)).1
