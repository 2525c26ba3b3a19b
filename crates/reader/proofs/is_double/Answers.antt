-- `is_double` meets its contract: four statuses from 8n on, and En; of all but An an event is kept (Kept).
use mathlib.Core.Bool.{Bool, true, false, not, ◌&&◌, ◌||◌, true≢false}
use mathlib.Core.Path.{◌≡◌, refl, sym, ◌∙◌}
use mathlib.Core.Logic.{⊎_elim}
use Prim.Native.Nat.{ℕ, ◌/◌, ◌≤◌, ◌<◌}
use native.Mathlib.Omega.{arith}
use borrow.Author.Tests.{eqb-true, eqb-false, leb-true, ltb-true}
use lib.Dec.{eqb, leb, ltb}
use Rattle.laws.proofs.Bools.{which}
use Rattle.laws.proofs.Ranges.{left, right}
use Rattle.chunks.specs.Reader.{single}
use Rattle.reader.specs.Steps.{is_told, Double}
use Rattle.reader.proofs.Kept.{kept-many}
use Rattle.reader.proofs.is_double.Goals as goal

module _ (status : ℕ) where
  -- by what it says
  says : (n : ℕ) → status / 16 ≡ n → 8 ≤ n → n ≤ 14 → (eqb n 12 || eqb n 13) ≡ false → (eqb n 8 || eqb n 9 || eqb n 11 || eqb n 12 || eqb n 14) ≡ not (eqb n 10) → Double status
  unfolding single is_told
  says n h low high two kept = record { low = omega arith; high = omega arith; double = rw (h, two); counts = λ t a b. kept-many status t a b ∙ rw (h, kept) }

  abbrev m : ℕ
  m = status / 16

  four : 8 ≤ m → m < 12 → Double status
  four low high =
      ⊎_elim (λ e. says 8 (eqb-true m 8 e) (omega arith) (omega arith) refl refl)
      (λ a. ⊎_elim (λ e. says 9 (eqb-true m 9 e) (omega arith) (omega arith) refl refl)
      (λ b. ⊎_elim (λ e. says 10 (eqb-true m 10 e) (omega arith) (omega arith) refl refl)
      (λ c. says 11 (last (eqb-false m 8 a) (eqb-false m 9 b) (eqb-false m 10 c)) (omega arith) (omega arith) refl refl)
      (which (eqb m 10))) (which (eqb m 9))) (which (eqb m 8))
    where
      last : (m ≡ 8 → ⊥) → (m ≡ 9 → ⊥) → (m ≡ 10 → ⊥) → m ≡ 11
      last a b c = omega (arith, a, b, c, low, high)

  double : ((leb 8 m && ltb m 12) || eqb m 14) ≡ true → Double status
  double = go (leb 8 m && ltb m 12) refl (eqb m 14) refl
    where
      go : (a : Bool) → (leb 8 m && ltb m 12) ≡ a → (b : Bool) → eqb m 14 ≡ b → (a || b) ≡ true → Double status
      go true e b f h = four (leb-true 8 m (left (leb 8 m) (ltb m 12) e)) (ltb-true m 12 (right (leb 8 m) (ltb m 12) e))
      go false e true f h = says 14 (eqb-true m 14 f) (omega arith) (omega arith) refl refl
      go false e false f h = absurd (true≢false (sym h))

pub returns : goal.returns
returns c = double c.args.status
