-- The answers of the calls, chosen by what the tests said.
--     refused, done         of a call that leaves a track and asks one test
--     refused-by, done-by   of one that asked for its number
--     asked-well, asked-ill of one that asked for a refusal
--     code_of               the number of an answer is the one that it was chosen by
use mathlib.Core.Path.{◌≡◌, refl, sym, ap, ◌∙◌}
use mathlib.Core.Bool.{Bool, true, false}
use Prim.Native.Nat.{ℕ, zero, suc}
use native.Mathlib.Omega.{arith}
use borrow.Author.Tests.{eq-eqb, ne_eqb}
use Rattle.std.specs.Prelude.{Result, is_ok}
use Rattle.numbers.specs.declared.refusals.Refusal.{Refusal}
use Rattle.numbers.specs.Refusals.{told}
use Rattle.reserved.specs.Setting.{demand}
use Rattle.state.specs.declared.Track.{Track}
use Rattle.state.specs.Calls.{answer, answered}
use Rattle.numbers.proofs.Asking.{told-well, told-ill}

module _ {ok : Bool} (a b : Track) where
  pub refused : ok ≡ false → answer 4 a ≡ answered (demand ok) a b
  unfolding answered
  refused h = rw h

  pub done : ok ≡ true → answer 0 b ≡ answered (demand ok) a b
  unfolding answered
  done h = rw h

module _ {m n : ℕ} (e : m ≡ n) (a b : Track) where
  pub refused-by : (m ≡ 0 → ⊥) → answer m a ≡ answered n a b
  unfolding answered
  refused-by h = ap (λ (k : ℕ). answer k a) e ∙ rw (ne_eqb n 0 (λ z. h (e ∙ z)))

  pub done-by : m ≡ 0 → answer 0 b ≡ answered n a b
  unfolding answered
  done-by h = rw (eq-eqb n 0 (sym e ∙ h))

module _ (q : Result Unit Refusal) {n : ℕ} (e : told q ≡ n) (a b : Track) where
  pub asked-well : is_ok q ≡ true → answer (told q) b ≡ answered n a b
  asked-well k = ap (λ (m : ℕ). answer m b) (told-well q k) ∙ done-by e a b (told-well q k)

  pub asked-ill : is_ok q ≡ false → answer (told q) a ≡ answered n a b
  asked-ill k = refused-by e a b (told-ill q k)

pub code_of : (a b : Track) (n : ℕ) → (answered n a b).code ≡ n
unfolding answered
code_of a b zero = refl
code_of a b (suc n) = rw (ne_eqb (suc n) 0 (λ (e : suc n ≡ 0). omega (arith, e)))
