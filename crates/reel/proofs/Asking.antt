-- What was asked, by what became of it: where it refuses it did not hold, and where it does not it held.
use mathlib.Core.Bool.{Bool, true, false}
use mathlib.Core.Path.{◌≡◌, refl}
use mathlib.Core.Logic.{⊎_elim}
use Prim.Native.Nat.{ℕ, ◌≤◌, ◌<◌}
use lib.Dec.{leb}
use borrow.Author.Tests.{leb-true, leb-false}
use Rattle.std.specs.Prelude.{Result, Ok, Err}
use Rattle.laws.proofs.Bools.{which}
use Rattle.numbers.specs.declared.refusals.Refusal.{Refusal}
use Rattle.numbers.specs.Refusals.{asked}

pub asked-no : (holds : Bool) {r e : Refusal} → Err e ≡ asked holds r → (holds ≡ false) × (e ≡ r)
asked-no true h = absurd (cc)
asked-no false h = (refl, cc)

pub asked-yes : (holds : Bool) (r : Refusal) {u : Unit {0}} → Ok u ≡ asked holds r → holds ≡ true
asked-yes true r h = refl
asked-yes false r h = absurd (cc)

-- what became of asking whether a ≤ b
pub asked-within : (a b : ℕ) (r : Refusal) {k : Result Unit Refusal} → (a ≤ b → Ok tt ≡ k) → (b < a → Err r ≡ k) → asked (leb a b) r ≡ k
asked-within a b r within past = ⊎_elim (λ e. rw e (within (leb-true a b e))) (λ e. rw e (past (leb-false a b e))) (which (leb a b))
