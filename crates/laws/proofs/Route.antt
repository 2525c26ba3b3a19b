-- The way of a call through its tests. The early returns of its code spell such a way, and a number tells which one was gone.
--     Route l n        the first tests of l hold and the next one gives n; or all of them hold, and n is 0
--     arrives          a way's number is the verdict: what is proved of each return
--     way              a verdict has its way: what a number tells, read off by matching
--     Held, held       what each test says where the verdict is 0
--     later            tests behind one that holds may be exchanged for others that come to the same
--     said             a number may stand for the tests that gave it, in front of those behind them: with one test more in front too
--     stays, goes      refused, a call leaves what it was handed; else what it makes
--     number_of        an answer bears the number that it was chosen by, where what is made bears 0
--     either           what holds of both holds of the answer; of what is made it need hold only where the number is 0
--     handed, made     what the answer is, by the way that a call went
use mathlib.Core.Path.{◌≡◌, refl, subst}
use mathlib.Core.Bool.{Bool, true, false}
use mathlib.Core.List.{List, [], ◌∷◌}
use Prim.Native.Nat.{ℕ, zero, suc}
use native.Mathlib.Omega.{arith}
use borrow.Author.Tests.{ne_eqb}
use lib.Dec.{eqb}
use Rattle.laws.specs.Verdict.{Test, asks, says, verdict, settle}

pub data Route : List Test → ℕ → Type 0 where
  through : Route [] 0
  fails : {n : ℕ} {t : Bool} {l : List Test} → t ≡ false → Route (asks n t ∷ l) n
  holds : {n m : ℕ} {t : Bool} {l : List Test} → t ≡ true → Route l m → Route (asks n t ∷ l) m
  told : {n : ℕ} {l : List Test} → (n ≡ 0 → ⊥) → Route (says n ∷ l) n
  clear : {n m : ℕ} {l : List Test} → n ≡ 0 → Route l m → Route (says n ∷ l) m

pub arrives : {l : List Test} {n : ℕ} → Route l n → verdict l ≡ n
unfolding verdict
arrives through = refl
arrives (fails e) = rw e
arrives (holds e r) = rw e (arrives r)
arrives (told {n = zero} h) = absurd (h refl)
arrives (told {n = suc n} h) = refl
arrives (clear e r) = rw e (arrives r)

gone : (l : List Test) → Route l (verdict l)
unfolding verdict
gone [] = through
gone (asks n true ∷ l) = holds refl (gone l)
gone (asks n false ∷ l) = fails refl
gone (says zero ∷ l) = clear refl (gone l)
gone (says (suc n) ∷ l) = told (λ (e : suc n ≡ 0). omega arith)

pub way : (l : List Test) {n : ℕ} → verdict l ≡ n → Route l n
way l e = subst (λ (m : ℕ). Route l m) e (gone l)

-- a test that is numbered 0 tells nothing, nor do those behind it
abbrev pub Held : List Test → Type 0
Held [] = Unit
Held (asks zero t ∷ l) = Unit
Held (asks (suc n) t ∷ l) = (t ≡ true) × Held l
Held (says n ∷ l) = (n ≡ 0) × Held l

pub held : (l : List Test) → verdict l ≡ 0 → Held l
unfolding verdict
held [] e = tt
held (asks zero t ∷ l) e = tt
held (asks (suc n) true ∷ l) e = (refl, held l e)
held (asks (suc n) false ∷ l) e = absurd (omega arith)
held (says zero ∷ l) e = (refl, held l e)
held (says (suc n) ∷ l) e = absurd (omega arith)

pub later : (n : ℕ) (t : Bool) (l k : List Test) → (t ≡ true → verdict l ≡ verdict k) → verdict (asks n t ∷ l) ≡ verdict (asks n t ∷ k)
unfolding verdict
later n true l k h = h refl
later n false l k h = refl

pub said : (n : ℕ) (t : Bool) (l m k : List Test) → verdict l ≡ verdict (says (verdict m) ∷ k)
    → verdict (asks (suc n) t ∷ l) ≡ verdict (says (verdict (asks (suc n) t ∷ m)) ∷ k)
unfolding verdict
said n true l m k h = h
said n false l m k h = refl

-- ---- what is left by a number
above : (n : ℕ) → eqb (suc n) 0 ≡ false
above n = ne_eqb (suc n) 0 (λ (e : suc n ≡ 0). omega (arith, e))

module _ {A : Type 0} (new old : A) (n : ℕ) where
  pub stays : (n ≡ 0 → ⊥) → settle n new old ≡ old
  stays h = rw (ne_eqb n 0 h)

  pub goes : n ≡ 0 → settle n new old ≡ new
  goes e = rw e

pub number_of : {A : Type 0} (code : A → ℕ) (new old : A) (n : ℕ) → code new ≡ 0 → code old ≡ n → code (settle n new old) ≡ n
number_of code new old zero p q = p
number_of code new old (suc n) p q = rw (above n) q

pub either : {A : Type 0} (P : A → Type 0) (new old : A) (n : ℕ) → (n ≡ 0 → P new) → P old → P (settle n new old)
either P new old zero p q = p refl
either P new old (suc n) p q = rw (above n) q

module _ {A : Type 0} (new : A) (old : ℕ → A) {l : List Test} where
  pub handed : {n : ℕ} → Route l (suc n) → old (suc n) ≡ settle (verdict l) new (old (verdict l))
  handed {n} r = rw (arrives r, above n)

  pub made : Route l 0 → new ≡ settle (verdict l) new (old (verdict l))
  made r = rw (arrives r)
