-- What the number of a setter's answer says, whatever is put and wherever.
--     accepted, left-put   0: every test passed, and what is left is what was put
--     code_is, refused     any other: the number of the refusal, and everything as it was given
--     placeless            6: for want of a place
--     passing              what is left passes the test, if what is put does
--     last, there, again   where the reservation then stands, and that setting it again wants no place
use mathlib.Core.Path.{◌≡◌, refl, sym, ap, ◌∙◌}
use mathlib.Core.Bool.{Bool, true, false, cond, ◌&&◌, true≢false}
use mathlib.Core.List.{List, [], ◌∷◌, ◌++◌, map}
use Prim.Native.Nat.{ℕ, zero, suc, ◌≤◌}
use native.Mathlib.Omega.{arith}
use borrow.Author.Tests.{ne_eqb, lt-ltb}
use lib.Dec.{eqb, ltb}
use lib.IntN.{ℤ}
use lib.ListN.{length, take}
use Rattle.laws.specs.Lists.{without}
use Rattle.laws.specs.Keys.{absent}
use Rattle.numbers.specs.Limits.{places}
use Rattle.numbers.specs.Ranges.{is_target}
use Rattle.cycles.specs.declared.Cycle.{Cycle}
use Rattle.cycles.specs.Due.{key}
use Rattle.state.specs.declared.Track.{Track}
use Rattle.state.specs.Tests.{ok_lent}
use Rattle.reserving.specs.declared.Kept.{Kept}
use Rattle.reserving.specs.Clearing.{answer, left, refusal, cleared, reserving}
use Rattle.reserving.proofs.Refusing.{aimed, usable, allowed, roomy}
use Rattle.reserving.proofs.Keeping.{Passes}
use Rattle.reserving.proofs.Tables.{fewer, behind}

module _ (a : Track) (size : ℕ) (cs : List Cycle) (target : ℤ) (short ok : Bool) (room : Kept → Bool) (put : Kept → Kept) where
  abbrev r : Kept
  r = reserving a size cs target short ok room put

  abbrev f : Kept
  f = cleared a cs (key target)

  abbrev number : ℕ
  number = refusal a size cs target short ok (room f)

  -- what the answer's number says
  chosen : (n : ℕ) → ((left n a cs (put f)).code ≡ 0) → n ≡ 0
  unfolding left
  chosen zero e = refl
  chosen (suc n) e = absurd (omega (arith, rw (ne_eqb (suc n) 0 (λ (z : suc n ≡ 0). omega (arith, z))) at e))

  module _ (e : r.code ≡ 0) where
    pub accepted : number ≡ 0
    unfolding reserving
    accepted = chosen number e

    pub left-put : r ≡ put f
    unfolding reserving left
    left-put = rw accepted

  module _ (z : (put f).code ≡ 0) where
    coded : (n : ℕ) → (left n a cs (put f)).code ≡ n
    unfolding left
    coded zero = z
    coded (suc n) = rw (ne_eqb (suc n) 0 (λ (e : suc n ≡ 0). omega (arith, e)))

    pub code_is : r.code ≡ number
    unfolding reserving
    code_is = coded number

    kept_by_lem : (n : ℕ) → (n ≡ 0 → ⊥) → left n a cs (put f) ≡ answer n a cs
    unfolding left
    kept_by_lem n h = rw (ne_eqb n 0 h)

    pub refused : (r.code ≡ 0 → ⊥) → r ≡ answer r.code a cs
    unfolding reserving
    refused h = kept_by_lem number (λ (e : number ≡ 0). h (code_is ∙ e)) ∙ ap (λ (n : ℕ). answer n a cs) (sym code_is)

    -- 6 is given only for want of a place
    full : (s t l o k : Bool) → ◌≡◌ {A = ℕ} (cond s (cond t (cond l (cond (o && k) (cond (room f) 0 6) 4) 3) 2) 1) 6 → (o ≡ true) × (room f ≡ false)
    full false t l o k e = absurd (omega arith)
    full true false l o k e = absurd (omega arith)
    full true true false o k e = absurd (omega arith)
    full true true true false k e = absurd (omega arith)
    full true true true true false e = absurd (omega arith)
    full true true true true true e = (refl, go (room f) e)
      where
        go : (b : Bool) → ◌≡◌ {A = ℕ} (cond b 0 6) 6 → b ≡ false
        go true e = absurd (omega arith)
        go false e = refl

    pub placeless : r.code ≡ 6 → (ok_lent a cs ≡ true) × (room f ≡ false)
    unfolding refusal
    placeless e = full (eqb size places) (is_target target) short (ok_lent a cs) ok (sym code_is ∙ e)

  -- an accepted call leaves what passes, if what is put does
  pub passing : (is_target target ≡ true → ok_lent a cs ≡ true → ok ≡ true → room f ≡ true → Passes (put f)) → r.code ≡ 0 → Passes r
  passing h e =
      let n = accepted e in
      ap (λ (x : Kept). ok_lent x.track x.cycles) (left-put e)
      ∙ h (aimed a size cs target short ok (room f) n) (usable a size cs target short ok (room f) n) (allowed a size cs target short ok (room f) n) (roomy a size cs target short ok (room f) n)

  -- of the kind that is set: n of l count, `id` is an entry's key, x is put in, `used` are those that then count
  module _ {A : Type 0} (id : A → ℕ) (n : ℕ) (l : List A) where
    abbrev others : List A
    others = without (λ (y : A). eqb (id y) (key target)) (take n l)

    module _ (x : A) (used : Kept → List A) (end : used (put f) ≡ others ++ (x ∷ [])) (e : r.code ≡ 0) where
      pub last : used r ≡ others ++ (x ∷ [])
      last = ap used (left-put e) ∙ end

      pub there : id x ≡ key target → absent (key target) (map id (used r)) ≡ false
      there q = ap (λ (y : List A). absent (key target) (map id y)) last ∙ behind id (key target) others x q

    pub again : (put f).code ≡ 0 → room f ≡ ltb (length others) places → (ok_lent a cs ≡ true → n ≤ places)
        → absent (key target) (map id (take n l)) ≡ false → r.code ≡ 6 → ⊥
    again z m few q e =
        let p = placeless z e in
        true≢false (sym (m ∙ lt-ltb (length others) places (fewer id (key target) n l places (few p.0) q)) ∙ p.1)
