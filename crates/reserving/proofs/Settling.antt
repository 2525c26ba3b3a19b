-- What a setter leaves, chosen by its number, and that the two steps in which it goes are one.
--     refused, done   the answer by its number
--     passed_on, no_place, put_in   the second step
--     setting         the old entries go, then a place is asked for: this is the one definition, whatever is put and wherever
--     relisted        a list that was laid is the lent one, unless it is too long, and then nothing else counts
--     turned-away, settled   the two ends of a setter's code
use mathlib.Core.Path.{◌≡◌, refl, sym, ap, ◌∙◌}
use mathlib.Core.Bool.{Bool, true, false, cond, ◌&&◌}
use mathlib.Core.List.{List}
use Prim.Native.Nat.{ℕ}
use borrow.Author.Tests.{eq-eqb, ne_eqb, leb-true, leb-false, le-ltb, lt-ltb}
use lib.Dec.{eqb}
use lib.IntN.{ℤ}
use lib.ListN.{length}
use Rattle.numbers.specs.Limits.{places, list_limit}
use Rattle.numbers.specs.Ranges.{is_target}
use Rattle.counted.specs.declared.Numbers.{Numbers}
use Rattle.std.proofs.Common.{Result, Ok, Err}
use Rattle.std.specs.Result.{is_ok, result_unwrap_or}
use Rattle.numbers.specs.declared.refusals.Refusal.{Refusal}
use Rattle.numbers.specs.declared.refusals.Refusal.TheVariants.{TooMany}
use Rattle.counted.specs.Numbers.{none, numbers, numbers_of}
use Rattle.cycles.specs.declared.Cycle.{Cycle}
use Rattle.cycles.specs.Due.{key}
use Rattle.state.specs.declared.Track.{Track}
use Rattle.state.specs.Tests.{ok_lent}
use Rattle.reserving.specs.declared.Kept.{Kept}
use Rattle.reserving.specs.Clearing.{answer, left, refusal, cleared, reserving, freed, placed}
use Rattle.reserving.specs.Setting.{is_short}

module _ {m n : ℕ} (e : m ≡ n) (a : Track) (cs : List Cycle) (r : Kept) where
  pub refused : (m ≡ 0 → ⊥) → answer m a cs ≡ left n a cs r
  unfolding left
  refused h = ap (λ (k : ℕ). answer k a cs) e ∙ rw (ne_eqb n 0 (λ z. h (e ∙ z)))

  pub done : m ≡ 0 → r ≡ left n a cs r
  unfolding left
  done h = rw (eq-eqb n 0 (sym e ∙ h))

-- the second step, by what the first left and whether there is a place
module _ (a : Track) (cs : List Cycle) (room : Kept → Bool) (put : Kept → Kept) (f : Kept) where
  pub passed_on : (f.code ≡ 0 → ⊥) → f ≡ placed a cs room put f
  unfolding placed
  passed_on h = sym (ap (λ (b : Bool). cond b (cond (room f) (put f) (answer 6 a cs)) f) (ne_eqb f.code 0 h))

  module _ (z : f.code ≡ 0) where
    asks : placed a cs room put f ≡ cond (room f) (put f) (answer 6 a cs)
    unfolding placed
    asks = ap (λ (b : Bool). cond b (cond (room f) (put f) (answer 6 a cs)) f) (eq-eqb f.code 0 z)

    pub no_place : room f ≡ false → answer 6 a cs ≡ placed a cs room put f
    no_place h = sym (asks ∙ ap (λ (b : Bool). cond b (put f) (answer 6 a cs)) h)

    pub put_in : room f ≡ true → put f ≡ placed a cs room put f
    put_in h = sym (asks ∙ ap (λ (b : Bool). cond b (put f) (answer 6 a cs)) h)

module _ (a : Track) (size : ℕ) (cs : List Cycle) (target : ℤ) where
  -- the same over its tests
  abbrev by : Bool → Bool → Bool → Bool → Bool → ℕ
  by s t l o r = cond s (cond t (cond l (cond o (cond r 0 6) 4) 3) 2) 1

  module _ (room : Kept → Bool) (put : Kept → Kept) where
    module _ (f : Kept) (z : f.code ≡ 0) where
      steps : (s t l o : Bool) → placed a cs room put (left (by s t l o true) a cs f) ≡ left (by s t l o (room f)) a cs (put f)
      unfolding placed left
      steps false t l o = refl
      steps true false l o = refl
      steps true true false o = refl
      steps true true true false = refl
      steps true true true true = ap (λ (b : Bool). cond b (cond (room f) (put f) (answer 6 a cs)) f) (eq-eqb f.code 0 z) ∙ go (room f)
        where
          go : (b : Bool) → cond b (put f) (answer 6 a cs) ≡ cond (eqb (cond b 0 6) 0) (put f) (answer (cond b 0 6) a cs)
          go true = refl
          go false = refl

    pub setting : (short ok : Bool) → placed a cs room put (freed a size cs target short ok) ≡ reserving a size cs target short ok room put
    unfolding reserving refusal cleared
    setting short ok = steps (cleared a cs (key target)) refl (eqb size places) (is_target target) short (ok_lent a cs && ok)

  module _ (v : List ℤ) (ok : Numbers → Bool) (room : Numbers → Kept → Bool) (put : Numbers → Kept → Kept) where
    abbrev with : Bool → Numbers → Kept
    with short x = reserving a size cs target short (ok x) (room x) (put x)

    -- past its limit the list is not looked at
    unread : (x y : Numbers) → with false x ≡ with false y
    unfolding reserving refusal left
    unread x y = go (eqb size places) (is_target target)
      where
        go : (s t : Bool) → left (by s t false true true) a cs (put x (cleared a cs (key target))) ≡ left (by s t false true true) a cs (put y (cleared a cs (key target)))
        go true true = refl
        go true false = refl
        go false t = refl

    abbrev laid : Bool → Result Numbers Refusal
    laid b = cond b (Err TooMany) (Ok (numbers v))

    listed : with (is_ok (numbers_of v)) (result_unwrap_or (numbers_of v) none) ≡ with (is_short v) (numbers v)
    listed = go (is_short v) refl
      where
        go : (b : Bool) → is_short v ≡ b → with (is_ok (numbers_of v)) (result_unwrap_or (numbers_of v) none) ≡ with b (numbers v)
        go true e = ap (λ (t : Bool). with (is_ok (laid t)) (result_unwrap_or (laid t) none)) (le-ltb list_limit (length v) (leb-true (length v) list_limit e))
        go false e = ap (λ (t : Bool). with (is_ok (laid t)) (result_unwrap_or (laid t) none)) (lt-ltb list_limit (length v) (leb-false (length v) list_limit e)) ∙ unread none (numbers v)

    pub relisted : {l : Result Numbers Refusal} → l ≡ numbers_of v → with (is_ok l) (result_unwrap_or l none) ≡ with (is_short v) (numbers v)
    relisted e = ap (λ (x : Result Numbers Refusal). with (is_ok x) (result_unwrap_or x none)) e ∙ listed

  -- the two ends of a setter's code, by the number that was asked
  module _ {m : ℕ} (short ok : Bool) (room : Kept → Bool) (put : Kept → Kept) (e : m ≡ refusal a size cs target short ok true) where
    pub turned-away : (m ≡ 0 → ⊥) → answer m a cs ≡ reserving a size cs target short ok room put
    unfolding reserving
    turned-away h =
        passed_on a cs room put (answer m a cs) h
        ∙ ap (placed a cs room put) (refused e a cs (cleared a cs (key target)) h)
        ∙ setting room put short ok

    pub settled : {r : Kept} → m ≡ 0 → r ≡ placed a cs room put (cleared a cs (key target)) → r ≡ reserving a size cs target short ok room put
    unfolding reserving
    settled z p = p ∙ ap (placed a cs room put) (done e a cs (cleared a cs (key target)) z) ∙ setting room put short ok
