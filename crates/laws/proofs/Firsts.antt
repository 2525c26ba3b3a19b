-- A counted list whose first become others (`put_first`), and the test of what counts of it (`counted`).
--     shown, roomy, length-put_first   what counts then, that there is room for it, how long the list is
--     put_same, put-over              the first in their own place, and where as many were put before
--     counted-put                     the test holds where it holds of what is put
--     counted-without, counted-with   once some are taken out, and once one is put at the end
use mathlib.Core.Path.{◌≡◌, sym, ap, ◌∙◌}
use mathlib.Core.Bool.{Bool, true}
use mathlib.Core.List.{List, [], ◌∷◌, ◌++◌}
use Prim.Native.Nat.{ℕ, ◌+◌, ◌-◌, ◌≤◌, ◌<◌, max}
use native.Mathlib.Omega.{arith}
use borrow.Author.Tests.{leb-true, le-leb}
use lib.Dec.{leb}
use lib.ListN.{length, take, drop, replicate, length-append, length-replicate, length-drop, length-take, take-append-drop}
use lib.Seq.{length-take-le, drop_at, take-append_seam}
use Rattle.laws.specs.Lists.{all, counted, without, put_first}
use Rattle.laws.proofs.Ranges.{left, right}
use Rattle.laws.proofs.Compact.{length_without}
use Rattle.laws.proofs.Parts.{all_append, all_without}

module _ {A : Type 0} (z : A) (n : ℕ) where
  pub roomy : (now l : List A) → length now ≤ length (put_first z n now l)
  roomy now l = rw length-append (omega arith)

  -- what is put first and fits leaves the length as it was
  pub length-put_first : (now l : List A) → n ≤ length l → length now ≤ length l → length (put_first z n now l) ≡ length l
  length-put_first now l h k = rw (length-append, length-append, length-replicate, length-drop) (omega arith)

  pub put_same : (l : List A) → n ≤ length l → put_first z n (take n l) l ≡ l
  put_same l h =
      let k = length-take-le n l h in
      let a : n - length (take n l) ≡ 0 = omega arith in
      let m : max n (length (take n l)) ≡ n = omega arith in
      rw (a, m) (take-append-drop n l)

  -- put first where as many as count were put before
  pub put-over : (rs now l : List A) → length rs ≡ n → length now ≤ n → put_first z n now (put_first z n rs l) ≡ put_first z n now l
  put-over rs now l e h =
      let none : n - length rs ≡ 0 = omega arith in
      let most : max n (length rs) ≡ n = omega arith in
      let top : max n (length now) ≡ n = omega arith in
      rw (top, none, most) (ap (λ (x : List A). now ++ (replicate (n - length now) z ++ x)) (drop_at rs (drop n l) n e))

module _ {A : Type 0} (z : A) (n : ℕ) (l : List A) where
  pub shown : (now : List A) → take (length now) (put_first z n now l) ≡ now
  shown now = take-append_seam now _

  module _ (p : A → Bool) (most : ℕ) (e : counted n most p l ≡ true) where
    few : n ≤ most
    unfolding counted
    few = leb-true n most (left (leb n most) (all p (take n l)) e)

    each : all p (take n l) ≡ true
    unfolding counted
    each = right (leb n most) (all p (take n l)) e

    pub counted-put : (now : List A) → length now ≤ most → all p now ≡ true → counted (length now) most p (put_first z n now l) ≡ true
    unfolding counted
    counted-put now h a = rw (le-leb (length now) most h, shown now) a

    pub counted-without : (out : A → Bool) → (let now = without out (take n l) in counted (length now) most p (put_first z n now l) ≡ true)
    counted-without out =
        let m = few in
        counted-put (without out (take n l)) (omega (arith, length_without out (take n l), length-take n l)) (all_without p out (take n l) each)

    pub counted-with : (x : A) → n < most → n ≤ length l → p x ≡ true → counted (n + 1) most p (put_first z n (take n l ++ (x ∷ [])) l) ≡ true
    unfolding all
    counted-with x h k q =
        let m : length (take n l ++ (x ∷ [])) ≡ n + 1 = length-append (take n l) (x ∷ []) ∙ ap (λ (i : ℕ). i + 1) (length-take-le n l k) in
        ap (λ (i : ℕ). counted i most p (put_first z n (take n l ++ (x ∷ [])) l)) (sym m)
        ∙ counted-put (take n l ++ (x ∷ [])) (omega arith) (all_append p (take n l) (x ∷ []) each (rw q))
