-- A list of records that is compacted in place, over any way to read a slice as records and over what is kept: `kept i` says what is kept of
-- the first i, each as it stood or changed.
--     Moving                                the first i are passed, and what is kept of them stands in front
--     n-le, same-behind, same_rest, still   what is not passed yet stands as it stood
--     pass, move                            one record more, left out or kept
--     settled                               all are passed, and the places that fell vacant are cleared
--     changed-..                            what is kept is what a test leaves, each record changed
use mathlib.Core.Bool.{Bool, true, false}
use mathlib.Core.Path.{◌≡◌, sym, ap, ◌∙◌}
use mathlib.Core.List.{List, [], ◌∷◌, ◌++◌, map, map-append}
use Prim.Native.Nat.{ℕ, suc, ◌+◌, ◌-◌, ◌≤◌, ◌<◌, max}
use native.Mathlib.Nat.{add-zero}
use native.Mathlib.Numerals.{add-one}
use native.Mathlib.Omega.{arith}
use lib.ListN.{length, get_or, set, take, drop, length-append, length-map}
use lib.Seq.{drop-cons, set_at, append_snoc, get_or-drop, take_at}
use Rattle.laws.specs.Lists.{put_first}
use Rattle.laws.proofs.Compact.{kept, kept-le, kept-drop, kept-keep, past, drop-take}

module _ {A R : Type 0} (rd : List A → List R) (z : R) where
  pub record Moving (kept : ℕ → List R) (l₀ l : List A) (count i n : ℕ) : Type 0 where
    pub within : i ≤ count
    pub long : length l ≡ length l₀
    pub counted : n ≡ length (kept i)
    pub sofar : rd l ≡ kept i ++ drop n (rd l₀)

  module _ (kept : ℕ → List R) (l₀ l : List A) (count i n : ℕ) (v : Moving kept l₀ l count i n) (few : length (kept i) ≤ i) (fit : count ≤ length (rd l₀)) where
    pub n-le : n ≤ i
    n-le = let c = v.counted in omega arith

    pub same-behind : (j : ℕ) → n ≤ j → drop j (rd l) ≡ drop j (rd l₀)
    same-behind j h =
        ap (drop j) (v.sofar ∙ ap (λ (k : ℕ). kept i ++ drop k (rd l₀)) v.counted) ∙ past (rd l₀) (kept i) j (let c = v.counted in omega arith)

    pub same_rest : (j : ℕ) → n ≤ j → drop j (take count (rd l)) ≡ drop j (take count (rd l₀))
    same_rest j h = drop-take j count (rd l) ∙ ap (take (count - j)) (same-behind j h) ∙ sym (drop-take j count (rd l₀))

    pub still : get_or (rd l) i z ≡ get_or (rd l₀) i z
    still =
        let first : (x : List R) → get_or (drop i x) 0 z ≡ get_or x i z = λ x. get_or-drop i x 0 z ∙ ap (λ (k : ℕ). get_or x k z) (add-zero i) in
        sym (first (rd l)) ∙ ap (λ (x : List R). get_or x 0 z) (same-behind i n-le) ∙ first (rd l₀)

    module _ (inside : i < count) where
      pub pass : kept (i + 1) ≡ kept i → Moving kept l₀ l count (i + 1) n
      pass e = record { within = omega arith; long = v.long; counted = v.counted ∙ sym (ap length e); sofar = rw e v.sofar }

      pub move : (x : R) → kept (i + 1) ≡ kept i ++ (x ∷ []) → (l' : List A) → length l' ≡ length l → rd l' ≡ set (rd l) n x → Moving kept l₀ l' count (i + 1) (n + 1)
      move x e l' le w =
          let h = n-le in
          let a : set (kept i ++ drop n (rd l₀)) n x ≡ kept i ++ (x ∷ drop (suc n) (rd l₀)) =
          rw (drop-cons (rd l₀) n z (omega arith)) (set_at (kept i) (get_or (rd l₀) n z) (drop (suc n) (rd l₀)) x n (sym v.counted)) in
          record {
            within = omega arith;
            long = le ∙ v.long;
            counted = ap (λ (k : ℕ). k + 1) v.counted ∙ sym (ap length e ∙ length-append (kept i) (x ∷ []));
            sofar = w ∙ ap (λ (r : List R). set r n x) v.sofar ∙ a ∙ sym (rw (e, add-one) (append_snoc (kept i) x (drop (suc n) (rd l₀))));
          }

    pub settled : count ≤ i → (l' : List A) → rd l' ≡ put_first z count (take n (rd l)) (rd l) → rd l' ≡ put_first z count (kept count) (rd l₀)
    settled end l' w =
        let c = v.counted in
        let ei : i ≡ count = (let k = v.within in omega arith) in
        let t : take n (rd l) ≡ kept i = ap (take n) v.sofar ∙ take_at (kept i) (drop n (rd l₀)) n (sym v.counted) in
        let most : max count (length (kept i)) ≡ count = omega arith in
        let d : drop count (rd l) ≡ drop count (rd l₀) = same-behind count (let h = n-le in omega arith) in
        let here : put_first z count (kept i) (rd l) ≡ put_first z count (kept i) (rd l₀) = rw (most, d) in
        w ∙ ap (λ (x : List R). put_first z count x (rd l)) t ∙ here ∙ ap (λ (j : ℕ). put_first z count (kept j) (rd l₀)) ei

module _ {R : Type 0} (z : R) (f : R → R) (out : R → Bool) (l : List R) where
  abbrev pub changed : ℕ → List R
  changed i = map f (kept out z l i)

  pub changed-few : (i : ℕ) → i ≤ length l → length (changed i) ≤ i
  changed-few i h = rw (length-map (kept out z l i) f) (kept-le out z l i h)

  pub changed-pass : (i : ℕ) → i < length l → out (get_or l i z) ≡ true → changed (i + 1) ≡ changed i
  changed-pass i h e = ap (map f) (kept-drop out z l i h e)

  pub changed-move : (i : ℕ) → i < length l → out (get_or l i z) ≡ false → changed (i + 1) ≡ changed i ++ (f (get_or l i z) ∷ [])
  changed-move i h e = ap (map f) (kept-keep out z l i h e) ∙ map-append f (kept out z l i) (get_or l i z ∷ [])
