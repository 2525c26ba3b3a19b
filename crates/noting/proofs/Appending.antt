-- Records put behind a list one after the other (`Appending`), over any record.
use mathlib.Core.Path.{◌≡◌, sym, ap, ap₂, ◌∙◌}
use mathlib.Core.List.{List, [], ◌∷◌, ◌++◌, append-nil, append_assoc}
use Prim.Native.Nat.{ℕ, ◌+◌, ◌≤◌, ◌<◌}
use native.Mathlib.Omega.{arith}
use native.Mathlib.Numerals.{add-one}
use lib.ListN.{length, get_or, take, length-append, take-append-drop}
use lib.Seq.{take-suc, length-take-le}
use Rattle.laws.specs.Lists.{put_first}
use Rattle.laws.proofs.Compact.{put_one}
use Rattle.noting.proofs.Walking.{put_whole}

module _ {A : Type 0} (z : A) (rs new : List A) (count made : ℕ) where
  -- the list once the first i stand behind it
  abbrev with' : ℕ → List A
  with' i = take count rs ++ take i new

  pub record Appending (now : List A) (n i : ℕ) : Type 0 where
    pub upto : i ≤ made
    pub counted : n ≡ count + i
    pub rows : now ≡ put_first z count (with' i) rs

  module _ (fit : count ≤ length rs) where
    pub begun : Appending rs count 0
    begun =
        record {
          upto = omega arith;
          counted = omega arith;
          rows =
              sym (take-append-drop count rs) ∙ sym (put_whole z count (take count rs) rs (length-take-le count rs fit))
              ∙ ap (λ (x : List A). put_first z count x rs) (sym (append-nil (take count rs)));
        }

    module _ (roomy : made ≤ length new) (now : List A) (n i : ℕ) (v : Appending now n i) where
      long : length (with' i) ≡ n
      long =
          length-append (take count rs) (take i new)
          ∙ omega (arith, length-take-le count rs fit, length-take-le i new (omega (arith, v.upto)), v.counted)

      pub one_more : i < made → (d : A) (now' : List A) → now' ≡ put_first z n (take n now ++ (get_or new i d ∷ [])) now → Appending now' (n + 1) (i + 1)
      one_more less d now' e =
          record {
            upto = omega arith;
            counted = omega (arith, v.counted);
            rows =
                e
                ∙ ap₂ (λ (m : ℕ) (x : List A). put_first z m (take m x ++ (get_or new i d ∷ [])) x) (sym long) v.rows
                ∙ put_one z (get_or new i d) count (with' i) rs
                ∙ ap (λ (x : List A). put_first z count x rs)
                (append_assoc (take count rs) (take i new) (get_or new i d ∷ []) ∙ ap (λ (x : List A). take count rs ++ x) (rw add-one (sym (take-suc new i d (omega arith)))));
          }

      pub all_in : made ≤ i → (n ≡ count + made) × (now ≡ put_first z count (with' made) rs)
      all_in past =
          let e : i ≡ made = omega (arith, v.upto) in
          (omega (arith, v.counted), v.rows ∙ ap (λ (k : ℕ). put_first z count (with' k) rs) e)
