-- A table that is closed up in place: the laws Taking, where the array is the list of its records itself.
--     drop-one, keep_one   a record is taken out, or moved to the front of what is left
--     finished             all are passed, and what is left is cleared: the table is the one without the target
use mathlib.Core.Path.{◌≡◌, refl, ap, ◌∙◌}
use mathlib.Core.Bool.{Bool, true, false}
use mathlib.Core.List.{List}
use Prim.Native.Nat.{ℕ, ◌+◌, ◌≤◌, ◌<◌}
use native.Mathlib.Omega.{arith}
use lib.ListN.{length, get_or, set, take, length-take, length-set}
use Rattle.laws.specs.Lists.{without, put_first}
use Rattle.laws.proofs.Taking.{Compacting, Clearing, n-le, step-drop, step-keep, closed, clear-more}
use Rattle.laws.proofs.Compact.{cleared-put, kept}
use Rattle.laws.proofs.Reading.{get_d_any}

module _ {A : Type 0} where
  module _ (z : A) (out : A → Bool) (l₀ l : List A) (count i n : ℕ) (v : Compacting (λ (x : List A). x) z out l₀ l count i n) (fit : count ≤ length l₀) where
    pub few : n ≤ i
    few = n-le (λ (x : List A). x) z out l₀ l count i n v fit

    module _ (inside : i < count) (d : A) (t : Bool) (asked : t ≡ out (get_or l i d)) where
      same : get_or l i d ≡ get_or l i z
      same = get_d_any l i d z (omega (arith, v.long))

      pub drop-one : t ≡ true → Compacting (λ (x : List A). x) z out l₀ l count (i + 1) n
      drop-one y = step-drop (λ (x : List A). x) z out l₀ l count i n v fit inside (get_or l i d) same t asked y

      pub keep_one : t ≡ false → Compacting (λ (x : List A). x) z out l₀ (set l n (get_or l i d)) count (i + 1) (n + 1)
      keep_one y =
          step-keep (λ (x : List A). x) z out l₀ l count i n v fit inside (get_or l i d) same t asked y
          (set l n (get_or l i d)) (length-set l n (get_or l i d)) refl

    pub finished : count ≤ i
        → (n ≡ length (without out (take count l₀))) × (put_first z count (take n l) l ≡ put_first z count (without out (take count l₀)) l₀)
    finished past =
        let all : i ≡ count = omega (arith, v.within) in
        let m : n ≡ length (kept out z l₀ count) = rw all at v.counted in
        (m, closed (λ (x : List A). x) z out l₀ l count i n v fit past (put_first z count (take n l) l) refl)

  -- the places from `from` on are cleared, one after the other
  module _ (z : A) (l₁ l : List A) (count from i : ℕ) (v : Clearing (λ (x : List A). x) z l₁ l count from i) (fit : count ≤ length l₁) where
    pub clear-one : i < count → (e : A) → e ≡ z → Clearing (λ (x : List A). x) z l₁ (set l i e) count from (i + 1)
    clear-one inside e q =
        clear-more (λ (x : List A). x) z l₁ l (set l i e) count from i v inside fit (length-set l i e) (ap (λ (a : A). set l i a) q)

    pub all-clear : count ≤ i → l ≡ put_first z count (take from l₁) l₁
    all-clear past =
        let all : i ≡ count = omega (arith, v.within) in
        rw all at v.sofar ∙ cleared-put z l₁ (take from l₁) count (omega (arith, v.from, length-take from l₁))
