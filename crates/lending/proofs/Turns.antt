-- The invariant of a walk over lent records, whatever the records and the states are: before the record at i, what is left of the
-- walk is the walk from there on. `next` is a turn, `ends` says what is there when none is left.
use mathlib.Core.Path.{◌≡◌, refl, ◌∙◌}
use mathlib.Core.List.{List, [], ◌∷◌, ◌++◌, append_assoc, append-nil}
use Prim.Native.Nat.{ℕ, suc, ◌+◌, ◌<◌, ◌≤◌}
use native.Mathlib.Omega.{arith}
use native.Mathlib.Numerals.{add-one}
use lib.ListN.{length, set, get_or, take, drop, length-set, drop_of_length-le}
use lib.Seq.{drop-cons, drop-set-lt, take-suc-set, take_all}
use Rattle.lending.specs.Passing.{ran, placed}

-- d: what a read past the end gives; s₀, ys: the state and the records before the walk
module _ {R S : Type 0} (f : S → R → S) (g : S → R → R) (d : R) (s₀ : S) (ys : List R) where
  pub record Turn (i : ℕ) (zs : List R) (s : S) : Type 0 where
    pub long : length zs ≡ length ys
    pub within : i ≤ length ys
    pub left : ran f s (drop i zs) ≡ ran f s₀ ys
    pub done : take i zs ++ placed f g s (drop i zs) ≡ placed f g s₀ ys

  pub start : Turn 0 ys s₀
  start = record { long = refl; within = omega arith; left = refl; done = refl }

  module _ (i : ℕ) (zs : List R) (s : S) (t : Turn i zs s) where
    inside : i < length ys → i < length zs
    inside less = omega (arith, t.long)

    abbrev here : R
    here = get_or zs i d

    module _ (less : i < length ys) (r : R) (s' : S) (er : r ≡ g s here) (es : s' ≡ f s here) where
      abbrev zs' : List R
      zs' = set zs i r

      behind : drop (i + 1) zs' ≡ drop (suc i) zs
      behind = rw add-one (drop-set-lt (suc i) zs i r (omega arith))

      before : take (i + 1) zs' ≡ take i zs ++ (r ∷ [])
      before = rw add-one (take-suc-set zs i r (inside less))

      next-left : ran f s' (drop (i + 1) zs') ≡ ran f s₀ ys
      unfolding ran
      next-left = rw (behind, es) (rw (drop-cons zs i d (inside less)) at t.left)

      next-done : take (i + 1) zs' ++ placed f g s' (drop (i + 1) zs') ≡ placed f g s₀ ys
      unfolding placed
      next-done = rw (behind, before, append_assoc, er, es) (rw (drop-cons zs i d (inside less)) at t.done)

      pub next : Turn (i + 1) zs' s'
      next = record { long = length-set zs i r ∙ t.long; within = omega arith; left = next-left; done = next-done }

    module _ (over : length ys ≤ i) where
      none : drop i zs ≡ []
      none = drop_of_length-le zs {i = i} (omega (arith, t.long))

      pub ends-state : s ≡ ran f s₀ ys
      unfolding ran
      ends-state = rw none at t.left

      pub ends-table : zs ≡ placed f g s₀ ys
      unfolding placed
      ends-table = rw (none, take_all i zs (omega (arith, t.long)), append-nil) at t.done
