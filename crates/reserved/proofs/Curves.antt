-- The walk along a curve's triples, from the front: what is left of the time decides.
--     here    it falls into the triple at i
--     on      it goes past it
--     over    no triple is left
use mathlib.Core.Path.{◌≡◌, ap, ◌∙◌}
use mathlib.Core.List.{List}
use Prim.Native.Nat.{ℕ, ◌+◌, ◌-◌, ◌≤◌, ◌<◌}
use native.Mathlib.Numerals.{add-one}
use borrow.Author.Tests.{lt-ltb, le-ltb}
use lib.ListN.{length, get_or, drop, drop_of_length-le}
use lib.Seq.{drop-cons}
use Rattle.std.proofs.Common.{Some, None}
use Rattle.laws.specs.Integers.{cut}
use Rattle.shapes.specs.Curve.{curve_of}
use Rattle.counted.specs.Curves.{Triple, no_triple}
use Rattle.reserved.specs.Curve.{curve_at}

module _ (l : List Triple) (i t : ℕ) where
  pub over : length l ≤ i → curve_at (drop i l) t ≡ None
  unfolding curve_at
  over h = ap (λ (x : List Triple). curve_at x t) (drop_of_length-le l h)

  module _ (h : i < length l) (n : ℕ) (e : n ≡ cut (get_or l i no_triple).length) where
    pub here : t < n → curve_at (drop i l) t ≡ Some (curve_of (get_or l i no_triple).low (get_or l i no_triple).high t n)
    unfolding curve_at
    here k = ap (λ (x : List Triple). curve_at x t) (drop-cons l i no_triple h) ∙ rw (← e, lt-ltb t n k)

    pub on : n ≤ t → curve_at (drop i l) t ≡ curve_at (drop (i + 1) l) (t - n)
    unfolding curve_at
    on k = ap (λ (x : List Triple). curve_at x t) (drop-cons l i no_triple h) ∙ rw (← e, le-ltb t n k, add-one)
