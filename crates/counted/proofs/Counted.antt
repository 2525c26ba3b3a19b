-- Laws of counted lists, over the list's limit.
--     shown-numbers     the numbers that count of a list laid into one are the list
--     numbers-count, numbers-at   what the test of a list says of it
--     laid-numbers, laid-curve   the tests of a list laid into a counted one are those of the list
use mathlib.Core.Path.{◌≡◌, refl, sym, ap, ◌∙◌}
use mathlib.Core.Bool.{true}
use mathlib.Core.List.{List}
use Prim.Native.Nat.{ℕ, ◌+◌, ◌*◌, ◌/◌, ◌≤◌, ◌<◌}
use native.Mathlib.Omega.{arith}
use borrow.Author.Tests.{leb-true, le-leb}
use lib.Dec.{leb}
use lib.IntN.{ℤ, pos}
use lib.ListN.{length, get_or, drop}
use lib.Seq.{take_at, get_or-take}
use Rattle.laws.specs.Lists.{all, counted}
use Rattle.laws.proofs.Ranges.{left, right}
use Rattle.laws.proofs.Tests.{all-at}
use Rattle.laws.proofs.Parts.{all-get}
use Rattle.numbers.specs.Limits.{list_limit}
use Rattle.numbers.specs.Ranges.{is_number, is_length}
use Rattle.numbers.proofs.Tested.{zero_number}
use Rattle.counted.specs.declared.Numbers.{Numbers}
use Rattle.counted.specs.Numbers.{zeros, numbers, shown, ok_numbers}
use Rattle.counted.specs.Curves.{triples, has_length, no_triple, is_curve, ok_curve}
use Rattle.counted.proofs.Triples.{length-triples, third}

pub room : length zeros ≡ list_limit
unfolding zeros
room = refl

pub shown-numbers : (v : List ℤ) → shown (numbers v) ≡ v
shown-numbers v = take_at v (drop (length v) zeros) (length v) refl

module _ (a : Numbers) where
  pub numbers-count : ok_numbers a ≡ true → a.count ≤ list_limit
  unfolding ok_numbers counted
  numbers-count e = leb-true a.count list_limit (left (leb a.count list_limit) (all is_number (shown a)) e)

  pub numbers-at : (i : ℕ) → ok_numbers a ≡ true → i < a.count → is_number (get_or a.items i (pos 0)) ≡ true
  unfolding ok_numbers counted
  numbers-at i e h =
      sym (ap is_number (get_or-take a.count a.items i (pos 0) h))
      ∙ all-get is_number (shown a) i (pos 0) zero_number (right (leb a.count list_limit) (all is_number (shown a)) e)

  pub curve-numbers : ok_curve a ≡ true → ok_numbers a ≡ true
  unfolding ok_curve
  curve-numbers e = left (ok_numbers a) (all has_length (triples (shown a))) e

  pub curve-triples : length a.items ≡ list_limit → ok_curve a ≡ true → length (triples (shown a)) ≡ a.count / 3
  curve-triples m e = let k = numbers-count (curve-numbers e) in length-triples a (omega arith)

  module _ (m : length a.items ≡ list_limit) (i : ℕ) where
    pub curve-length : ok_curve a ≡ true → i < a.count / 3 → is_length (get_or a.items (i * 3 + 2) (pos 0)) ≡ true
    unfolding ok_curve
    curve-length e h =
        let k = numbers-count (curve-numbers e) in
        let n = length-triples a (omega arith) in
        sym (third a (omega arith) i h)
        ∙ all-at has_length (triples (shown a)) i no_triple (omega arith) (right (ok_numbers a) (all has_length (triples (shown a))) e)

module _ (v : List ℤ) (h : length v ≤ list_limit) where
  pub laid-numbers : ok_numbers (numbers v) ≡ all is_number v
  unfolding ok_numbers counted
  laid-numbers = rw (le-leb (length v) list_limit h, shown-numbers v)

  pub laid-curve : ok_curve (numbers v) ≡ is_curve v
  unfolding ok_curve is_curve
  laid-curve = rw (laid-numbers, shown-numbers v)
