-- Where a counted list's triples stand in its array.
--     length-triples   a third as many as numbers count
--     third            the third number of triple i stands at i * 3 + 2
use mathlib.Core.Path.{◌≡◌, ap, ◌∙◌}
use Prim.Native.Nat.{ℕ, ◌+◌, ◌*◌, ◌/◌, ◌≤◌, ◌<◌}
use native.Mathlib.Nat.{add-zero}
use native.Mathlib.Omega.{arith}
use lib.IntN.{pos}
use lib.ListN.{length, get_or, drop}
use lib.Seq.{length-take-le, get_or-take, get_or-drop}
use Rattle.laws.proofs.Rows.{length-rows, get_d_rows}
use Rattle.numbers.specs.Ranges.{is_length}
use Rattle.counted.specs.declared.Numbers.{Numbers}
use Rattle.counted.specs.Numbers.{shown}
use Rattle.counted.specs.Curves.{triple_of, no_triple, triples, has_length}

module _ (a : Numbers) (m : a.count ≤ length a.items) where
  pub length-triples : length (triples (shown a)) ≡ a.count / 3
  unfolding triples
  length-triples = length-rows 3 triple_of (length (shown a) / 3) (shown a) ∙ ap (λ (n : ℕ). n / 3) (length-take-le a.count a.items m)

  module _ (i : ℕ) (h : i < a.count / 3) where
    number : (j : ℕ) → j < 3 → get_or (drop (i * 3) (shown a)) j (pos 0) ≡ get_or a.items (i * 3 + j) (pos 0)
    number j k = get_or-drop (i * 3) (shown a) j (pos 0) ∙ get_or-take a.count a.items (i * 3 + j) (pos 0) (omega arith)

    -- triple i is the numbers at i * 3, i * 3 + 1 and i * 3 + 2
    pub triple-at : get_or (triples (shown a)) i no_triple ≡ record { low = get_or a.items (i * 3) (pos 0); high = get_or a.items (i * 3 + 1) (pos 0); length = get_or a.items (i * 3 + 2) (pos 0) }
    unfolding triples
    triple-at =
        let e = length-take-le a.count a.items m in
        get_d_rows 3 triple_of (length (shown a) / 3) i (shown a) no_triple (rw e h)
        ∙ rw (number 0 (omega arith), number 1 (omega arith), number 2 (omega arith), add-zero)

    pub third : has_length (get_or (triples (shown a)) i no_triple) ≡ is_length (get_or a.items (i * 3 + 2) (pos 0))
    unfolding has_length
    third = ap has_length triple-at
