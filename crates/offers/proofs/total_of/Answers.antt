-- What is summed and what the triples left last are together the whole.
use mathlib.Core.Path.{◌≡◌, ap, sym, ◌∙◌}
use mathlib.Core.List.{List}
use Prim.Native.Nat.{ℕ, ◌+◌, ◌/◌, ◌<◌}
use native.Mathlib.Omega.{arith}
use lib.IntN.{ℤ}
use lib.ListN.{length, get_or, drop}
use Rattle.offers.specs.declared.Piece.{Piece}
use Rattle.offers.specs.Pieces.{total}
use Rattle.offers.specs.Waves.{no_piece, triples}
use Rattle.offers.proofs.Tripling.{length-triples}
use Rattle.offers.proofs.Taming.{total-le, total-drop, total-end}
use Rattle.offers.proofs.total_of.Goals as goal

-- one triple more: what is left lasts as much less
one : (l : List ℤ) (i : ℕ) (t : Piece) → t ≡ get_or (triples l) i no_piece → i < length l / 3 → total (drop i (triples l)) ≡ t.len + total (drop (i + 1) (triples l))
one l i t e h =
    total-drop (triples l) i (omega (arith, length-triples l))
    ∙ ap (λ (u : Piece). u.len + total (drop (i + 1) (triples l))) (sym e)

pub triple_at-sum-requires : goal.triple_at-sum-requires
triple_at-sum-requires c = omega (arith, length-triples c.args.numbers.now)

pub overflow_add-sum : goal.overflow_add-sum
overflow_add-sum c =
    let l = c.args.numbers.now in
    omega (arith, c.loop-i.invariant, one l c.loop-i.i c.triple_at-sum.result c.triple_at-sum.ensures (omega arith), total-le (triples l) c.requires.tame, c.requires.few)

pub loop-i-preserved : goal.loop-i-preserved
loop-i-preserved c =
    omega (arith, c.loop-i.invariant, one c.args.numbers.now c.loop-i.i c.triple_at-sum.result c.triple_at-sum.ensures (omega arith))

pub returns : goal.returns
returns c =
    let n = length-triples c.args.numbers.now in
    omega (arith, c.loop-i.invariant, total-end (triples c.args.numbers.now) c.loop-i.i (omega arith))
