-- By whether there is one more; each field of the answer is told by the call that made it.
use mathlib.Core.Path.{◌≡◌, refl, sym, ap, ◌∙◌}
use mathlib.Core.Bool.{Bool, true, false}
use native.Mathlib.Omega.{arith}
use mathlib.Core.List.{List}
use Prim.Native.Nat.{ℕ, ◌/◌, ◌<◌}
use lib.IntN.{ℤ}
use lib.ListN.{length}
use mir.Syntax.{w64}
use mir.Val.{SFits}
use mir.Facts.{to_z-of_z}
use borrow.Author.Rules.{rules}
use Rattle.offers.specs.declared.Source.{Source}
use Rattle.offers.specs.Waves.{triples}
use Rattle.offers.specs.Sources.{next_of, more_by, Sound}
use Rattle.offers.proofs.Tripling.{length-triples}
use Rattle.offers.proofs.Sources.{inside}
use Rattle.offers.proofs.next_triple.Goals as goal

-- the test is of the triples
tested : (l : List ℤ) (s : Source) (b t : Bool) → b ≡ more_by s.mode (length l / 3) s → b ≡ t → more_by s.mode (length (triples l)) s ≡ t
tested l s b t e q = ap (λ (n : ℕ). more_by s.mode n s) (length-triples l) ∙ sym e ∙ q

within : (l : List ℤ) (s : Source) (b : Bool) → Sound (triples l) s → b ≡ more_by s.mode (length l / 3) s → b ≡ true → s.at < length (triples l)
within l s b ok e q = inside (triples l) s ok s.mode refl (tested l s b true e q)

pub triple_at-t-requires : goal.triple_at-t-requires
triple_at-t-requires c = within c.args.numbers.now c.args.s c.has_more.result c.requires.0 c.has_more.ensures c.if-has_more.true

pub overflow_add-s : goal.overflow_add-s
overflow_add-s c =
    let l = c.args.numbers.now in
    omega (arith, within l c.args.s c.has_more.result c.requires.0 c.has_more.ensures c.if-has_more.true, length-triples l, c.well_formed.1.0)

pub source_after-requires : goal.source_after-requires
source_after-requires c =
    let l = c.args.numbers.now in
    omega (arith, within l c.args.s c.has_more.result c.requires.0 c.has_more.ensures c.if-has_more.true, length-triples l)

pub returns-then-has_more : goal.returns-then-has_more
unfolding next_of
returns-then-has_more c =
    let l = c.args.numbers.now in
    let low : SFits w64 c.triple_at-t.result.low = search rules in
    let high : SFits w64 c.triple_at-t.result.high = search rules in
    rw (
      to_z-of_z {w = w64} {z = c.triple_at-t.result.low} low,
      to_z-of_z {w = w64} {z = c.triple_at-t.result.high} high,
      c.source_after.ensures,
      c.next_length-len.ensures,
      c.triple_at-t.ensures,
      tested l c.args.s c.has_more.result true c.has_more.ensures c.if-has_more.true,
      length-triples l,
    )

pub returns-else-has_more : goal.returns-else-has_more
unfolding next_of
returns-else-has_more c = rw (tested c.args.numbers.now c.args.s c.has_more.result false c.has_more.ensures c.if-has_more.false)
