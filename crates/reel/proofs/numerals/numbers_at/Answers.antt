-- `numbers_at` lays the numbers over the zeros of an empty list, one a turn (the law Over).
use Rattle.std.proofs.Common.{◌≡◌, ◌++◌, ◌<◌, ap, sym, ◌∙◌, arith, pos, length, drop, w32, to_z-of_z}
use borrow.Author.Rules.{rules, sfits_of}
use Rattle.laws.proofs.Over.{over-more, over-all}
use Rattle.counted.specs.declared.Numbers.{Numbers}
use Rattle.counted.specs.Numbers.{zeros}
use Rattle.counted.proofs.Counted.{room}
use Rattle.reel.specs.Numbers.{numbers_at}
use Rattle.reel.proofs.Listing.{length-numbers, numbers-at}
use Rattle.reel.proofs.numerals.numbers_at.Invariants.{uncounted}
use Rattle.reel.proofs.numerals.numbers_at.Goals as goal

pub loop-i-init : goal.loop-i-init
loop-i-init c = c.empty-list.ensures

pub loop-i-preserved : goal.loop-i-preserved
loop-i-preserved c =
    let a = c.args in
    let v = numbers_at a.tape.now a.at a.n in
    let i = c.loop-i.i in
    let k : i < a.n = search rules in
    let z = to_z-of_z {w = w32} (sfits_of c.number_at.type_inv) ∙ c.number_at.ensures ∙ sym (numbers-at a.tape.now a.at a.n i (pos 0) k) in
    simp (z, c.loop-i.invariant) (ap uncounted (over-more zeros v i (pos 0) (omega (arith, room, c.requires)) (omega (arith, length-numbers a.tape.now a.at a.n))))

pub returns : goal.returns
returns c =
    let a = c.args in
    let v = numbers_at a.tape.now a.at a.n in
    let e = length-numbers a.tape.now a.at a.n in
    let q : c.loop-i.i ≡ length v = omega (arith, e) in
    let z : c.loop-i.list.items ≡ v ++ drop (length v) zeros = ap (λ (x : Numbers). x.items) c.loop-i.invariant ∙ over-all zeros v c.loop-i.i q in
    simp (z, e)
