-- `length_at` reads the third number of a triple.
use mathlib.Core.Path.{◌≡◌, sym, ap, ◌∙◌}
use Prim.Native.Nat.{◌+◌, ◌*◌}
use native.Mathlib.Omega.{arith}
use lib.IntN.{pos}
use lib.ListN.{length, get_or}
use mir.Syntax.{w32}
use mir.Val.{SFits}
use mir.Facts.{to_z-of_z}
use borrow.Author.Rules.{rules, sfits_of}
use Rattle.laws.specs.Integers.{cut}
use Rattle.numbers.specs.Limits.{list_limit}
use Rattle.counted.specs.Curves.{Triple}
use Rattle.counted.proofs.Counted.{numbers-count, curve-numbers}
use Rattle.counted.proofs.Triples.{triple-at}
use Rattle.reserved.proofs.length_at.Goals as goal

pub offset_bounds-list-i : goal.offset_bounds-list-i
offset_bounds-list-i c = let h = numbers-count _ (curve-numbers _ c.requires.list_value) in omega arith

pub bounds-list-i : goal.bounds-list-i
bounds-list-i c = let h = numbers-count _ (curve-numbers _ c.requires.list_value) in omega arith

pub returns : goal.returns
returns c =
    let a = c.args.list in
    let i = c.args.i in
    let m : length a.items ≡ list_limit = search rules in
    let h = numbers-count a (curve-numbers a c.requires.list_value) in
    let f : SFits w32 (get_or a.items (i * 3 + 2) (pos 0)) = sfits_of c.span-arg-1.given in
    c.span.ensures ∙ ap cut (to_z-of_z f) ∙ sym (ap (λ (t : Triple). cut t.length) (triple-at a (omega arith) i c.requires.i_bound))
