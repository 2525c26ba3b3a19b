-- `cycles::value_of`: the position is below the count, and that within the array.
use mathlib.Core.Path.{refl}
use Prim.Native.Nat.{◌≤◌, ◌^◌}
use native.Mathlib.Omega.{arith}
use borrow.Author.Rules.{rules}
use lib.IntN.{pos}
use lib.ListN.{get_or}
use lib.Signed.{mag}
use mir.Syntax.{w32}
use mir.Val.{SFits}
use mir.Facts.{to_z-of_z}
use Rattle.laws.proofs.Ranges.{sized-mag}
use Rattle.numbers.specs.Ranges.{is_number}
use Rattle.counted.proofs.Counted.{numbers-at}
use Rattle.cycles.specs.Due.{write_of}
use Rattle.cycles.proofs.Rules.{sound}
use Rattle.cycles.proofs.value_of.Goals as goal

pub offset_bounds-c-c : goal.offset_bounds-c-c
offset_bounds-c-c c = let s = sound c.args.c c.requires in omega arith

pub bounds-c-c : goal.bounds-c-c
bounds-c-c c = let s = sound c.args.c c.requires in omega arith

pub returns : goal.returns
unfolding write_of is_number
returns c =
    let x = c.args.c in
    let s = sound x c.requires in
    let f : SFits w32 (get_or x.values.items x.index (pos 0)) = search rules in
    let b : mag (get_or x.values.items x.index (pos 0)) ≤ 2 ^ 22 = sized-mag (2 ^ 22) _ (numbers-at x.values x.index s.numbers s.placed) in
    rw (to_z-of_z f) (refl, b)
