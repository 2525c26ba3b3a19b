-- `value_of`: the place lies below the list's count, and that within the array.
use mathlib.Core.Path.{ap}
use Prim.Native.Nat.{ℕ, ◌≤◌, ◌^◌}
use native.Mathlib.Omega.{arith}
use borrow.Author.Rules.{rules}
use lib.IntN.{pos}
use lib.ListN.{get_or}
use lib.Signed.{mag}
use mir.Syntax.{w32}
use mir.Val.{SFits}
use mir.Facts.{to_z-of_z}
use Rattle.laws.proofs.Ranges.{sized-mag}
use Rattle.numbers.specs.Ranges.{is_number}
use Rattle.counted.proofs.Counted.{numbers-at}
use Rattle.noting.specs.Lists.{value_of}
use Rattle.noting.proofs.Rules.{sound, some}
use Rattle.noting.proofs.value_of.Goals as goal

pub offset_bounds-e-place_of : goal.offset_bounds-e-place_of
offset_bounds-e-place_of c = let f = sound c.args.e c.requires.0 in omega (arith, c.place_of.ensures, some c.args.e c.requires.1)

pub bounds-e-place_of : goal.bounds-e-place_of
bounds-e-place_of c = let f = sound c.args.e c.requires.0 in omega (arith, c.place_of.ensures, some c.args.e c.requires.1)

pub returns : goal.returns
unfolding value_of is_number
returns c =
    let x = c.args.e in
    let p = c.place_of.result in
    let f = sound x c.requires.0 in
    let g : SFits w32 (get_or x.values.items p (pos 0)) = search rules in
    let b : mag (get_or x.values.items p (pos 0)) ≤ 2 ^ 22 = sized-mag (2 ^ 22) _ (numbers-at x.values p f.numbers (omega (arith, c.place_of.ensures, some c.args.e c.requires.1))) in
    rw (to_z-of_z g) (ap (λ (k : ℕ). get_or x.values.items k (pos 0)) c.place_of.ensures, b)
