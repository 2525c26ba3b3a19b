-- Its three numbers lie within the list (`within`), and are the triple's (`triple-is`).
use mathlib.Core.Path.{sym}
use Prim.Native.Nat.{◌+◌, ◌*◌}
use native.Mathlib.Omega.{arith}
use lib.IntN.{pos}
use lib.ListN.{get_or}
use mir.Syntax.{w32, w64}
use mir.Facts.{to_z-of_z}
use borrow.Author.Rules.{rules, sfits_of}
use Rattle.offers.proofs.Tripling.{within, triple-is}
use Rattle.offers.proofs.triple_at.Goals as goal

pub overflow_mul-first : goal.overflow_mul-first
overflow_mul-first c = omega (arith, within c.args.numbers.now c.args.i c.requires, c.well_formed.0)

pub offset_bounds-numbers-first : goal.offset_bounds-numbers-first
offset_bounds-numbers-first c = omega (arith, within c.args.numbers.now c.args.i c.requires, c.well_formed.0)

pub bounds-numbers-first : goal.bounds-numbers-first
bounds-numbers-first c = omega (arith, within c.args.numbers.now c.args.i c.requires, c.well_formed.0)

pub overflow_add-first : goal.overflow_add-first
overflow_add-first c = omega (arith, within c.args.numbers.now c.args.i c.requires, c.well_formed.0)

pub offset_bounds-numbers-first-2 : goal.offset_bounds-numbers-first-2
offset_bounds-numbers-first-2 c = omega (arith, within c.args.numbers.now c.args.i c.requires, c.well_formed.0)

pub bounds-numbers-first-2 : goal.bounds-numbers-first-2
bounds-numbers-first-2 c = omega (arith, within c.args.numbers.now c.args.i c.requires, c.well_formed.0)

pub overflow_add-first-2 : goal.overflow_add-first-2
overflow_add-first-2 c = omega (arith, within c.args.numbers.now c.args.i c.requires, c.well_formed.0)

pub offset_bounds-numbers-first-3 : goal.offset_bounds-numbers-first-3
offset_bounds-numbers-first-3 c = omega (arith, within c.args.numbers.now c.args.i c.requires, c.well_formed.0)

pub bounds-numbers-first-3 : goal.bounds-numbers-first-3
bounds-numbers-first-3 c = omega (arith, within c.args.numbers.now c.args.i c.requires, c.well_formed.0)

pub returns : goal.returns
returns c =
    let l = c.args.numbers.now in
    let k = c.args.i * 3 in
    rw (
      to_z-of_z {w = w64} (sfits_of c.from.type_inv),
      c.from.ensures,
      to_z-of_z {w = w32} {z = get_or l k (pos 0)} (search rules),
      to_z-of_z {w = w64} (sfits_of c.from-2.type_inv),
      c.from-2.ensures,
      to_z-of_z {w = w32} {z = get_or l (k + 1) (pos 0)} (search rules),
      c.length_of.ensures,
      to_z-of_z {w = w64} (sfits_of c.from-3.type_inv),
      c.from-3.ensures,
      to_z-of_z {w = w32} {z = get_or l (k + 2) (pos 0)} (search rules),
    ) (sym (triple-is l c.args.i c.requires))
