-- `keep_unspent`: the loop is proofs/Closing's, where the array is the list of its records itself.
use mathlib.Core.Path.{◌≡◌, ap₂}
use mathlib.Core.List.{List, []}
use Prim.Native.Nat.{ℕ, ◌≤◌, ◌<◌}
use native.Mathlib.Omega.{arith}
use borrow.Author.Rules.{rules}
use lib.IntN.{pos}
use lib.ListN.{length}
use Rattle.laws.proofs.Reading.{length-told}
use Rattle.tables.specs.declared.OnNoteValues.{OnNoteValues}
use Rattle.tables.specs.Tables.{no_note}
use Rattle.noting.specs.Lists.{spent}
use Rattle.noting.proofs.Closing as C
use Rattle.noting.proofs.keep_unspent.Goals.{In-loop-i, then-not-is_spent, else-not-is_spent}
use Rattle.noting.proofs.keep_unspent.Goals as goal

-- what a read past the end would give
abbrev past : OnNoteValues
past = record { target = pos 0; index = 0; cycling = 0; values = record { count = 0; items = [] } }

module _ (c : In-loop-i) where
  fit : c.args.table.count ≤ length c.args.table.items
  fit = let m : length c.args.table.items ≡ 16 = search (rules, length-told) in omega (arith, c.requires)

  less : c.loop-i.i < c.args.table.count
  less = search rules

  few : c.loop-i.n < 16
  few = let v = c.loop-i in omega (arith, less, c.requires, C.few no_note spent c.args.table.items c.args.table.count fit v.notes.items v.n v.i v.invariant)

pub loop-i-init : goal.loop-i-init
loop-i-init c = let t = c.args.table in C.begun no_note spent t.items t.count

pub offset_bounds-notes-n : goal.offset_bounds-notes-n
offset_bounds-notes-n c = omega (arith, few (goal.at.offset_bounds-notes-n c).In-loop-i)

pub bounds-notes-n : goal.bounds-notes-n
bounds-notes-n c = few (goal.at.bounds-notes-n c).In-loop-i

pub overflow_add-n : goal.overflow_add-n
overflow_add-n c = omega (arith, few (goal.at.overflow_add-n c).In-loop-i)

pub loop-i-preserved : goal.loop-i-preserved
loop-i-preserved c =
    let t = c.args.table in
    let v = c.loop-i in
    let at = (goal.at.loop-i-preserved c).In-loop-i in
    elim c.if-not-is_spent.branch [
      | then-not-is_spent w ↦ rw (w.notes-is, w.n-is) (C.stays no_note spent t.items t.count (fit at) v.notes.items v.n v.i v.invariant (less at) past
          c.blank-none.result c.blank-none.ensures c.is_spent.result c.is_spent.ensures w.if-not-is_spent.true)
      | else-not-is_spent w ↦ rw (w.notes-is, w.n-is) (C.taken_out no_note spent t.items t.count (fit at) v.notes.items v.n v.i v.invariant (less at) past
          c.blank-none.result c.blank-none.ensures c.is_spent.result c.is_spent.ensures w.if-not-is_spent.false)
    ]

pub returns : goal.returns
returns c =
    let t = c.args.table in
    let v = c.loop-i in
    let m : length t.items ≡ 16 = search (rules, length-told) in
    let few' : t.count ≤ 16 = c.requires in
    let e = C.closed no_note spent t.items t.count (omega arith) v.notes.items v.n v.i v.invariant (search rules) in
    ap₂ (λ (k : ℕ) (x : List OnNoteValues). record { count = k; items = x }) e.0 e.1
