-- `put`: the old entries go, and then a place is asked for, with a list for notes.
use mathlib.Core.Path.{◌≡◌, refl, ap, ◌∙◌}
use borrow.Author.Tests.{le-ltb, lt-ltb}
use Rattle.tables.specs.declared.NoteTable.{NoteTable}
use Rattle.tables.specs.declared.CycleTable.{CycleTable}
use Rattle.tables.specs.Tables.{notes_without, notes_with, cycles_without}
use Rattle.state.proofs.Lent.{notes-few, waves-few, sines-few, cycles-few}
use Rattle.reserving.specs.Clearing.{cleared}
use Rattle.reserving.specs.Setting.{note_room, with_note}
use Rattle.reserving.proofs.Settling.{no_place, put_in}
use Rattle.reserving.proofs.OnNoteValuesKind.put.Goals.{After-without-notes}
use Rattle.reserving.proofs.OnNoteValuesKind.put.Goals as goal

-- how many are left
left-count : (c : After-without-notes) → c.without-notes.result.count ≡ (notes_without c.args.left.now.track.notes c.args.k).count
left-count c = ap (λ (t : NoteTable). t.count) c.without-notes.ensures

pub without-notes-requires : goal.without-notes-requires
without-notes-requires c = notes-few _ _ c.requires.lent

pub returns-then-notes-ge-PLACES : goal.returns-then-notes-ge-PLACES
unfolding cleared
returns-then-notes-ge-PLACES c =
    let s = c.args.left.now in
    rw c.number-left.ensures (no_place s.track s.cycles note_room (with_note c.args.self) (cleared s.track s.cycles c.args.k) refl
    (le-ltb _ _ (rw (left-count (goal.at.returns-then-notes-ge-PLACES c).After-without-notes) at c.if-notes-ge-PLACES.true)))

pub without-own-requires : goal.without-own-requires
without-own-requires c = rw c.cycles_of.ensures (cycles-few _ _ c.requires.lent)

pub without-waves-requires : goal.without-waves-requires
without-waves-requires c = waves-few _ _ c.requires.lent

pub without-sines-requires : goal.without-sines-requires
without-sines-requires c = sines-few _ _ c.requires.lent

pub returns-else-notes-ge-PLACES : goal.returns-else-notes-ge-PLACES
unfolding cleared
returns-else-notes-ge-PLACES c =
    let s = c.args.left.now in
    let b = cleared s.track s.cycles c.args.k in
    c.with_tables.ensures
    ∙ rw (
      c.with.ensures ∙ ap (λ (t : NoteTable). notes_with t c.args.self) c.without-notes.ensures,
      c.without-waves.ensures,
      c.without-sines.ensures,
      c.without-own.ensures ∙ ap (λ (t : CycleTable). cycles_without t c.args.k) c.cycles_of.ensures,
    )
    (put_in s.track s.cycles note_room (with_note c.args.self) b refl (lt-ltb _ _ (rw (left-count (goal.at.returns-else-notes-ge-PLACES c).After-without-notes) at c.if-notes-ge-PLACES.false)))
