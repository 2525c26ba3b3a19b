-- `put`: the old entries go, and then a place is asked for, with a sine.
use mathlib.Core.Path.{◌≡◌, refl, ap, ◌∙◌}
use borrow.Author.Tests.{le-ltb, lt-ltb}
use Rattle.tables.specs.declared.SineTable.{SineTable}
use Rattle.tables.specs.declared.CycleTable.{CycleTable}
use Rattle.tables.specs.Tables.{sines_without, sines_with, cycles_without}
use Rattle.state.proofs.Lent.{notes-few, waves-few, sines-few, cycles-few}
use Rattle.reserving.specs.Clearing.{cleared}
use Rattle.reserving.specs.Setting.{sine_room, with_sine}
use Rattle.reserving.proofs.Settling.{no_place, put_in}
use Rattle.reserving.proofs.OnNoteSineKind.put.Goals.{After-without-sines}
use Rattle.reserving.proofs.OnNoteSineKind.put.Goals as goal

-- how many are left
left-count : (c : After-without-sines) → c.without-sines.result.count ≡ (sines_without c.args.left.now.track.sines c.args.k).count
left-count c = ap (λ (t : SineTable). t.count) c.without-sines.ensures

pub without-sines-requires : goal.without-sines-requires
without-sines-requires c = sines-few _ _ c.requires.lent

pub returns-then-sines-ge-PLACES : goal.returns-then-sines-ge-PLACES
unfolding cleared
returns-then-sines-ge-PLACES c =
    let s = c.args.left.now in
    rw c.number-left.ensures (no_place s.track s.cycles sine_room (with_sine c.args.self) (cleared s.track s.cycles c.args.k) refl
    (le-ltb _ _ (rw (left-count (goal.at.returns-then-sines-ge-PLACES c).After-without-sines) at c.if-sines-ge-PLACES.true)))

pub without-own-requires : goal.without-own-requires
without-own-requires c = rw c.cycles_of.ensures (cycles-few _ _ c.requires.lent)

pub without-notes-requires : goal.without-notes-requires
without-notes-requires c = notes-few _ _ c.requires.lent

pub without-waves-requires : goal.without-waves-requires
without-waves-requires c = waves-few _ _ c.requires.lent

pub returns-else-sines-ge-PLACES : goal.returns-else-sines-ge-PLACES
unfolding cleared
returns-else-sines-ge-PLACES c =
    let s = c.args.left.now in
    let b = cleared s.track s.cycles c.args.k in
    c.with_tables.ensures
    ∙ rw (
      c.without-notes.ensures,
      c.without-waves.ensures,
      c.with.ensures ∙ ap (λ (t : SineTable). sines_with t c.args.self) c.without-sines.ensures,
      c.without-own.ensures ∙ ap (λ (t : CycleTable). cycles_without t c.args.k) c.cycles_of.ensures,
    )
    (put_in s.track s.cycles sine_room (with_sine c.args.self) b refl (lt-ltb _ _ (rw (left-count (goal.at.returns-else-sines-ge-PLACES c).After-without-sines) at c.if-sines-ge-PLACES.false)))
