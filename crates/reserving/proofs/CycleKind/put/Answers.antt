-- `put`: the old entries go, and then a place is asked for, with a cycle, which stands in the lent table.
use mathlib.Core.Path.{◌≡◌, refl, ap, ◌∙◌}
use borrow.Author.Tests.{le-ltb, lt-ltb}
use Rattle.tables.specs.declared.CycleTable.{CycleTable}
use Rattle.tables.specs.Tables.{cycles_without, cycles_with}
use Rattle.state.specs.Track.{cycles_of}
use Rattle.state.proofs.Lent.{notes-few, waves-few, sines-few, cycles-few}
use Rattle.reserving.specs.Clearing.{cleared}
use Rattle.reserving.specs.Setting.{cycle_room, with_cycle}
use Rattle.reserving.proofs.Settling.{no_place, put_in}
use Rattle.reserving.proofs.CycleKind.put.Goals.{After-without-own}
use Rattle.reserving.proofs.CycleKind.put.Goals as goal

-- the cycles that are left
freed : (c : After-without-own) → c.without-own.result ≡ cycles_without (cycles_of c.args.left.now.track c.args.left.now.cycles) c.args.k
freed c = c.without-own.ensures ∙ ap (λ (t : CycleTable). cycles_without t c.args.k) c.cycles_of.ensures

pub without-own-requires : goal.without-own-requires
without-own-requires c = rw c.cycles_of.ensures (cycles-few _ _ c.requires.lent)

pub returns-then-own-ge-PLACES : goal.returns-then-own-ge-PLACES
unfolding cleared
returns-then-own-ge-PLACES c =
    let s = c.args.left.now in
    rw c.number-left.ensures (no_place s.track s.cycles cycle_room (with_cycle c.args.self) (cleared s.track s.cycles c.args.k) refl
    (le-ltb _ _ (rw (freed (goal.at.returns-then-own-ge-PLACES c).After-without-own) at c.if-own-ge-PLACES.true)))

pub without-notes-requires : goal.without-notes-requires
without-notes-requires c = notes-few _ _ c.requires.lent

pub without-waves-requires : goal.without-waves-requires
without-waves-requires c = waves-few _ _ c.requires.lent

pub without-sines-requires : goal.without-sines-requires
without-sines-requires c = sines-few _ _ c.requires.lent

pub returns-else-own-ge-PLACES : goal.returns-else-own-ge-PLACES
unfolding cleared
returns-else-own-ge-PLACES c =
    let s = c.args.left.now in
    let kept = freed (goal.at.returns-else-own-ge-PLACES c).After-without-own in
    let b = cleared s.track s.cycles c.args.k in
    c.with_tables.ensures
    ∙ rw (c.without-notes.ensures, c.without-waves.ensures, c.without-sines.ensures, c.with.ensures ∙ ap (λ (t : CycleTable). cycles_with t c.args.self) kept)
    (put_in s.track s.cycles cycle_room (with_cycle c.args.self) b refl (lt-ltb _ _ (rw kept at c.if-own-ge-PLACES.false)))
