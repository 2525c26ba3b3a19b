-- `put`: the old entries go, and then a place is asked for, with a wave.
use mathlib.Core.Path.{◌≡◌, refl, ap, ◌∙◌}
use borrow.Author.Tests.{le-ltb, lt-ltb}
use Rattle.tables.specs.declared.WaveTable.{WaveTable}
use Rattle.tables.specs.declared.CycleTable.{CycleTable}
use Rattle.tables.specs.Tables.{waves_without, waves_with, cycles_without}
use Rattle.state.proofs.Lent.{notes-few, waves-few, sines-few, cycles-few}
use Rattle.reserving.specs.Clearing.{cleared}
use Rattle.reserving.specs.Setting.{wave_room, with_wave}
use Rattle.reserving.proofs.Settling.{no_place, put_in}
use Rattle.reserving.proofs.OnNoteWaveKind.put.Goals.{After-without-waves}
use Rattle.reserving.proofs.OnNoteWaveKind.put.Goals as goal

-- how many are left
left-count : (c : After-without-waves) → c.without-waves.result.count ≡ (waves_without c.args.left.now.track.waves c.args.k).count
left-count c = ap (λ (t : WaveTable). t.count) c.without-waves.ensures

pub without-waves-requires : goal.without-waves-requires
without-waves-requires c = waves-few _ _ c.requires.lent

pub returns-then-waves-ge-PLACES : goal.returns-then-waves-ge-PLACES
unfolding cleared
returns-then-waves-ge-PLACES c =
    let s = c.args.left.now in
    rw c.number-left.ensures (no_place s.track s.cycles wave_room (with_wave c.args.self) (cleared s.track s.cycles c.args.k) refl
    (le-ltb _ _ (rw (left-count (goal.at.returns-then-waves-ge-PLACES c).After-without-waves) at c.if-waves-ge-PLACES.true)))

pub without-own-requires : goal.without-own-requires
without-own-requires c = rw c.cycles_of.ensures (cycles-few _ _ c.requires.lent)

pub without-notes-requires : goal.without-notes-requires
without-notes-requires c = notes-few _ _ c.requires.lent

pub without-sines-requires : goal.without-sines-requires
without-sines-requires c = sines-few _ _ c.requires.lent

pub returns-else-waves-ge-PLACES : goal.returns-else-waves-ge-PLACES
unfolding cleared
returns-else-waves-ge-PLACES c =
    let s = c.args.left.now in
    let b = cleared s.track s.cycles c.args.k in
    c.with_tables.ensures
    ∙ rw (
      c.without-notes.ensures,
      c.with.ensures ∙ ap (λ (t : WaveTable). waves_with t c.args.self) c.without-waves.ensures,
      c.without-sines.ensures,
      c.without-own.ensures ∙ ap (λ (t : CycleTable). cycles_without t c.args.k) c.cycles_of.ensures,
    )
    (put_in s.track s.cycles wave_room (with_wave c.args.self) b refl (lt-ltb _ _ (rw (left-count (goal.at.returns-else-waves-ge-PLACES c).After-without-waves) at c.if-waves-ge-PLACES.false)))
