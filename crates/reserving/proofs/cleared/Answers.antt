-- `cleared`: each table as its own call leaves it.
use mathlib.Core.Path.{ap, ◌∙◌}
use Rattle.tables.specs.declared.CycleTable.{CycleTable}
use Rattle.tables.specs.Tables.{cycles_without}
use Rattle.state.proofs.Lent.{notes-few, waves-few, sines-few, cycles-few}
use Rattle.reserving.specs.Clearing.{cleared}
use Rattle.reserving.proofs.cleared.Goals as goal

pub without-own-requires : goal.without-own-requires
without-own-requires c = rw c.cycles_of.ensures (cycles-few _ _ c.requires.lent)

pub without-notes-requires : goal.without-notes-requires
without-notes-requires c = notes-few _ _ c.requires.lent

pub without-waves-requires : goal.without-waves-requires
without-waves-requires c = waves-few _ _ c.requires.lent

pub without-sines-requires : goal.without-sines-requires
without-sines-requires c = sines-few _ _ c.requires.lent

pub returns : goal.returns
unfolding cleared
returns c =
    c.with_tables.ensures
    ∙ rw (
      c.without-notes.ensures,
      c.without-waves.ensures,
      c.without-sines.ensures,
      c.without-own.ensures ∙ ap (λ (t : CycleTable). cycles_without t c.args.k) c.cycles_of.ensures,
    )
