use mathlib.Core.Path.{sym, ap, subst, ◌∙◌}
use Rattle.eventlist.specs.Rows.{rows_of}
use Rattle.offers.specs.declared.Source.{Source}
use Rattle.offers.specs.Pieces.{total}
use Rattle.offers.specs.Waves.{triples}
use Rattle.offers.specs.Sources.{Runs}
use Rattle.offers.proofs.Taming.{runs}
use Rattle.writing.proofs.Writes.{told_of_lem, wave-gives}
use Rattle.writing.proofs.write_triples.Goals as goal

pub write_tested-requires : goal.write_tested-requires
write_tested-requires c =
    let p = c.requires in
    let l = triples c.args.numbers.now in (
      p.0,
      subst (λ (x : Source). Runs x l) (sym c.start_source-source.ensures) (runs l c.args.n p.1.tame p.1.few p.2 c.args.mode),
      c.quarter_table-quarter.ensures,
      c.wave_long-long.ensures ∙ sym (ap total (wave-gives c.args.mode l c.args.n c.start_source-source.ensures)),
      p.3,
    )

pub returns : goal.returns
returns c =
    let l = triples c.args.numbers.now in
    told_of_lem c.args.store c.args.w c.args.b c.args.events.now c.args.count c.write_tested.result (rows_of c.write_tested.new.events)
    (wave-gives c.args.mode l c.args.n c.start_source-source.ensures) c.write_tested.ensures
