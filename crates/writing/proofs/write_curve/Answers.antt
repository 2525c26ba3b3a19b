use Rattle.eventlist.specs.Rows.{rows_of}
use Rattle.offers.specs.Waves.{triples}
use Rattle.offers.proofs.Taming.{same-wave-normal}
use Rattle.writing.proofs.Writes.{told_of_lem}
use Rattle.writing.proofs.write_curve.Goals as goal

pub returns : goal.returns
returns c =
    told_of_lem c.args.store c.args.w c.args.b c.args.events.now c.args.count c.write_triples.result (rows_of c.write_triples.new.events)
    (same-wave-normal (triples c.args.numbers.now) 0) c.write_triples.ensures
