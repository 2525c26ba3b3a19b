-- one more key stands behind those gathered at each turn
use Rattle.std.proofs.Common.{rules}
use Rattle.tables.proofs.Gathering.{one_further}
use Rattle.tables.proofs.Keys.gather.Goals as goal

pub loop-i-preserved : goal.loop-i-preserved
loop-i-preserved g c =
    let f = g.T.Reservation.key in
    let a = c.args.self.now in (
      c.loop-i.invariant.0,
      one_further f c.args.items a.items a.count c.args.count (search rules) c.loop-i.self.items c.loop-i.i c.key.result c.index-items-i.result c.loop-i.invariant.1
          (search rules) (search rules) c.key.ensures,
    )
