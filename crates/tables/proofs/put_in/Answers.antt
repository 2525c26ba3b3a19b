-- one more at the end (laws, Compact)
use Rattle.std.proofs.Common.{rules}
use Rattle.laws.proofs.Compact.{put-more}
use Rattle.tables.proofs.put_in.Goals as goal

pub returns-clause-items : goal.returns-clause-items
returns-clause-items g c = put-more g.T.Reservation.blank c.args.e c.args.count c.args.items.now (search rules)
