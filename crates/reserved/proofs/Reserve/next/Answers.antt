-- What may be reserved has no more values than a list may have.
use Rattle.reserved.proofs.Reserves.{reserve-count}
use Rattle.reserved.proofs.Reserve.next.Goals as goal

pub number_at-requires : goal.number_at-requires
number_at-requires c = reserve-count c.args.self c.requires
