-- `remember_in_order` meets its contract: the full cut goes by time, the other by list order.
use Rattle.cutting.specs.ByTime.{earliest}
use Rattle.cutting.proofs.Values.{all_same}
use Rattle.cutting.proofs.remember_in_order.Goals as goal

pub remember_latest-requires : goal.remember_latest-requires
remember_latest-requires c = let p = c.requires in (p.0, (p.1.0, (p.1.1, all_same earliest)))
