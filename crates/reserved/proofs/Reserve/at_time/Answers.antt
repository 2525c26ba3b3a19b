-- What may be reserved has a start and, where it is a curve, a curve's list.
use Rattle.reserved.proofs.Reserves.{reserve-start, reserve-curve}
use Rattle.reserved.proofs.Reserve.at_time.Goals as goal

pub curve_taken-requires-clause-start_value : goal.curve_taken-requires-clause-start_value
curve_taken-requires-clause-start_value c = reserve-start c.args.self c.requires.self_value

pub curve_taken-requires-clause-values_value : goal.curve_taken-requires-clause-values_value
curve_taken-requires-clause-values_value c = reserve-curve c.args.self c.requires.self_value c.in-1.is
