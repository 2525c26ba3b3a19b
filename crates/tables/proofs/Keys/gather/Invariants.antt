-- one more key stands behind those gathered at each turn
use Rattle.std.proofs.Common.{◌≡◌}
use Rattle.tables.proofs.Gathering.{Gathering}
use Rattle.tables.proofs.Keys.gather.Given as goal

abbrev pub invariant-loop-i : goal.invariant-loop-i
invariant-loop-i g l =
    (l.self.count ≡ l.first)
    × Gathering g.T.Reservation.key l.items l.initial.self.items l.first l.count l.self.items l.i
