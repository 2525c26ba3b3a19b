-- of the records passed those of other targets stand in front, and what is left behind them is cleared (laws, Taking)
use Rattle.laws.proofs.Taking.{Compacting, Clearing}
use Rattle.tables.specs.Sixteen.{keyed}
use Rattle.tables.proofs.take_out.Given as goal

abbrev pub invariant-loop-i : goal.invariant-loop-i
invariant-loop-i g l =
    Compacting (λ x. x) g.T.Reservation.blank (keyed g.T.Reservation.key l.k) l.initial.items l.items l.count l.i l.n

abbrev pub invariant-loop-j : goal.invariant-loop-j
invariant-loop-j g l = Clearing (λ x. x) g.T.Reservation.blank l.initial.items l.items l.count l.n l.j
