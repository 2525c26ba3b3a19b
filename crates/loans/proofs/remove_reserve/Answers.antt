-- `remove_reserve`: the records are loaded, the call by value is made on them, and its records are saved (Tables).
use mathlib.Core.Path.{◌≡◌}
use mathlib.Core.Bool.{false}
use mathlib.Core.List.{List}
use Prim.Native.Nat.{ℕ}
use lib.Dec.{eqb}
use mir.Facts.{to_z-of_z}
use Rattle.numbers.specs.Limits.{places}
use Rattle.cycles.specs.declared.Cycle.{Cycle}
use Rattle.reserving.specs.Setting.{remove_reserve}
use Rattle.loans.proofs.Tables.{lent, remove-alone}
use Rattle.loans.proofs.remove_reserve.Goals as goal

pub returns : goal.returns
returns c =
    let a = c.args in
    lent a.track (λ (n : ℕ) (cs : List Cycle). remove_reserve a.track n cs a.target)
    (λ (n : ℕ) (cs : List Cycle) (e : eqb n places ≡ false). remove-alone a.track a.target n cs e) a.cycles.now
    c.load_cycles-table.result c.remove_reserve-k.result c.kept.new.cycles c.kept.result c.load_cycles-table.ensures (rw (to_z-of_z c.ranges.target) at c.remove_reserve-k.ensures) c.kept.ensures.0 c.kept.ensures.1
