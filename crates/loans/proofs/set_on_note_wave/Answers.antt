-- `set_on_note_wave`: the records are loaded, the call by value is made on them, and its records are saved (Tables).
use mathlib.Core.Path.{◌≡◌}
use mathlib.Core.Bool.{false}
use mathlib.Core.List.{List}
use Prim.Native.Nat.{ℕ}
use lib.Dec.{eqb}
use mir.Facts.{to_z-of_z}
use Rattle.numbers.specs.Limits.{places}
use Rattle.cycles.specs.declared.Cycle.{Cycle}
use Rattle.reserving.specs.Setting.{set_on_note_wave}
use Rattle.loans.proofs.Tables.{lent, wave-alone}
use Rattle.loans.proofs.set_on_note_wave.Goals as goal

pub returns : goal.returns
returns c =
    let a = c.args in
    lent a.track (λ (n : ℕ) (cs : List Cycle). set_on_note_wave a.track n cs a.target a.mode a.list.now)
    (λ (n : ℕ) (cs : List Cycle) (e : eqb n places ≡ false). wave-alone a.track a.target n cs e a.mode a.list.now) a.cycles.now
    c.load_cycles-table.result c.set_on_note_wave-k.result c.kept.new.cycles c.kept.result c.load_cycles-table.ensures (rw (to_z-of_z c.ranges.target) at c.set_on_note_wave-k.ensures) c.kept.ensures.0 c.kept.ensures.1
