-- `cycles::step`: the numbers of the write and of the offer are the record's, read back.
use mathlib.Core.Path.{◌≡◌, ap, ◌∙◌}
use Prim.Native.Nat.{◌≤◌, ◌^◌}
use lib.IntN.{ℤ}
use native.Mathlib.Omega.{arith}
use borrow.Author.Rules.{rules}
use lib.Signed.{mag}
use mir.Syntax.{w32, w64}
use mir.Val.{SFits, to_z, of_z}
use mir.Facts.{to_z-of_z}
use Rattle.laws.proofs.Signed.{back}
use Rattle.std.specs.Prelude.{Option}
use Rattle.budget.specs.declared.Budget.{Budget}
use Rattle.events.specs.declared.Event.{Event}
use Rattle.values.specs.Value.{wrote_of}
use Rattle.cycles.specs.declared.Cycle.{Cycle}
use Rattle.cycles.specs.declared.Stepped.{Stepped}
use Rattle.cycles.specs.Due.{write_of}
use Rattle.cycles.specs.Turns.{asked, offered, step_of}
use Rattle.cycles.proofs.Rules.{sound}
use Rattle.cycles.proofs.Fitting.{fits-target, fits_next}
use Rattle.cycles.proofs.step.Goals as goal
use Rattle.cycles.proofs.step.Goals.{After-one_value-wrote}

-- the value, through a narrow and a wide local
value-back : {w v z : ℤ} → w ≡ to_z w32 (of_z w32 v) → v ≡ z → mag v ≤ 2 ^ 22 → to_z w64 (of_z w64 w) ≡ z
value-back {v} p q b =
    let narrow : SFits w32 v = record { sfits = omega arith } in
    let wide : SFits w64 v = record { sfits = omega arith } in
    back (p ∙ to_z-of_z narrow) wide ∙ q

small : {v z : ℤ} → v ≡ z → mag v ≤ 2 ^ 22 → mag z ≤ 2 ^ 24
small e b = rw (← e) (omega arith)

-- the cycle that is left
left : {x y : Cycle} (b : Budget) (e : Option Event) → x ≡ y → ◌≡◌ {A = Stepped} (record { cycle = x; budget = b; event = e }) (record { cycle = y; budget = b; event = e })
left b e p = ap (λ (z : Cycle). record { cycle = z; budget = b; event = e }) p

-- what the write gives, its numbers read back
module _ (c : After-one_value-wrote) where
  wrote : c.one_value-wrote.result ≡ wrote_of (asked c.args.ask.option c.args.ask.channel (write_of c.args.c)) c.args.b (offered (write_of c.args.c))
  unfolding write_of
  wrote =
      let x = c.args.c in
      let s = sound x c.requires in
      let f : SFits w32 c.args.ask.channel = search rules in
      let e = c.value_of.ensures in
      rw (to_z-of_z (fits-target x s), to_z-of_z f, to_z-of_z (fits_next x s), value-back c.from.ensures e.0 e.1) at c.one_value-wrote.ensures

pub one_value-wrote-requires : goal.one_value-wrote-requires
one_value-wrote-requires c =
    let s = sound c.args.c c.requires in
    let e = c.value_of.ensures in
    rw (to_z-of_z (fits_next c.args.c s), value-back c.from.ensures e.0 e.1)
    (record { time = omega arith; some = omega arith; slow = omega arith }, record { step = omega arith; value = small e.0 e.1 })

pub returns-then-wrote : goal.returns-then-wrote
unfolding step_of
returns-then-wrote c =
    rw (← wrote (goal.at.returns-then-wrote c).After-one_value-wrote, c.if-wrote.true) (left _ _ c.advance-next.ensures)

pub returns-else-wrote : goal.returns-else-wrote
unfolding step_of
returns-else-wrote c =
    rw (← wrote (goal.at.returns-else-wrote c).After-one_value-wrote, c.if-wrote.false) (left _ _ c.advance-next.ensures)
