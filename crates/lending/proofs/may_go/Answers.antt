-- `may_go` makes the tests that need no count first, then counts by division what the record adds.
use borrow.Author.Rules.{rules}
use mathlib.Core.Path.{◌≡◌, sym, ap, ap₂, ◌∙◌}
use mathlib.Core.Bool.{Bool, ◌&&◌}
use Prim.Native.Nat.{ℕ, ◌+◌, ◌/◌, ◌%◌, min}
use native.Mathlib.Omega.{arith}
use lib.Dec.{eqb, leb, ltb}
use mir.Syntax.{w64}
use mir.Val.{SFits, to_z, of_z}
use mir.Facts.{to_z-of_z}
use Rattle.laws.proofs.Tests.{and_no, and_yes}
use Rattle.numbers.specs.Limits.{value_bytes}
use Rattle.numbers.specs.Ranges.{is_time}
use Rattle.budget.specs.Budgets.{room}
use Rattle.eventlist.specs.Rows.{record_width}
use Rattle.cycles.specs.declared.Cycle.{Cycle}
use Rattle.cycles.specs.declared.Round.{Round}
use Rattle.cycles.specs.Due.{due_count}
use Rattle.cycles.specs.Rules.{ok_cycle}
use Rattle.lending.specs.declared.Going.{Going}
use Rattle.lending.specs.Writing.{made_by, orderly, may_go}
use Rattle.lending.proofs.Stepping.{in_order_lem}
use Rattle.lending.proofs.may_go.Goals as goal

module _ (round : Round) (c : Cycle) (long : ℕ) (s : Going) (fit : SFits w64 round.until) where
  -- the tests that need no count
  asked : {x y v : Bool} → x ≡ ok_cycle c → y ≡ is_time (to_z w64 (of_z w64 round.until))
      → (eqb s.code 0 && ltb 0 s.used && x && y && eqb (long % record_width) 0 && leb s.count (long / record_width)) ≡ v → orderly round c long s ≡ v
  unfolding orderly
  asked p q e =
      sym (ap₂ (λ (x y : Bool). eqb s.code 0 && ltb 0 s.used && x && y && eqb (long % record_width) 0 && leb s.count (long / record_width)) p (q ∙ ap is_time (to_z-of_z fit)))
      ∙ e

  -- what the record adds
  added : {n fitting made due : ℕ} → due ≡ due_count (to_z w64 (of_z w64 round.until)) c → made ≡ min s.left due → fitting ≡ room value_bytes s.budget → n ≡ min fitting made
      → n ≡ min (room value_bytes s.budget) (made_by round c s.left)
  added p q r e = e ∙ ap₂ min r (q ∙ ap (min s.left) (p ∙ rw (to_z-of_z fit)))

pub returns-else-s-ok : goal.returns-else-s-ok
unfolding may_go
returns-else-s-ok c =
    let a = c.args in
    and_no _ (asked a.round a.c a.long a.s (search rules) c.cycle_ok-ok.ensures c.is_time-timely.ensures c.if-s-ok.false)

pub due_count-requires : goal.due_count-requires
due_count-requires c =
    let a = c.args in
    let fit : SFits w64 a.round.until = search rules in
    let o = in_order_lem a.round a.c a.long a.s (asked a.round a.c a.long a.s fit c.cycle_ok-ok.ensures c.is_time-timely.ensures c.if-s-ok.true) in
    (o.well, rw (to_z-of_z fit) o.timely)

pub overflow_add-result : goal.overflow_add-result
overflow_add-result c =
    let a = c.args in
    let o = in_order_lem a.round a.c a.long a.s (asked a.round a.c a.long a.s (search rules) c.cycle_ok-ok.ensures c.is_time-timely.ensures c.if-s-ok.true) in
    omega (arith, c.min-more.ensures, c.from.type_inv, o.within)

pub returns-then-s-ok : goal.returns-then-s-ok
unfolding may_go
returns-then-s-ok c =
    let a = c.args in
    let fit : SFits w64 a.round.until = search rules in
    let n = added a.round a.c a.long a.s fit c.due_count.ensures c.min-made.ensures (c.from.ensures ∙ c.remaining_event_capacity.ensures) c.min-more.ensures in
    and_yes (asked a.round a.c a.long a.s fit c.cycle_ok-ok.ensures c.is_time-timely.ensures c.if-s-ok.true) (ap (λ (k : ℕ). leb (a.s.count + k) (a.long / record_width)) n)
