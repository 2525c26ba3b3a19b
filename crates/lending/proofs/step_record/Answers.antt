-- `step_record`: the tests (Stepping), and then one record's run, which for a whole number of records says every number of the list.
use mathlib.Core.Path.{◌≡◌, sym, ap, ◌∙◌}
use Prim.Native.Nat.{ℕ}
use lib.ListN.{length}
use mir.Syntax.{w32}
use mir.Val.{to_z, of_z}
use mir.Facts.{to_z-of_z}
use Rattle.eventlist.specs.Rows.{rows_of, events_of}
use Rattle.eventlist.proofs.EventRows.{determined}
use Rattle.eventlist.proofs.Sound.{list-whole}
use Rattle.cycles.specs.declared.Ask.{Ask}
use Rattle.cycles.specs.declared.Cycle.{Cycle}
use Rattle.cycles.specs.declared.Round.{Round}
use Rattle.cycles.specs.Turns.{ask_for}
use Rattle.cycles.proofs.Rules.{sound}
use Rattle.cycles.proofs.Fitting.{fits-target}
use Rattle.cycles.proofs.Placing.{few-made}
use Rattle.lending.specs.declared.Going.{Going}
use Rattle.lending.specs.Writing.{after}
use Rattle.lending.proofs.Stepping.{Orderly, goes, list-here, stands, steps, list-after, ready, told}
use Rattle.lending.proofs.step_record.Goals as goal

-- what the run is asked with, its target read back
asks : (round : Round) (c : Cycle) (long : ℕ) (s : Going) {ask : Ask} → Orderly round c long s → ask ≡ ask_for round (to_z w32 (of_z w32 c.target)) → ask ≡ ask_for round c.target
asks round c long s o e = e ∙ ap (ask_for round) (to_z-of_z (fits-target c (sound c o.well)))

pub returns-then-not-may_go : goal.returns-then-not-may_go
returns-then-not-may_go c =
    let a = c.args in
    stands a.round a.c a.events.now a.s (sym c.may_go.ensures ∙ c.if-not-may_go.true)

pub run_record-r-requires : goal.run_record-r-requires
run_record-r-requires c =
    let a = c.args in
    let held = sym c.may_go.ensures ∙ c.if-not-may_go.false in
    let o = goes a.round a.c (length a.events.now) a.s held in
    ready a.round a.c a.events.now a.s held c.ask_for-ask.result (asks a.round a.c (length a.events.now) a.s o c.ask_for-ask.ensures)

pub overflow_sub-result : goal.overflow_sub-result
overflow_sub-result c =
    let a = c.args in
    (goes a.round a.c (length a.events.now) a.s (sym c.may_go.ensures ∙ c.if-not-may_go.false)).counts

pub overflow_sub-result-2 : goal.overflow_sub-result-2
overflow_sub-result-2 c =
    let a = c.args in
    few-made c.ask_for-ask.result a.s.left a.c a.s.budget (events_of a.events.now a.s.count) c.run_record-r.result c.run_record-r.ensures.0

pub returns : goal.returns
returns c =
    let a = c.args in
    let l = a.events.now in
    let held = sym c.may_go.ensures ∙ c.if-not-may_go.false in
    let o = goes a.round a.c (length l) a.s held in
    let p = c.run_record-r in
    let e = told a.round a.c l a.s c.ask_for-ask.result (asks a.round a.c (length l) a.s o c.ask_for-ask.ensures) p.result (rows_of p.new.events) p.ensures.0 p.ensures.1 in (
      ap (after a.s) e.0 ∙ sym (steps a.round a.c l a.s held),
      determined l p.new.events _ (list-whole l a.s.count (list-here a.round a.c l a.s o)) p.auto.events e.1 ∙ sym (list-after a.round a.c l a.s held),
    )
