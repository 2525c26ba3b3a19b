-- `cycles::run_table`: the loop's invariant and its steps are proofs/Placing's; here they meet the array and the slice.
use mathlib.Core.Path.{◌≡◌, ap, ◌∙◌}
use mathlib.Core.Bool.{true}
use mathlib.Core.List.{[]}
use Prim.Native.Nat.{◌≤◌, ◌<◌}
use native.Mathlib.Omega.{arith}
use borrow.Author.Rules.{rules}
use lib.IntN.{pos}
use lib.ListN.{length, get_or}
use mir.Syntax.{w32}
use mir.Val.{to_z, of_z}
use mir.Facts.{to_z-of_z}
use Rattle.events.specs.declared.Event.{Event}
use Rattle.eventlist.specs.Rows.{rows_of}
use Rattle.cycles.specs.declared.Cycle.{Cycle}
use Rattle.cycles.specs.declared.Ask.{Ask}
use Rattle.cycles.specs.Calls.{State}
use Rattle.cycles.specs.Rules.{ok_cycle}
use Rattle.cycles.specs.Turns.{ask_for}
use Rattle.cycles.proofs.Rules.{sound}
use Rattle.cycles.proofs.Fitting.{fits-target}
use Rattle.cycles.proofs.Placing as P
use Rattle.cycles.proofs.run_table.Goals as goal
use Rattle.cycles.proofs.run_table.Goals.{In-loop-i}

-- what a read past the end would give
abbrev past : Cycle
past = record { target = pos 0; length = pos 0; next = pos 0; index = 0; values = record { count = 0; items = [] } }

module _ (c : In-loop-i) where
  long : length c.args.table ≡ 16
  long = search rules

  fit : c.args.used ≤ length c.args.table
  fit = omega (arith, long, P.within c.args.used c.args.table c.requires.0)

  less : c.loop-i.i < c.args.used
  less = c.loop-i-test.true

  same : get_or c.loop-i.cycles c.loop-i.i past ≡ get_or c.args.table c.loop-i.i past
  same =
      let a = c.args in
      P.at_place a.round a.used a.table a.b (rows_of a.events.now) a.count c.loop-i.cycles c.loop-i.budget (rows_of c.loop-i.events) c.loop-i.n c.loop-i.left c.loop-i.i
      c.loop-i.invariant less fit past

  well : ok_cycle (get_or c.args.table c.loop-i.i past) ≡ true
  well = P.well c.args.used c.args.table c.loop-i.i past c.requires.0 long less

  enough : length (P.sofar c.args.round c.args.used c.args.table c.args.b (rows_of c.args.events.now) c.args.count c.args.used).events ≤ length (rows_of c.args.events.now)
  enough =
      let a = c.args in
      omega (arith, ap (λ (x : State Event). length x.events) (P.whole a.round a.used a.table a.b (rows_of a.events.now) a.count), c.requires.3)

  -- what the record is asked with, its target read back
  asked : (ask : Ask) → ask ≡ ask_for c.args.round (to_z w32 (of_z w32 (get_or c.loop-i.cycles c.loop-i.i past).target))
      → ask ≡ ask_for c.args.round (get_or c.loop-i.cycles c.loop-i.i past).target
  asked ask e =
      let x = get_or c.loop-i.cycles c.loop-i.i past in
      let ok : ok_cycle x ≡ true = ap ok_cycle same ∙ well in
      e ∙ ap (ask_for c.args.round) (to_z-of_z (fits-target x (sound x ok)))

pub loop-i-init : goal.loop-i-init
loop-i-init c =
    let a = c.args in
    rw c.write_limit-left.ensures.1 (P.begun a.round a.used a.table a.b (rows_of a.events.now) a.count c.requires.2)

pub offset_bounds-cycles-i : goal.offset_bounds-cycles-i
offset_bounds-cycles-i c = let a = (goal.at.offset_bounds-cycles-i c).In-loop-i in omega (arith, less a, fit a, long a)

pub bounds-cycles-i : goal.bounds-cycles-i
bounds-cycles-i c = let a = (goal.at.bounds-cycles-i c).In-loop-i in omega (arith, less a, fit a, long a)

pub offset_bounds-cycles-i-in-loop-i : goal.offset_bounds-cycles-i-in-loop-i
offset_bounds-cycles-i-in-loop-i c = let a = (goal.at.offset_bounds-cycles-i-in-loop-i c).In-loop-i in omega (arith, less a, fit a, long a)

pub bounds-cycles-i-in-loop-i : goal.bounds-cycles-i-in-loop-i
bounds-cycles-i-in-loop-i c = let a = (goal.at.bounds-cycles-i-in-loop-i c).In-loop-i in omega (arith, less a, fit a, long a)

pub offset_bounds-cycles-i-in-loop-i-2 : goal.offset_bounds-cycles-i-in-loop-i-2
offset_bounds-cycles-i-in-loop-i-2 c = let a = (goal.at.offset_bounds-cycles-i-in-loop-i-2 c).In-loop-i in omega (arith, less a, fit a, long a)

pub bounds-cycles-i-in-loop-i-2 : goal.bounds-cycles-i-in-loop-i-2
bounds-cycles-i-in-loop-i-2 c = let a = (goal.at.bounds-cycles-i-in-loop-i-2 c).In-loop-i in omega (arith, less a, fit a, long a)

pub run_record-r-requires : goal.run_record-r-requires
run_record-r-requires c =
    let a = c.args in
    let v = c.loop-i in
    let i = (goal.at.run_record-r-requires c).In-loop-i in
    P.ready a.round a.used a.table a.b (rows_of a.events.now) a.count v.cycles v.budget (rows_of v.events) v.n v.left v.i v.invariant (less i) (fit i) past
    (get_or v.cycles v.i past) c.ask_for-ask.result (same i) (asked i c.ask_for-ask.result c.ask_for-ask.ensures) (well i) c.requires.1 c.requires.2 (enough i)

pub overflow_sub-left : goal.overflow_sub-left
overflow_sub-left c =
    let v = c.loop-i in
    P.few-made c.ask_for-ask.result v.left (get_or v.cycles v.i past) v.budget _ c.run_record-r.result c.run_record-r.ensures.0

pub loop-i-preserved : goal.loop-i-preserved
loop-i-preserved c =
    let a = c.args in
    let v = c.loop-i in
    let e = c.ask_for-ask in
    let p = c.run_record-r.ensures in
    let i = (goal.at.loop-i-preserved c).In-loop-i in
    P.step a.round a.used a.table a.b (rows_of a.events.now) a.count v.cycles v.budget (rows_of v.events) v.n v.left v.i v.invariant (less i) (fit i) past
    (get_or v.cycles v.i past) e.result (same i) (asked i e.result e.ensures) c.run_record-r.result (rows_of c.run_record-r.new.events) p.0 p.1

pub returns : goal.returns
returns c =
    let a = c.args in
    P.ended a.round a.used a.table a.b (rows_of a.events.now) a.count c.loop-i.cycles c.loop-i.budget (rows_of c.loop-i.events) c.loop-i.n c.loop-i.left c.loop-i.i
    c.loop-i.invariant (search rules)
