-- `run_notes`: the loop's invariant and its steps are proofs/Walking's; here they meet the arrays.
use mathlib.Core.Path.{◌≡◌, sym, ap, ◌∙◌}
use mathlib.Core.Bool.{true}
use mathlib.Core.List.{[]}
use Prim.Native.Nat.{ℕ, ◌≤◌, ◌<◌}
use native.Mathlib.Omega.{arith}
use borrow.Author.Rules.{rules}
use lib.IntN.{pos}
use lib.ListN.{length, get_or}
use mir.Syntax.{w32}
use mir.Val.{to_z, of_z}
use mir.Facts.{to_z-of_z}
use Rattle.laws.proofs.Reading.{length-told, get_d_any}
use Rattle.laws.proofs.Every.{all-below}
use Rattle.values.specs.Options.{new_option}
use Rattle.cycles.specs.Due.{key}
use Rattle.cycles.specs.Turns.{option_of}
use Rattle.tables.specs.declared.OnNoteValues.{OnNoteValues}
use Rattle.tables.specs.Reservations.{ok_values}
use Rattle.state.proofs.Counts.{few-notes}
use Rattle.noting.proofs.Rules.{sound, fits-target, listed}
use Rattle.noting.proofs.Walking as W
use Rattle.noting.proofs.run_notes.Goals.{In-loop-i, then-not-is_silent+in-Some, else-not-is_silent}
use Rattle.noting.proofs.run_notes.Goals as goal

-- what a read past the end would give
abbrev past : OnNoteValues
past = record { target = pos 0; index = 0; cycling = 0; values = record { count = 0; items = [] } }

-- the list at i, which may be stored
module _ (c : In-loop-i) where
  abbrev x : OnNoteValues
  x = get_or c.loop-i.notes.items c.loop-i.i past

  fit : c.args.table.count ≤ length c.args.table.items
  fit = let m : length c.args.table.items ≡ 16 = search (rules, length-told) in omega (arith, few-notes c.args.table c.requires.0)

  less : c.loop-i.i < c.args.table.count
  less = search rules

  near : c.loop-i.i < 16
  near = omega (arith, less, few-notes c.args.table c.requires.0)

  well : ok_values x ≡ true
  well =
      let a = c.args in
      let v = c.loop-i in
      ap ok_values (W.x-is a.options a.at a.table a.b fit v.notes v.events v.budget v.made v.i v.invariant less past)
      ∙ all-below ok_values a.table.items a.table.count v.i past (listed a.table c.requires.0) less fit

  -- its target's option, as the code reads it
  own : {k : ℕ} → k ≡ key (to_z w32 (of_z w32 x.target)) → get_or c.args.options k new_option ≡ option_of c.args.options x.target
  own e =
      let m : length c.args.options ≡ 129 = search (rules, length-told) in
      ap (λ (j : ℕ). get_or c.args.options j new_option) (e ∙ ap key (to_z-of_z (fits-target x (sound x well))))
      ∙ get_d_any c.args.options (key x.target) new_option new_option (omega arith)

pub loop-i-init : goal.loop-i-init
loop-i-init c = let a = c.args in rw c.zero_event-events.ensures (W.begun a.options a.at a.table a.b)

pub offset_bounds-notes-i : goal.offset_bounds-notes-i
offset_bounds-notes-i c = omega (arith, near (goal.at.offset_bounds-notes-i c).In-loop-i)

pub bounds-notes-i : goal.bounds-notes-i
bounds-notes-i c = near (goal.at.bounds-notes-i c).In-loop-i

pub step-s-requires : goal.step-s-requires
step-s-requires c =
    (well (goal.at.step-s-requires c).In-loop-i, sym c.is_silent.ensures ∙ c.if-not-is_silent.true, c.requires.1)

pub returns-in-None : goal.returns-in-None
returns-in-None c =
    let a = c.args in
    let v = c.loop-i in
    let at = (goal.at.returns-in-None c).In-loop-i in
    W.lost a.options a.at a.table a.b (fit at) v.notes v.events v.budget v.made v.i v.invariant (less at) past
    (sym c.is_silent.ensures ∙ c.if-not-is_silent.true) c.step-s.result _ c.step-s.ensures (own at c.key_of.ensures) c.in-None.is

pub loop-i-preserved : goal.loop-i-preserved
loop-i-preserved c =
    let a = c.args in
    let v = c.loop-i in
    let at = (goal.at.loop-i-preserved c).In-loop-i in
    elim c.if-not-is_silent.branch [
      | then-not-is_silent+in-Some w ↦ rw (w.notes-is, w.events-is, w.budget-is, w.made-is)
          (W.wrote a.options a.at a.table a.b (fit at) v.notes v.events v.budget v.made v.i v.invariant (less at) past
          (sym c.is_silent.ensures ∙ w.if-not-is_silent.true) w.step-s.result _ w.step-s.ensures (own at w.key_of.ensures) _ w.in-Some.is (few-notes a.table c.requires.0))
      | else-not-is_silent w ↦ rw (w.notes-is, w.events-is, w.budget-is, w.made-is)
          (W.passed_over a.options a.at a.table a.b (fit at) v.notes v.events v.budget v.made v.i v.invariant (less at) past
          (sym c.is_silent.ensures ∙ w.if-not-is_silent.false))
    ]

pub returns : goal.returns
returns c =
    let a = c.args in
    let v = c.loop-i in
    let m : length a.table.items ≡ 16 = search (rules, length-told) in
    let f = few-notes a.table c.requires.0 in
    W.ended a.options a.at a.table a.b (omega arith) v.notes v.events v.budget v.made v.i v.invariant (search rules)
