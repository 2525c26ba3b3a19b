-- `play_notes`: the run's answer, and that with the spent lists taken out (proofs/Playing).
use mathlib.Core.Path.{◌≡◌, ap, ◌∙◌}
use mathlib.Core.List.{List}
use Prim.Native.Nat.{◌≤◌}
use native.Mathlib.Omega.{arith}
use borrow.Author.Rules.{rules}
use borrow.Author.Tests.{not-true, not-false}
use lib.ListN.{length, take}
use lib.Seq.{length-take-le}
use Rattle.laws.proofs.Reading.{length-told}
use Rattle.budget.specs.declared.Budget.{Budget}
use Rattle.values.specs.declared.WriteOption.{WriteOption}
use Rattle.tables.specs.declared.NoteTable.{NoteTable}
use Rattle.state.proofs.Counts.{few-notes}
use Rattle.noting.specs.declared.Onset.{Onset}
use Rattle.noting.specs.declared.Played.{Played}
use Rattle.noting.specs.Runs.{Run, run, ran_of}
use Rattle.noting.proofs.Playing.{run_long, play-lost, play-kept}
use Rattle.noting.proofs.play_notes.Goals as goal

-- the run leaves as many lists as there were
module _ (t : NoteTable) (options : List WriteOption) (at : Onset) (b : Budget) where
  abbrev r : Run
  r = run options at b (take t.count t.items)

  long : t.count ≤ length t.items → length r.lists ≡ t.count
  long h = run_long options at b (take t.count t.items) ∙ length-take-le t.count t.items h

  counted : (p : Played) → p ≡ ran_of t r → t.count ≤ length t.items → p.notes.count ≡ t.count
  unfolding ran_of
  counted p e h = ap (λ (x : Played). x.notes.count) e ∙ long h

pub returns-else-not-r : goal.returns-else-not-r
returns-else-not-r c =
    let a = c.args in
    play-lost a.table (r a.table a.options a.at a.b) c.run_notes-r.result c.run_notes-r.ensures (not-false _ c.if-not-r.false)

pub keep_unspent-r-requires : goal.keep_unspent-r-requires
keep_unspent-r-requires c =
    let a = c.args in
    let m : length a.table.items ≡ 16 = search (rules, length-told) in
    let few = few-notes a.table c.requires.0 in
    omega (arith, counted a.table a.options a.at a.b c.run_notes-r.result c.run_notes-r.ensures (omega arith))

pub returns-then-not-r : goal.returns-then-not-r
returns-then-not-r c =
    let a = c.args in
    let m : length a.table.items ≡ 16 = search (rules, length-told) in
    let few = few-notes a.table c.requires.0 in
    play-kept a.table (r a.table a.options a.at a.b) (long a.table a.options a.at a.b (omega arith))
    c.run_notes-r.result c.keep_unspent-r.result c.run_notes-r.ensures (not-true _ c.if-not-r.true) c.keep_unspent-r.ensures
