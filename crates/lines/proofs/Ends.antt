-- How a tape's end is put into words, on the definition, by its two tests.
use mathlib.Core.Path.{◌≡◌}
use mathlib.Core.Bool.{true, false, ◌&&◌}
use mathlib.Core.List.{List, []}
use Prim.Native.Nat.{ℕ, ◌/◌, ◌≤◌}
use lib.Dec.{leb}
use lib.IntN.{ℤ}
use lib.ListN.{length}
use borrow.Author.Tests.{leb-true, eq-eqb, ne_eqb}
use Rattle.laws.proofs.Ranges.{left, right}
use Rattle.eventlist.specs.Rows.{record_width, rows_of, events_of}
use Rattle.eventlist.proofs.EventRows.{length-rows_of}
use Rattle.reel.specs.Limits.{event_room}
use Rattle.lines.specs.Lines.{page_long, printable, refusal_text, done_text, end_text}
use Rattle.lines.specs.declared.Ending.{Ending}

-- what the test says that a page can be printed
pub record Printable (count : ℕ) (l : List ℤ) (page : List ℕ) : Type 0 where
  pub long : page_long ≤ length page
  pub few : count ≤ event_room
  pub there : count ≤ length (rows_of l)

module _ (count : ℕ) (l : List ℤ) (page : List ℕ) where
  pub tested : (leb page_long (length page) && (leb count event_room && leb count (length l / record_width))) ≡ printable count l page
  unfolding printable
  tested = rw (length-rows_of l)

  pub room : printable count l page ≡ true → Printable count l page
  unfolding printable
  room e =
      let r = right (leb page_long (length page)) (leb count event_room && leb count (length (rows_of l))) e in
      record {
        long = leb-true _ _ (left (leb page_long (length page)) (leb count event_room && leb count (length (rows_of l))) e);
        few = leb-true _ _ (left (leb count event_room) (leb count (length (rows_of l))) r);
        there = leb-true _ _ (right (leb count event_room) (leb count (length (rows_of l))) r);
      }

module _ (e : Ending) (l : List ℤ) (page : List ℕ) where
  pub unprinted : printable e.count l page ≡ false → [] ≡ end_text e l page
  unfolding end_text
  unprinted h = rw h

  module _ (h : printable e.count l page ≡ true) where
    pub refused : (e.code ≡ 0 → ⊥) → refusal_text e.code e.index ≡ end_text e l page
    unfolding end_text
    refused n = rw (h, ne_eqb e.code 0 n)

    pub done : e.code ≡ 0 → done_text e.count e.budget (events_of l e.count) ≡ end_text e l page
    unfolding end_text
    done n = rw (h, eq-eqb e.code 0 n)
