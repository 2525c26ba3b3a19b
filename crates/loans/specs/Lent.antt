-- 01, "one budget record, which every write is lent and advances": what a call promises of its answer and of all that it is lent,
-- of the outcome that the call by value is defined to have. A call's own definition stands with the call by value.
use Rattle.std.specs.Prelude.{◌≡◌, List, ℤ}
use Rattle.budget.specs.declared.Budget.{Budget}
use Rattle.writing.specs.declared.Outcome.{Outcome}
use Rattle.cycles.specs.declared.Cycle.{Cycle}
use Rattle.state.specs.declared.TrackAnswer.{TrackAnswer}
use Rattle.noting.specs.declared.Noted.{Noted}
use Rattle.reserving.specs.declared.Kept.{Kept}
use Rattle.lending.specs.declared.Answer.{Answer}
use Rattle.loans.specs.declared.NoteAnswer.{NoteAnswer}

-- the number and the count that are handed back of an outcome
abbrev pub told : Outcome → Answer
told o = record { code = o.code; count = o.count }

-- a write whose outcome is o and which leaves the numbers l in the list: it answers r, and leaves the budget b and the numbers m
pub record Written (o : Outcome) (l : List ℤ) (r : Answer) (b : Budget) (m : List ℤ) : Type 0 where
  pub answer : r ≡ told o
  pub spent : b ≡ o.budget
  pub left : m ≡ l

-- ---- "the on-cycle table is lent by the caller as sixteen records"
-- the number and the track that are handed back of what a setter leaves
abbrev pub kept : Kept → TrackAnswer
kept k = record { code = k.code; track = k.track }

-- a setter that is defined to leave k: it answers r and leaves the records cs
pub record Reserved (k : Kept) (r : TrackAnswer) (cs : List Cycle) : Type 0 where
  pub answer : r ≡ kept k
  pub left : cs ≡ k.cycles

-- ---- the write for a note, which hands back the track besides
abbrev pub note_told : Noted → NoteAnswer
note_told o = record { code = o.code; count = o.count; track = o.track }

pub record NoteWritten (o : Noted) (l : List ℤ) (r : NoteAnswer) (b : Budget) (m : List ℤ) : Type 0 where
  pub answer : r ≡ note_told o
  pub spent : b ≡ o.budget
  pub left : m ≡ l
