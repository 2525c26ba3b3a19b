-- 01, "The tape program": a tape, record by record. "A refusal prints only `refused N at K`": the first record that is refused
-- ends the tape. As in `reel`, the definitions ..By have the limit of a list first, and those that the code is held to are
-- these at `list_limit`.
use Rattle.std.specs.Prelude.{cond, ◌&&◌, Result, Ok, Err, List, ℕ, zero, suc, ◌+◌, eqb, ltb, ℤ, pos, length}
use Rattle.numbers.specs.Limits.{list_limit}
use Rattle.numbers.specs.Refusals.{number_of}
use Rattle.numbers.specs.declared.refusals.Refusal.{Refusal}
use Rattle.budget.specs.Budgets.{unspent}
use Rattle.state.specs.Track.{new_track, no_cycles}
use Rattle.reel.specs.Limits.{tape_limit}
use Rattle.reel.specs.declared.records.Record.{Record}
use Rattle.reel.specs.Records.{record_by}
use Rattle.reel.specs.Places.{more_due}
use Rattle.carrying.specs.declared.State.{State}
use Rattle.spool.specs.declared.Run.{Run}
use Rattle.lines.specs.declared.Ending.{Ending}
use Rattle.lines.specs.Lines.{end_text}
use Rattle.carrying.specs.Carry.{Left, carried, state_of}

-- before TK: a track and a budget that no call takes, no cycles, no events
unfoldable pub blank_state : State
blank_state = state_of (new_track (pos 0) (pos 0)) no_cycles.items (unspent 0 0) 0

abbrev pub begun : Run
begun = record { code = 0; at = 0; index = 0; due = 0; state = blank_state }

-- the run is over, at the record where it stands: its place is the tape's end
abbrev pub refused : Run → ℕ → ℕ → Run
refused a n end = record { code = n; at = end; index = a.index; due = a.due; state = a.state }

abbrev pub past : Run → ℕ → State → Run
past a next s = record { code = 0; at = next; index = a.index + 1; due = more_due a.due; state = s }

-- a run and the list beside it
pub record Pass : Type 0 where
  pub run : Run
  pub events : List ℤ

abbrev pub pass : Run → List ℤ → Pass
pass a l = record { run = a; events = l }

abbrev pub after_done : List ℕ → Run → Record → List ℤ → Result State ℕ → Pass
after_done s a r l (Ok x) = pass (past a r.next x) l
after_done s a r l (Err n) = pass (refused a n (length s)) l

abbrev pub after_call : List ℕ → Run → Record → Left → Pass
after_call s a r k = after_done s a r k.events k.done

abbrev pub after_record : List ℕ → Run → List ℤ → Result Record Refusal → Pass
after_record s a l (Ok r) = after_call s a r (carried a.state r l)
after_record s a l (Err e) = pass (refused a (number_of e) (length s)) l

-- one record: read, then carried out
unfoldable pub step_by : ℕ → List ℕ → Run → List ℤ → Pass
step_by limit s a l = after_record s a l (record_by limit s a.at a.due)

abbrev pub step_of : List ℕ → Run → List ℤ → Pass
step_of = step_by list_limit

-- at most n records, while some of the tape is left; no tape has more records than bytes
unfoldable pub play_from_by : ℕ → ℕ → List ℕ → Pass → Pass
play_from_by limit zero s p = p
play_from_by limit (suc n) s p =
    cond (ltb p.run.at (length s)) (play_from_by limit n s (step_by limit s p.run p.events)) p

abbrev pub play_from : ℕ → List ℕ → Pass → Pass
play_from = play_from_by list_limit

-- "A missing TK or MX counts where it should stand"
abbrev pub ended : ℕ → Run → Run
ended end a = cond (eqb a.code 0 && ltb a.due 2) (refused a 8 end) a

-- "a longer tape (at record 0) gives 8"
unfoldable pub play_by : ℕ → List ℕ → List ℤ → Pass
play_by limit s l =
    cond (ltb tape_limit (length s)) (pass (refused begun 8 (length s)) l) (play_from_by limit (length s) s (pass begun l))

abbrev pub play_of : List ℕ → List ℤ → Pass
play_of = play_by list_limit

-- how the run of a tape ended
abbrev pub ending_of : Run → Ending
ending_of a = record { code = a.code; index = a.index; count = a.state.count; budget = a.state.budget }

-- what is printed of a tape that is played on the list l: one text, of which the page is asked only whether it is long enough
unfoldable pub printed_by : ℕ → List ℕ → List ℤ → List ℕ → List ℕ
printed_by limit s l page =
    end_text (ending_of (ended (length s) (play_by limit s l).run)) (play_by limit s l).events page

abbrev pub printed : List ℕ → List ℤ → List ℕ → List ℕ
printed = printed_by list_limit
