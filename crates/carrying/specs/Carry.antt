-- 01, "The tape program": the call that each record names, and what it leaves. Everything is said by the calls' own
-- definitions; a list is handed to a call as the record has it.
use Rattle.std.specs.Prelude.{cond, Result, Ok, Err, List, ℕ, eqb, ℤ}
use Rattle.std.specs.Int.{w32}
use Rattle.std.proofs.Common.{of_z}
use Rattle.numbers.specs.Limits.{places}
use Rattle.counted.specs.Numbers.{shown}
use Rattle.budget.specs.declared.Budget.{Budget}
use Rattle.budget.specs.declared.BudgetAnswer.{BudgetAnswer}
use Rattle.budget.specs.Budgets.{new_budget}
use Rattle.eventlist.specs.declared.Taken.{Taken}
use Rattle.cutting.specs.Cuts.{plain, cut_taken, cut_left}
use Rattle.cycles.specs.declared.Cycle.{Cycle}
use Rattle.state.specs.declared.Track.{Track}
use Rattle.state.specs.declared.TrackAnswer.{TrackAnswer}
use Rattle.state.specs.Calls.{new_of, set_timepos, set_cc_freq, set_pb_freq}
use Rattle.writing.specs.declared.Outcome.{Outcome}
use Rattle.drawing.specs.Calls.{Draw, on_time, draw_answer, draw_left}
use Rattle.reserving.specs.declared.Kept.{Kept}
use Rattle.reserving.specs.Setting.{set_on_cycle}
use Rattle.cycling.specs.declared.Cycled.{Cycled}
use Rattle.cycling.specs.Calls.{cycled_of, cycled_list}
use Rattle.reel.specs.declared.marks.Mark.{Mark}
use Rattle.reel.specs.declared.marks.Mark.TheVariants.{Track as TK, Budget as MX, Time as TP, Freqs as FQ, Curve as OT, Cycle as CY, Turn as RC, Cut as PF}
use Rattle.reel.specs.declared.records.Record.{Record}
use Rattle.carrying.specs.declared.State.{State}

-- the state after a call, or its number where it refuses
abbrev pub carried_to : ℕ → State → Result State ℕ
carried_to n s = cond (eqb n 0) (Ok s) (Err n)

abbrev pub state_of : Track → List Cycle → Budget → ℕ → State
state_of a cs b n = record { track = a; cycles = cs; budget = b; count = n }

-- ---- TK timebase channel
abbrev pub track_answered : State → TrackAnswer → Result State ℕ
track_answered s t = carried_to t.code (state_of t.track s.cycles s.budget s.count)

unfoldable pub make_track : State → Record → Result State ℕ
make_track s r = track_answered s (new_of r.x r.y)

-- ---- MX maximum seed: "the seed as bits"; of a maximum below 0 the bits are above every maximum
abbrev pub budget_answered : State → BudgetAnswer → Result State ℕ
budget_answered s b = carried_to b.code (state_of s.track s.cycles b.budget s.count)

unfoldable pub make_budget : State → Record → Result State ℕ
make_budget s r = budget_answered s (new_budget (of_z w32 r.y) (of_z w32 r.x))

-- ---- TP timepos
unfoldable pub move_to : State → Record → Result State ℕ
move_to s r = track_answered s (set_timepos s.track r.x)

-- ---- FQ controller-frequency bend-frequency: refused, neither is set
abbrev pub second : Track → TrackAnswer → TrackAnswer
second a u = cond (eqb u.code 0) u (record { code = u.code; track = a })

abbrev pub after_first : Track → ℤ → TrackAnswer → TrackAnswer
after_first a y t = cond (eqb t.code 0) (second a (set_pb_freq t.track y)) t

unfoldable pub both_freqs : Track → ℤ → ℤ → TrackAnswer
both_freqs a x y = after_first a y (set_cc_freq a x)

unfoldable pub set_freqs : State → Record → Result State ℕ
set_freqs s r = track_answered s (both_freqs s.track r.x r.y)

-- ---- OT target n values, a curve; the tape has no store of bytes
unfoldable pub curve_of : State → Record → List ℤ → Draw
curve_of s r l = on_time s.track r.x (shown r.list) s.budget l s.count 0

abbrev pub drawn_to : State → Outcome → Result State ℕ
drawn_to s o = carried_to o.code (state_of s.track s.cycles o.budget o.count)

-- ---- CY target length n values, a cycle set
abbrev pub kept_to : State → Kept → Result State ℕ
kept_to s k = carried_to k.code (state_of k.track k.cycles s.budget s.count)

unfoldable pub set_cycle : State → Record → Result State ℕ
set_cycle s r = kept_to s (set_on_cycle s.track places s.cycles r.x r.y (shown r.list))

-- ---- RC until, cycle writes
abbrev pub cycled_to : State → Cycled → Result State ℕ
cycled_to s k = carried_to k.code (state_of s.track k.cycles k.budget k.count)

unfoldable pub turn_answer : State → Record → List ℤ → Cycled
turn_answer s r l = cycled_of s.track places s.cycles r.x s.budget l s.count

unfoldable pub turn_list : State → Record → List ℤ → List ℤ
turn_list s r l = cycled_list s.track places s.cycles r.x s.budget l s.count

-- ---- PF cut, the plain one
abbrev pub cut_to : State → Taken → Result State ℕ
cut_to s t = carried_to t.code (state_of s.track s.cycles s.budget t.count)

-- what carrying a record out answers, and every number of the list then
pub record Left : Type 0 where
  pub done : Result State ℕ
  pub events : List ℤ

abbrev pub left : Result State ℕ → List ℤ → Left
left d l = record { done = d; events = l }

-- the record's call
unfoldable pub carried_as : Mark → State → Record → List ℤ → Left
carried_as TK s r l = left (make_track s r) l
carried_as MX s r l = left (make_budget s r) l
carried_as TP s r l = left (move_to s r) l
carried_as FQ s r l = left (set_freqs s r) l
carried_as OT s r l = left (drawn_to s (draw_answer (curve_of s r l))) (draw_left (curve_of s r l))
carried_as CY s r l = left (set_cycle s r) l
carried_as RC s r l = left (cycled_to s (turn_answer s r l)) (turn_list s r l)
carried_as PF s r l = left (cut_to s (cut_taken 0 l s.count (plain r.x))) (cut_left 0 l s.count (plain r.x))

abbrev pub carried : State → Record → List ℤ → Left
carried s r l = carried_as r.mark s r l
