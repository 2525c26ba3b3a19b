-- The marked cycle, of the public calls: it is set on a new track with an empty table, and written over an empty list with room for five. "Cycle
-- 24 with 10,20,30 from 0, until 100: 0, 24, 48, 72, 96 with 10,20,30,10,20. Maximum 16: two written, the one at 48 lost, next 72."
use mathlib.Core.Path.{◌≡◌, refl, sym, ap, subst}
use mathlib.Core.Bool.{true}
use mathlib.Core.List.{[], ◌∷◌, ◌++◌}
use Prim.Native.Nat.{ℕ}
use lib.IntN.{pos}
use Rattle.laws.specs.Integers.{inside, sized}
use Rattle.laws.specs.Lists.{all, counted}
use Rattle.laws.specs.Keys.{absent, distinct}
use Rattle.laws.specs.Rows.{flat}
use Rattle.numbers.specs.Limits.{places}
use Rattle.numbers.specs.Ranges.{is_time, is_stored_time, is_controller, is_target, is_number, is_length, is_timebase, is_bytes}
use Rattle.numbers.specs.Random.{spread}
use Rattle.budget.specs.Budgets.{ok_budget}
use Rattle.counted.specs.Numbers.{zeros, ok_numbers}
use Rattle.eventlist.specs.Rows.{numbers_of, rows_of}
use Rattle.eventlist.specs.Sound.{is_list}
use Rattle.values.specs.Options.{range_in, moved}
use Rattle.values.specs.Clamp.{top_of, scaled_for, clamped}
use Rattle.values.specs.Value.{event_for, start_of, time_of, event_of_offer}
use Rattle.cycles.specs.Due.{write_of, advanced, run, after, gap, steps, due_count, takes, leaves, code_of}
use Rattle.cycles.specs.Rules.{ok_cycle}
use Rattle.cycles.specs.Calls.{limit, wrote, push, share, moved as table_moved, call}
use Rattle.cycles.specs.Turns.{turn, called_state}
use Rattle.tables.specs.Sixteen.{ok_sixteen}
use Rattle.tables.specs.Tables.{ok_cycles, lone}
use Rattle.state.specs.Track.{new_track}
use Rattle.state.specs.Calls.{new_of, answered}
use Rattle.state.specs.Tests.{ok_play, ok_track, ok_lent}
use Rattle.state.proofs.Parts.{whole, track-play, track-params, track-layers, track-options, track-tables}
use Rattle.cycling.specs.Calls.{cycle_refusal, cycled_of, cycled_list}
use Rattle.reserving.specs.declared.Kept.{Kept}
use Rattle.reserving.specs.Clearing.{answer, left, refusal, cleared, reserving}
use Rattle.reserving.specs.Setting.{set_on_cycle}
use Rattle.marked.specs.Subjects.{new, no_cycles, room, funds, control, set, cycling, table, CycleLeaves, cycled}
use Rattle.marked.proofs.Fresh.{new-well}

well : ok_track cycling ≡ true
unfolding new_of answered is_timebase inside new_track ok_play
well = whole cycling (track-play new new-well) (track-params new new-well) (track-layers new new-well) (track-options new new-well) (track-tables new new-well) refl

lent-well : ok_lent cycling (table (pos 0) 0) ≡ true
unfolding ok_lent ok_sixteen counted all ok_cycle is_target inside is_length sized is_stored_time ok_numbers is_number zeros lone distinct absent new_of answered is_timebase new_track code_of
lent-well = rw well refl

empty-well : ok_lent new no_cycles ≡ true
unfolding ok_lent ok_sixteen counted all lone distinct new_of answered is_timebase inside new_track code_of is_target
empty-well = rw new-well refl

-- ---- setting it

not-refused : refusal new places no_cycles (pos 11) true true true ≡ 0
unfolding refusal is_target inside
not-refused = rw empty-well

pub set_is : set ≡ answer 0 cycling (table (pos 0) 0)
unfolding set_on_cycle reserving cleared is_length sized inside ok_numbers counted all is_number new_of answered is_timebase new_track zeros left code_of is_target
set_is = ap (λ (n : ℕ). left n new no_cycles (answer 0 cycling (table (pos 0) 0))) (unfold new_of answered is_timebase inside new_track in not-refused)

-- ---- writing it

abbrev Plenty : Kept → Type 0
Plenty k =
    CycleLeaves k 80000 (cycled 5 (funds 1 80000 40 0) (table (pos 120) 2))
    (flat numbers_of (control 11 0 10 ∷ control 11 24 20 ∷ control 11 48 30 ∷ control 11 72 10 ∷ control 11 96 20 ∷ []))

abbrev Scarce : Kept → Type 0
Scarce k = CycleLeaves k 16 (cycled 2 (funds 1 16 16 1) (table (pos 72) 0)) (flat numbers_of (control 11 0 10 ∷ control 11 24 20 ∷ []) ++ room 3)

written : Plenty (answer 0 cycling (table (pos 0) 0)) × Scarce (answer 0 cycling (table (pos 0) 0))
unfolding cycled_of cycled_list cycle_refusal is_list is_time sized inside ok_budget is_bytes rows_of called_state call push wrote share table_moved limit takes leaves due_count steps gap run after advanced write_of turn event_of_offer time_of start_of event_for is_controller clamped top_of scaled_for moved range_in spread new_of answered is_timebase new_track code_of is_target
written = (record { answer = rw lent-well; left = rw lent-well }, record { answer = rw lent-well; left = rw lent-well })

pub plenty : Plenty set
plenty = subst (λ (k : Kept). Plenty k) (sym set_is) written.0

pub scarce : Scarce set
scarce = subst (λ (k : Kept). Scarce k) (sym set_is) written.1
