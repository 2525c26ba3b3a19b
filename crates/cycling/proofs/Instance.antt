-- What demand 3 asks can be met: a track whose table holds a controller's cycle and a bend's from before 0, eight writes due up
-- to 100, two calls, a budget that they use up and a list of eight records that they fill.
use mathlib.Core.Path.{◌≡◌, refl, ◌∙◌}
use mathlib.Core.Bool.{true}
use mathlib.Core.List.{List, [], ◌∷◌}
use native.Mathlib.Omega.{arith}
use lib.IntN.{ℤ, pos, negsuc}
use lib.Signed.{le_z_yes}
use lib.ListN.{replicate}
use Rattle.laws.specs.Integers.{inside, sized}
use Rattle.laws.specs.Lists.{all, counted}
use Rattle.laws.specs.Keys.{absent, distinct}
use Rattle.numbers.specs.Ranges.{is_target, is_time, is_length, is_stored_time, is_number, is_bytes, is_timebase}
use Rattle.counted.specs.Numbers.{zeros, numbers, ok_numbers}
use Rattle.budget.specs.Budgets.{ok_budget}
use Rattle.eventlist.specs.Sound.{is_list}
use Rattle.eventlist.proofs.EventRows.{length-rows_of}
use Rattle.cycles.specs.declared.Cycle.{Cycle}
use Rattle.cycles.specs.Due.{gap, steps, due_count, owed, code_of}
use Rattle.cycles.specs.Rules.{no_cycle, ok_cycle}
use Rattle.cycles.specs.Calls.{Until, hits}
use Rattle.cycles.specs.Promise.{Done}
use Rattle.tables.specs.Sixteen.{ok_sixteen}
use Rattle.tables.specs.Tables.{ok_cycles, lone}
use Rattle.state.specs.declared.Track.{Track}
use Rattle.state.specs.Track.{new_track, with_tables, no_notes, no_waves, no_sines}
use Rattle.state.specs.Tests.{ok_play, ok_track, ok_lent}
use Rattle.state.proofs.New.{new-passes}
use Rattle.state.proofs.Parts.{whole, track-play, track-params, track-layers, track-options, track-tables}
use Rattle.cycling.specs.Series.{Lent, after, Accepted, seen, turn_on}
use Rattle.cycling.proofs.Keeping.{Well}
use Rattle.cycling.proofs.Demand.{due, demand-3, all-accepted, bytes-risen}

abbrev new : Track
new = new_track (pos 96) (pos 0)

abbrev track : Track
track = with_tables new no_notes no_waves no_sines 2

abbrev tens : Cycle
tens = record { target = pos 11; length = pos 24; next = pos 0; index = 0; values = numbers (pos 10 ∷ pos 20 ∷ pos 30 ∷ []) }

abbrev bend : Cycle
bend = record { target = pos 128; length = pos 50; next = negsuc 9; index = 0; values = numbers (pos 7 ∷ []) }

abbrev lent : Lent
lent = record { cycles = tens ∷ bend ∷ replicate 14 no_cycle; budget = record { seed = 1; maximum = 100; used = 36; over = 0 }; list = replicate 64 (pos 0); count = 0 }

abbrev asks : List ℤ
asks = pos 30 ∷ pos 100 ∷ []

new_ok : ok_track new ≡ true
new_ok = new-passes (pos 96) (pos 0) (unfold is_timebase inside in refl)

track-ok : ok_track track ≡ true
unfolding new_track ok_play
track-ok = whole track (track-play new new_ok) (track-params new new_ok) (track-layers new new_ok) (track-options new new_ok) (track-tables new new_ok) refl

list-ok : is_list lent.list lent.count ≡ true
unfolding is_list
list-ok = refl

table-ok : ok_lent track lent.cycles ≡ true
unfolding ok_lent new_track ok_sixteen lone counted all ok_cycle is_target is_length is_stored_time ok_numbers is_number inside sized distinct absent zeros code_of
table-ok = rw track-ok

budget-ok : ok_budget lent.budget ≡ true
unfolding ok_budget is_bytes
budget-ok = refl

well : Well track lent
well = record { list = list-ok; lent = table-ok; budget = budget-ok }

eight : due track (pos 100) lent ≡ 8
unfolding new_track owed due_count gap steps
eight = refl

once : hits (pos 100) asks ≡ 1
unfolding hits
once = refl

none-past : Until (pos 100) asks
unfolding Until
none-past = (le_z_yes tt, (le_z_yes tt, tt))

in-time : all is_time asks ≡ true
unfolding all is_time sized inside
in-time = refl

pub accepted : Accepted track asks lent
accepted = all-accepted track (pos 100) asks lent well in-time none-past (omega (arith, eight)) (omega (arith, eight, length-rows_of lent.list))

pub met : Done (turn_on track) (pos 100) asks (seen track lent)
met = (demand-3 track (pos 100) asks lent accepted none-past (omega (arith, eight)) (omega (arith, eight, once))).1

pub all-spent : (after track asks lent).budget.used ≡ 100
all-spent = bytes-risen track (pos 100) asks lent accepted none-past (omega (arith, eight)) (omega (arith, eight, once)) ∙ omega (arith, eight)
