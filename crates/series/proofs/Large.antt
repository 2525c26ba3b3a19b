-- What demand 3 asks can be met where more is due than one call makes: a controller's cycle of length 1 from 0, 10,001 writes due up to
-- 10,000, two calls exactly at 10,000, a budget that they use up and a list of 10,001 records that they fill. The list is never
-- written out: only its length is asked.
use mathlib.Core.Path.{◌≡◌, refl, ◌∙◌}
use mathlib.Core.Bool.{true}
use mathlib.Core.List.{List, [], ◌∷◌}
use native.Mathlib.Omega.{arith}
use lib.IntN.{ℤ, pos}
use lib.Signed.{le_z_yes}
use lib.ListN.{length, replicate, length-replicate}
use Rattle.laws.specs.Integers.{inside, sized}
use Rattle.laws.specs.Lists.{all, counted}
use Rattle.laws.specs.Keys.{absent, distinct}
use Rattle.numbers.specs.Ranges.{is_target, is_time, is_length, is_stored_time, is_number, is_bytes, is_timebase}
use Rattle.counted.specs.Numbers.{zeros, numbers, ok_numbers}
use Rattle.budget.specs.Budgets.{ok_budget}
use Rattle.eventlist.specs.Sound.{is_list}
use Rattle.eventlist.proofs.EventRows.{length-rows_of}
use Rattle.cycles.specs.declared.Cycle.{Cycle}
use Rattle.cycles.specs.Due.{gap, steps, due_count, owed, code_of}
use Rattle.cycles.specs.Rules.{ok_cycle, no_cycle}
use Rattle.cycles.specs.Calls.{Until, hits}
use Rattle.tables.specs.Sixteen.{ok_sixteen}
use Rattle.tables.specs.Tables.{ok_cycles, lone}
use Rattle.state.specs.declared.Track.{Track}
use Rattle.state.specs.Track.{new_track, with_tables, no_notes, no_waves, no_sines}
use Rattle.state.specs.Tests.{ok_play, ok_track, ok_lent}
use Rattle.state.proofs.New.{new-passes}
use Rattle.state.proofs.Parts.{whole, track-play, track-params, track-layers, track-options, track-tables}
use Rattle.cycling.specs.Series.{Lent, after, Accepted}
use Rattle.cycling.proofs.Keeping.{Well}
use Rattle.cycling.proofs.Demand.{due, all-accepted}
use Rattle.series.specs.Events.{Settled}
use Rattle.series.specs.Calls.{last, untils, calls_to}
use Rattle.series.specs.Calls as lending
use Rattle.series.proofs.ByValue.{admitted, untils-are}
use Rattle.series.proofs.Demand.{settled, lent-all-accepted, lent-settled}

abbrev new : Track
new = new_track (pos 96) (pos 0)

abbrev track : Track
track = with_tables new no_notes no_waves no_sines 1

abbrev tick : Cycle
tick = record { target = pos 11; length = pos 1; next = pos 0; index = 0; values = numbers (pos 10 ∷ pos 20 ∷ []) }

unfoldable pub room : List ℤ
room = replicate 80008 (pos 0)

abbrev lent : Lent
lent = record { cycles = tick ∷ replicate 15 no_cycle; budget = record { seed = 1; maximum = 80008; used = 0; over = 0 }; list = room; count = 0 }

abbrev asks : List ℤ
asks = pos 10000 ∷ pos 10000 ∷ []

new_ok : ok_track new ≡ true
new_ok = new-passes (pos 96) (pos 0) (unfold is_timebase inside in refl)

track-ok : ok_track track ≡ true
unfolding new_track ok_play
track-ok = whole track (track-play new new_ok) (track-params new new_ok) (track-layers new new_ok) (track-options new new_ok) (track-tables new new_ok) refl

long : length room ≡ 80008
unfolding room
long = length-replicate 80008 (pos 0)

list-ok : is_list room 0 ≡ true
unfolding is_list
list-ok = rw long

table-ok : ok_lent track lent.cycles ≡ true
unfolding ok_lent new_track ok_sixteen lone counted all ok_cycle is_target is_length is_stored_time ok_numbers is_number inside sized distinct absent zeros code_of
table-ok = rw track-ok

budget-ok : ok_budget lent.budget ≡ true
unfolding ok_budget is_bytes
budget-ok = refl

well : Well track lent
well = record { list = list-ok; lent = table-ok; budget = budget-ok }

-- D
pub many : due track (pos 10000) lent ≡ 10001
unfolding new_track owed due_count gap steps
many = refl

twice : hits (pos 10000) asks ≡ 2
unfolding hits
twice = refl

none-past : Until (pos 10000) asks
unfolding Until
none-past = (le_z_yes tt, (le_z_yes tt, tt))

in-time : all is_time asks ≡ true
unfolding all is_time sized inside
in-time = refl

pub accepted : Accepted track asks lent
accepted = all-accepted track (pos 10000) asks lent well in-time none-past (omega (arith, many)) (omega (arith, many, length-rows_of room, long))

pub met : Settled track (pos 10000) asks lent (after track asks lent)
met = settled track (pos 10000) asks lent accepted none-past (omega (arith, many)) (omega (arith, many, twice))

pub all-spent : (after track asks lent).budget.used ≡ 80008
all-spent = met.bytes ∙ omega (arith, many)

pub all-filled : (after track asks lent).count ≡ 10001
all-filled = met.count ∙ omega (arith, many)

-- ---- the same, all of it lent
abbrev pub calls : List lending.Call
calls = calls_to track asks lent

pub lent-accepted : lending.Accepted calls
lent-accepted =
    lent-all-accepted track (pos 10000) calls lent (admitted track asks lent) (rw (untils-are track asks lent) none-past) (omega (arith, many)) (omega (arith, many, length-rows_of room, long))
    refl well (rw (untils-are track asks lent) in-time)

pub lent_met : Settled track (pos 10000) (untils calls) lent (last calls lent)
lent_met =
    lent-settled track (pos 10000) calls lent (admitted track asks lent) lent-accepted (rw (untils-are track asks lent) none-past) (omega (arith, many))
    (rw (untils-are track asks lent) (omega (arith, many, twice)))
