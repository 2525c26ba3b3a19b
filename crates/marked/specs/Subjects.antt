-- What the marked cases are asked of, each made by public calls from a new track or parameter; and for each public call, what its contract
-- promises of an answer and of what is left.
use Rattle.std.specs.Prelude.{◌≡◌, List, [], ◌∷◌, ◌++◌, ℕ, ◌*◌, ℤ, pos, replicate}
use Rattle.laws.specs.Rows.{flat}
use Rattle.numbers.specs.Limits.{places}
use Rattle.budget.specs.declared.Budget.{Budget}
use Rattle.budget.specs.Budgets.{unspent}
use Rattle.counted.specs.Numbers.{numbers}
use Rattle.events.specs.declared.Event.{Event}
use Rattle.events.specs.Events.{cc_event, pitch_bend_event}
use Rattle.eventlist.specs.declared.Taken.{Taken}
use Rattle.eventlist.specs.Rows.{numbers_of}
use Rattle.cutting.specs.declared.Cut.{Cut}
use Rattle.cutting.specs.Cuts.{cut_taken, cut_left}
use Rattle.params.specs.declared.ParamAnswer.{ParamAnswer}
use Rattle.params.specs.declared.ParamValue.{ParamValue}
use Rattle.params.specs.Param as parameter
use Rattle.params.specs.Calls.{set_on_time, calc_on_time}
use Rattle.cycles.specs.declared.Cycle.{Cycle}
use Rattle.cycles.specs.Rules.{no_cycle}
use Rattle.tables.specs.Reservations.{expand}
use Rattle.writing.specs.declared.Outcome.{Outcome}
use Rattle.state.specs.declared.Track.{Track}
use Rattle.state.specs.Track.{no_notes, no_waves, no_sines, with_tables}
use Rattle.state.specs.Calls.{new_of, set_timepos, set_cc_freq}
use Rattle.drawing.specs.Options.{set_random}
use Rattle.drawing.specs.Calls.{Draw, on_time}
use Rattle.cycling.specs.declared.Cycled.{Cycled}
use Rattle.cycling.specs.Calls.{cycled_of, cycled_list}
use Rattle.reserving.specs.declared.Kept.{Kept}
use Rattle.reserving.specs.Setting.{set_on_note_wave, set_on_cycle}
use Rattle.waving.specs.Calls.{note_written, note_left}

-- ---- a track of timebase 96 on channel 0; a cycle table and a list in which nothing stands
abbrev pub new : Track
new = (new_of (pos 96) (pos 0)).track

abbrev pub no_cycles : List Cycle
no_cycles = replicate places no_cycle

-- room for so many events
abbrev pub room : ℕ → List ℤ
room n = replicate (n * 8) (pos 0)

abbrev pub funds : ℕ → ℕ → ℕ → ℕ → Budget
funds seed maximum used over = record { seed = seed; maximum = maximum; used = used; over = over }

abbrev pub outcome : ℕ → Budget → Outcome
outcome count b = record { code = 0; count = count; budget = b }

-- controller k at a time, and a bend at 0, on channel 0
abbrev pub control : ℕ → ℕ → ℕ → Event
control k time value = cc_event (pos time) (pos 0) (pos k) (pos value)

abbrev pub bend : ℕ → Event
bend value = pitch_bend_event (pos 0) (pos 0) (pos value)

-- ---- one value: a curve of one step that begins with it, over a list with room for one
abbrev pub once : Track → ℤ → ℤ → ℕ → Draw
once a target v seed = on_time a target (v ∷ v ∷ pos 1 ∷ []) (unspent seed 80) (room 1) 0 0

-- controller 7 with random 10
abbrev pub random : Track
random = (set_random new (pos 7) (pos 10)).track

-- ---- a parameter with a curve from time 0 on, and its value at 48; 5 is the caller's default
abbrev pub swell : ℤ → ParamAnswer
swell high = set_on_time parameter.fresh (pos 0) (pos 0 ∷ high ∷ pos 96 ∷ [])

abbrev pub half_way : ℤ → ParamValue
half_way high = calc_on_time (swell high).param (pos 48) (pos 5)

abbrev pub valued : ℤ → ℤ → ParamValue
valued high v = record { code = 0; value = v; param = (swell high).param }

-- ---- a curve on a new track, whose frequency is 4, over an empty list with room for four
abbrev pub drawn : ℕ → Draw
drawn n = on_time new (pos 7) (pos 0 ∷ pos 100 ∷ pos 12 ∷ []) (unspent 1 n) (room 4) 0 0

-- the three events, and the place that is left
abbrev pub three_and_room : List ℤ
three_and_room = flat numbers_of (control 7 0 0 ∷ control 7 4 33 ∷ control 7 8 66 ∷ []) ++ room 1

-- ---- a curve of n ones on a new track, over an empty list with room for one: equal values are written once
abbrev pub ones : ℕ → Draw
ones n = on_time new (pos 7) (replicate n (pos 1)) (unspent 1 80000) (room 1) 0 0

-- ---- what `write_cc_on_note_wave` promises of its answer r and of the list l, at a note that begins at 0, over an empty list with
-- room for n
pub record WaveLeaves (a : Track) (maximum n : ℕ) (r : Outcome) (l : List ℤ) : Type 0 where
  pub answer : r ≡ note_written 0 a (pos 0) (unspent 1 maximum) (room n) 0
  pub left : l ≡ note_left 0 a (pos 0) (unspent 1 maximum) (room n) 0

-- an Expand wave for controller 7, written at every step of a note that begins at 0 and ends at n
abbrev pub waved : List ℤ → ℕ → Track
waved v n = (set_timepos (set_on_note_wave (set_cc_freq new (pos 1)).track places no_cycles (pos 7) expand v).track (pos n)).track

-- lengths 3,3,4: from 0 to 20, to 40, to 70
abbrev pub three : List ℤ
three = pos 0 ∷ pos 20 ∷ pos 3 ∷ pos 20 ∷ pos 40 ∷ pos 3 ∷ pos 40 ∷ pos 70 ∷ pos 4 ∷ []

-- lengths 8,0: from 0 to 15, and 100
abbrev pub two : List ℤ
two = pos 0 ∷ pos 15 ∷ pos 8 ∷ pos 100 ∷ pos 100 ∷ pos 0 ∷ []

-- ---- one cycle on a new track
abbrev pub set : Kept
set = set_on_cycle new places no_cycles (pos 11) (pos 24) (pos 10 ∷ pos 20 ∷ pos 30 ∷ [])

abbrev pub cycling : Track
cycling = with_tables new no_notes no_waves no_sines 1

-- the value at i next, at time n; the other fifteen records are unused
abbrev pub table : ℤ → ℕ → List Cycle
table n i =
    record { target = pos 11; length = pos 24; next = n; index = i; values = numbers (pos 10 ∷ pos 20 ∷ pos 30 ∷ []) } ∷ replicate 15 no_cycle

-- what `write_cc_on_cycle` promises of its answer r and of the list l, up to 100, over an empty list with room for five
pub record CycleLeaves (k : Kept) (maximum : ℕ) (r : Cycled) (l : List ℤ) : Type 0 where
  pub answer : r ≡ cycled_of k.track places k.cycles (pos 100) (unspent 1 maximum) (room 5) 0
  pub left : l ≡ cycled_list k.track places k.cycles (pos 100) (unspent 1 maximum) (room 5) 0

abbrev pub cycled : ℕ → Budget → List Cycle → Cycled
cycled count b cs = record { code = 0; count = count; budget = b; cycles = cs }

-- ---- "CC7=90 at 0, CC7=100 at 10"
abbrev pub twice : List ℤ
twice = flat numbers_of (control 7 0 90 ∷ control 7 10 100 ∷ [])

-- what `play_from` and the full cut promise of the list l that both are left in
pub record CutLeaves (c : Cut) (l : List ℤ) : Type 0 where
  pub answer : ◌≡◌ {A = Taken} (record { code = 0; count = 2 }) (cut_taken 0 twice 2 c)
  pub left : l ≡ cut_left 0 twice 2 c
