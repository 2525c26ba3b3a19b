-- The answers of `write_cc_on_note`, read off its tests in their order.
--     no-list, no-numbers, no_room, well   the number
--     run-few, room-asked                  at most as many events as lists; the test for room, as the code asks it
use mathlib.Core.Path.{◌≡◌, ap, ◌∙◌}
use mathlib.Core.Bool.{Bool, true, false, ◌&&◌}
use mathlib.Core.List.{List}
use Prim.Native.Nat.{ℕ, ◌+◌, ◌-◌, ◌≤◌, ◌<◌}
use native.Mathlib.Omega.{arith}
use borrow.Author.Tests.{lt-ltb, le-ltb}
use lib.Dec.{ltb}
use lib.IntN.{ℤ}
use lib.ListN.{length, take, length-append, length-take}
use lib.Seq.{length-take-le}
use Rattle.numbers.specs.Limits.{places}
use Rattle.numbers.specs.Ranges.{is_time}
use Rattle.budget.specs.declared.Budget.{Budget}
use Rattle.budget.specs.Budgets.{ok_budget}
use Rattle.values.specs.declared.WriteOption.{WriteOption}
use Rattle.eventlist.specs.Rows.{rows_of, events_of}
use Rattle.eventlist.specs.Sound.{is_list}
use Rattle.eventlist.proofs.Sound.{list-within}
use Rattle.tables.specs.declared.OnNoteValues.{OnNoteValues}
use Rattle.state.specs.declared.Track.{Track}
use Rattle.state.specs.Tests.{ok_track}
use Rattle.state.proofs.Stored.{notes-few}
use Rattle.noting.specs.declared.Onset.{Onset}
use Rattle.noting.specs.Runs.{run}
use Rattle.noting.specs.Calls.{run_of, list_after, refusal}
use Rattle.noting.proofs.Playing.{run-cases}

pub run-few : (options : List WriteOption) (at : Onset) (b : Budget) (es : List OnNoteValues) → length (run options at b es).events ≤ length es
run-few options at =
    run-cases options at (λ b es r. length r.events ≤ length es) (λ b. omega arith) (λ b e es s h. omega (arith, h)) (λ b e es s f h. omega (arith, h)) (λ b e es s f. omega arith)

module _ (a : Track) (start : ℤ) (b : Budget) (l : List ℤ) (count : ℕ) where
  abbrev numbers : Bool
  numbers = is_time start && ok_track a && ok_budget b

  abbrev over : Bool
  over = ltb (length (rows_of l)) (length (list_after (events_of l count) (run_of a start b)))

  pub no-list : is_list l count ≡ false → refusal a start b l count ≡ 1
  unfolding refusal
  no-list e = rw e

  module _ (list : is_list l count ≡ true) where
    pub no-numbers : numbers ≡ false → refusal a start b l count ≡ 4
    unfolding refusal
    no-numbers e = rw (list, e)

    module _ (ok : numbers ≡ true) where
      pub no_room : over ≡ true → refusal a start b l count ≡ 7
      unfolding refusal
      no_room e = rw (list, ok, e)

      pub well : over ≡ false → refusal a start b l count ≡ 0
      unfolding refusal
      well e = rw (list, ok, e)

    -- the list that is left
    pub left-long : length (list_after (events_of l count) (run_of a start b)) ≡ count + length (run_of a start b).events
    left-long =
        length-append (events_of l count) (run_of a start b).events
        ∙ ap (λ (n : ℕ). n + length (run_of a start b).events) (length-take-le count (rows_of l) (list-within l count list))

    pub lacks-room : length (rows_of l) - count < length (run_of a start b).events → over ≡ true
    lacks-room h = lt-ltb (length (rows_of l)) _ (omega (arith, left-long, list-within l count list))

    pub has_room : length (run_of a start b).events ≤ length (rows_of l) - count → over ≡ false
    has_room h = le-ltb (length (rows_of l)) _ (omega (arith, left-long, list-within l count list))

  pub few-events : ok_track a ≡ true → length (run_of a start b).events ≤ places
  unfolding run_of
  few-events e =
      omega (arith, run-few a.options (record { start = start; channel = a.channel }) b (take a.notes.count a.notes.items), length-take a.notes.count a.notes.items, notes-few a e)
