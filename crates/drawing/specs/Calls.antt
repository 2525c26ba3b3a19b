-- 01, "On-time curves" and "Sine": what a write at the track's time answers, and every number of the lent list after it. A curve and a sine
-- differ in their pieces and in what is asked of their own arguments; all else is said once, of a `Draw`.
use Rattle.std.specs.Prelude.{◌≡◌, Bool, true, cond, ◌&&◌, List, ℕ, eqb, leb, ℤ, pos, negsuc, length}
use Rattle.laws.specs.Integers.{eq_z}
use Rattle.laws.specs.Lists.{put_first}
use Rattle.laws.specs.Rows.{flat}
use Rattle.numbers.specs.Limits.{list_limit}
use Rattle.numbers.specs.Ranges.{is_controller, is_target}
use Rattle.counted.specs.Curves.{is_curve}
use Rattle.budget.specs.declared.Budget.{Budget}
use Rattle.budget.specs.Budgets.{ok_budget, step_budget}
use Rattle.events.specs.declared.Event.{Event}
use Rattle.events.specs.Events.{zero_event}
use Rattle.eventlist.specs.Rows.{numbers_of, rows_of, events_of}
use Rattle.eventlist.specs.Sound.{is_list, ok_events}
use Rattle.sines.specs.Kinds.{sine_type}
use Rattle.values.specs.declared.Write.{Write}
use Rattle.values.specs.declared.Offer.{Offer}
use Rattle.tables.specs.declared.OnNoteSine.{OnNoteSine}
use Rattle.tables.specs.Reservations.{ok_sine}
use Rattle.offers.specs.declared.Piece.{Piece}
use Rattle.offers.specs.Rules.{rule_of}
use Rattle.offers.specs.Runs.{budget_after}
use Rattle.offers.specs.Pieces.{offers, total}
use Rattle.offers.specs.Waves.{triples}
use Rattle.writing.specs.declared.Outcome.{Outcome}
use Rattle.writing.specs.Calls.{left_by, lacks_room, new_events_for}
use Rattle.writing.specs.Sines.{sine_pieces}
use Rattle.state.specs.declared.Track.{Track}
use Rattle.state.specs.Tests.{ok_track}
use Rattle.drawing.specs.Write.{write_of}

-- "checked in that order": 1 the list, 2 the target, 3 the arguments' list, 4 the numbers; n where all are well
unfoldable pub in_order : Bool → Bool → Bool → Bool → ℕ → ℕ
in_order list target short numbers n = cond list (cond target (cond short (cond numbers n 4) 3) 2) 1

-- what a call is handed: the track, the target, the pieces to be written, whether the arguments' list is short enough and their numbers are
-- allowed; and what it is lent: the budget, the list with its count, a store of so many bytes
pub record Draw : Type 0 where
  pub track : Track
  pub target : ℤ
  pub pieces : List Piece
  pub short : Bool
  pub allowed : Bool
  pub budget : Budget
  pub events : List ℤ
  pub count : ℕ
  pub store : ℕ

module _ (d : Draw) where
  abbrev pub draw_write : Write
  draw_write = write_of d.track d.target

  abbrev pub draw_offers : List Offer
  draw_offers = offers draw_write.freq d.pieces (step_budget d.budget) 0

  -- the events that are added, those that the list then has, and the budget
  abbrev pub draw_added : List Event
  draw_added = new_events_for draw_write d.budget d.pieces

  abbrev pub draw_events : List Event
  draw_events = left_by draw_write d.budget draw_offers (total d.pieces) (events_of d.events d.count)

  abbrev pub draw_budget : Budget
  draw_budget = budget_after (rule_of draw_write) d.budget draw_offers (total d.pieces)

  -- 4: "a number in arguments, track, budget, tables or used events against the ranges and rules"
  abbrev pub draw_numbers : Bool
  draw_numbers = ok_track d.track && ok_budget d.budget && d.allowed && ok_events d.store d.events d.count

  -- 7: "the list that the Rust would leave holds more events than the buffer"
  abbrev pub draw_lacks : Bool
  draw_lacks = lacks_room draw_write d.budget draw_offers (total d.pieces) (rows_of d.events) d.count

  unfoldable pub draw_refusal : ℕ
  draw_refusal = in_order (is_list d.events d.count) (is_target d.target) d.short draw_numbers (cond draw_lacks 7 0)

  -- "1 to 7 return the given state and change nothing"
  unfoldable pub draw_answer : Outcome
  draw_answer =
      cond (eqb draw_refusal 0) (record { code = 0; count = length draw_events; budget = draw_budget })
      (record { code = draw_refusal; count = d.count; budget = d.budget })

  -- every number of the lent list: vacated places are zeroed, what stands past both counts stays
  unfoldable pub draw_left : List ℤ
  draw_left =
      cond (eqb draw_refusal 0) (flat numbers_of (put_first zero_event d.count draw_events (rows_of d.events))) d.events

-- what a call promises of its answer r and of the numbers l that the lent list then holds
pub record Drawn (d : Draw) (r : Outcome) (l : List ℤ) : Type 0 where
  pub answer : r ≡ draw_answer d
  pub left : l ≡ draw_left d

-- ---- the calls
-- "a list has at most 192 numbers" (02, c); "in curve lists the third of each triple within ±2^20"
abbrev pub on_time : Track → ℤ → List ℤ → Budget → List ℤ → ℕ → ℕ → Draw
on_time a target v b l count store =
    record {
      track = a;
      target = target;
      pieces = triples v;
      short = leb (length v) list_limit;
      allowed = is_curve v;
      budget = b;
      events = l;
      count = count;
      store = store;
    }

-- a controller's number is its target; any other number is no target's
abbrev pub cc_target : ℤ → ℤ
cc_target n = cond (is_controller n) n (negsuc 0)

-- "bend with argument 0", and with "any other argument"
abbrev pub pb_target : ℤ → ℤ
pb_target n = cond (eq_z n (pos 0)) (pos 128) (pos 129)

-- "low and high within ±16,383; length and times within ±2^20": a sine is tested as a stored one is
abbrev pub sine_for : ℤ → ℕ → ℤ → ℤ → ℤ → ℤ → OnNoteSine
sine_for target shape low high len times =
    record { target = target; shape = shape; low = low; high = high; length = len; times = times }

abbrev pub on_sine : Track → OnNoteSine → Budget → List ℤ → ℕ → ℕ → Draw
on_sine a s b l count store =
    record {
      track = a;
      target = s.target;
      pieces = sine_pieces (sine_type (pos s.shape)) s.low s.high s.length s.times;
      short = true;
      allowed = ok_sine s;
      budget = b;
      events = l;
      count = count;
      store = store;
    }
