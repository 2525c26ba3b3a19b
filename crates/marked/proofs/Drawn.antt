-- The marked seeds, bends and curves, of the public writes: on a new track, over an empty list; a curve of one step writes one value. "Seed 1
-- steps to 270369; value 64, random 10 gives 68. Seed 0 stays 0; value 64, random 10 gives 59. Bend 0 with 64: 8192; with 255: 32,639. Bend 1
-- with -8192: 0; with 0: 8192. Curve (0,100,12), frequency 4, maximum 88: 0, 33, 66 at 0, 4, 8, flag clear. Maximum 87: same events, flag set." A
-- new track has the frequency 4. And lists of as many numbers as there may be, and of one more.
use mathlib.Core.Path.{◌≡◌, refl, sym, subst}
use mathlib.Core.Bool.{true}
use Prim.Native.Nat.{ℕ, ◌+◌}
use lib.IntN.{ℤ, pos, negsuc}
use Rattle.laws.specs.Integers.{inside, sized}
use Rattle.laws.specs.Lists.{all}
use Rattle.numbers.specs.Limits.{list_limit}
use Rattle.numbers.specs.Ranges.{is_controller, is_target, is_number, is_length, is_random, is_timebase, is_bytes}
use Rattle.numbers.specs.Random.{spread}
use Rattle.budget.specs.Budgets.{ok_budget, unspent}
use Rattle.counted.specs.Curves as listed
use Rattle.eventlist.specs.Rows.{numbers_of, rows_of}
use Rattle.eventlist.specs.Sound.{is_list, ok_events}
use Rattle.eventlist.specs.Windows.{taken_by}
use Rattle.shapes.specs.Curve.{curve_of}
use Rattle.values.specs.Options.{ok_option, range_in, moved}
use Rattle.values.specs.Clamp.{top_of, scaled_for, clamped}
use Rattle.values.specs.Value.{kind_of, event_for, start_of, time_of, event_of_offer}
use Rattle.offers.specs.Rules.{rule_of, fresh, become, seeds_after, spent}
use Rattle.offers.specs.Runs.{offered, new_events, budget_after}
use Rattle.offers.specs.Pieces.{value_by, steps, points, offers, total}
use Rattle.offers.specs.Waves.{triples}
use Rattle.writing.specs.Calls.{window_of, kept_events}
use Rattle.cycles.specs.Due.{code_of}
use Rattle.state.specs.declared.Track.{Track}
use Rattle.state.specs.Track.{new_track}
use Rattle.state.specs.Tests.{ok_play, ok_options, ok_track}
use Rattle.state.specs.Calls.{new_of, answered}
use Rattle.state.proofs.Parts.{whole, track-play, track-params, track-layers, track-tables}
use Rattle.drawing.specs.Options.{target_refusal, option_of, with_option, with_random, left}
use Rattle.drawing.specs.Frequency.{freq_for, bend_freq}
use Rattle.drawing.specs.Write.{write_of}
use Rattle.drawing.specs.Calls.{in_order, pb_target, draw_refusal, draw_answer, draw_left, Drawn}
use Rattle.marked.specs.Subjects.{new, funds, outcome, room, control, bend, once, random, drawn, three_and_room, ones}
use Rattle.marked.proofs.Fresh.{new-well, accepted}

-- the track with random 10 for controller 7
abbrev shaky : Track
shaky = with_option new (pos 7) (with_random (option_of new (pos 7)) (pos 10))

allowed : target_refusal new (pos 7) (is_random (pos 10)) ≡ 0
unfolding target_refusal is_target is_random inside
allowed = rw new-well

random-is : random ≡ shaky
unfolding left
random-is = accepted (target_refusal new (pos 7) (is_random (pos 10))) new shaky allowed

shaky-well : ok_track shaky ≡ true
unfolding ok_play with_option option_of new_of answered is_timebase inside new_track ok_options all ok_option is_length is_random sized code_of is_target
shaky-well = whole shaky (track-play new new-well) (track-params new new-well) (track-layers new new-well) refl (track-tables new new-well) refl

-- ---- the writes, computed

abbrev Seeds : Track → Type 0
Seeds a =
    Drawn (once a (pos 7) (pos 64) 1) (outcome 1 (funds 270369 80 8 0)) (numbers_of (control 7 0 68))
    × Drawn (once a (pos 7) (pos 64) 0) (outcome 1 (funds 0 80 8 0)) (numbers_of (control 7 0 59))

-- what a bend with a value gives
abbrev Bend : ℤ → ℤ → ℕ → Type 0
Bend big v given = Drawn (once new (pb_target big) v 1) (outcome 1 (funds 1 80 8 0)) (numbers_of (bend given))

-- the flag that a maximum leaves
abbrev Curve : ℕ → ℕ → Type 0
Curve maximum flag = Drawn (drawn maximum) (outcome 3 (funds 1 maximum 24 flag)) three_and_room

abbrev Longest : Type 0
Longest = Drawn (ones list_limit) (outcome 1 (funds 1 80000 8 0)) (numbers_of (control 7 0 1))

abbrev TooLong : Type 0
TooLong = Drawn (ones (list_limit + 1)) (record { code = 3; count = 0; budget = unspent 1 80000 }) (room 1)

record Computed : Type 0 where
  seeds-on : Seeds shaky
  bend-0-middle : Bend (pos 0) (pos 64) 8192
  bend-0-top : Bend (pos 0) (pos 255) 32639
  bend-1-least : Bend (pos 1) (negsuc 8191) 0
  bend-1-middle : Bend (pos 1) (pos 0) 8192
  curve-88 : Curve 88 0
  curve-87 : Curve 87 1
  longest : Longest
  too_long : TooLong

computed : Computed
unfolding draw_answer draw_left draw_refusal in_order is_list is_target ok_budget is_bytes listed.is_curve listed.has_length listed.triples is_number is_length sized inside all ok_events rows_of taken_by window_of kept_events new_events offered fresh offers points steps value_by become total triples budget_after spent seeds_after rule_of event_of_offer event_for time_of start_of kind_of clamped scaled_for top_of is_controller moved range_in spread curve_of write_of freq_for bend_freq option_of with_option new_of answered is_timebase new_track code_of
computed =
    record {
      seeds-on = (record { answer = rw shaky-well; left = rw shaky-well }, record { answer = rw shaky-well; left = rw shaky-well });
      bend-0-middle = record { answer = rw new-well; left = rw new-well };
      bend-0-top = record { answer = rw new-well; left = rw new-well };
      bend-1-least = record { answer = rw new-well; left = rw new-well };
      bend-1-middle = record { answer = rw new-well; left = rw new-well };
      curve-88 = record { answer = rw new-well; left = rw new-well };
      curve-87 = record { answer = rw new-well; left = rw new-well };
      longest = record { answer = rw new-well; left = rw new-well };
      too_long = record { answer = refl; left = refl };
    }

pub seeds : Seeds random
seeds = subst (λ (a : Track). Seeds a) (sym random-is) computed.seeds-on

pub bend-0 : Bend (pos 0) (pos 64) 8192 × Bend (pos 0) (pos 255) 32639
bend-0 = (computed.bend-0-middle, computed.bend-0-top)

pub bend-1 : Bend (pos 1) (negsuc 8191) 0 × Bend (pos 1) (pos 0) 8192
bend-1 = (computed.bend-1-least, computed.bend-1-middle)

pub curves : Curve 88 0 × Curve 87 1
curves = (computed.curve-88, computed.curve-87)

pub lists : Longest × TooLong
lists = (computed.longest, computed.too_long)
