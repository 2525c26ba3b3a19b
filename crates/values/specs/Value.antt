-- 01, "One value": "random, then the option's range, then delay added to time, then the clamp"; and what it takes of the budget.
use Rattle.std.specs.Prelude.{cond, ℕ, ◌≤◌, ◌<◌, ◌^◌, ℤ, pos, ◌+ℤ◌}
use Rattle.std.specs.Int.Signed.{mag}
use Rattle.numbers.specs.Limits.{value_bytes}
use Rattle.numbers.specs.Ranges.{is_controller}
use Rattle.numbers.specs.Random.{seed_after}
use Rattle.budget.specs.declared.Budget.{Budget}
use Rattle.budget.specs.Budgets.{fits, reserved}
use Rattle.events.specs.declared.Event.{Event}
use Rattle.events.specs.Kinds.{control_change, pitch_bend}
use Rattle.events.specs.Events.{cc_event, pitch_bend_event}
use Rattle.values.specs.declared.Write.{Write}
use Rattle.values.specs.declared.Offer.{Offer}
use Rattle.values.specs.declared.Wrote.{Wrote}
use Rattle.values.specs.Options.{moved}
use Rattle.values.specs.Clamp.{clamped}

-- ---- the event
unfoldable pub kind_of : ℤ → ℤ
kind_of target = cond (is_controller target) control_change pitch_bend

abbrev pub controller_event : ℤ → ℤ → ℤ → ℤ → Event
controller_event time channel number v = cc_event time channel number v

abbrev pub bend_event : ℤ → ℤ → ℤ → Event
bend_event time channel v = pitch_bend_event time channel v

unfoldable pub event_for : ℤ → ℤ → ℤ → ℤ → Event
event_for target time channel v = cond (is_controller target) (controller_event time channel target v) (bend_event time channel v)

-- "delay added to time"
unfoldable pub start_of : Write → ℤ
start_of w = w.time +ℤ w.option.delay

unfoldable pub time_of : Write → ℕ → ℤ
time_of w step = start_of w +ℤ pos step

-- the event that an offer becomes, y being the seed, already stepped
unfoldable pub event_of_offer : Write → Offer → ℕ → Event
event_of_offer w o y = event_for w.target (time_of w o.step) w.channel (clamped w.target (moved w.option o.value y))

-- ---- the budget
-- the seed after one value
abbrev pub next_seed : Write → ℕ → ℕ
next_seed w y = seed_after w.option.random y

-- "it steps before the budget is asked"; over any size and any step of the seed
abbrev pub paid : ℕ → (ℕ → ℕ) → Budget → Budget
paid size next b = reserved size (record { seed = next b.seed; maximum = b.maximum; used = b.used; over = b.over })

unfoldable pub wrote_of : Write → Budget → Offer → Wrote
wrote_of w b o =
    record {
      budget = paid value_bytes (next_seed w) b;
      event = event_of_offer w o (next_seed w b.seed);
      fits = fits value_bytes b;
    }

-- ---- what no sum may leave: the document's ranges are far inside
pub record Ready (w : Write) : Type 0 where
  pub time : mag w.time < 2 ^ 42
  pub some : 0 < w.freq
  pub slow : w.freq ≤ 2 ^ 20

pub record Near (o : Offer) : Type 0 where
  pub step : o.step < 2 ^ 43
  pub value : mag o.value ≤ 2 ^ 24
