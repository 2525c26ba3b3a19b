-- What a write makes of an offer may be stored: its value is clamped, its channel the write's, its time not far from a stored one.
--     offer-time   when it stands
--     in_reach     an event's time, where the write stands at a time that may be stored
--     stored       the event, where its time is an event's
--     stored-near  both together
use mathlib.Core.Path.{◌≡◌, refl, ap, ◌∙◌}
use mathlib.Core.Bool.{Bool, true, false, cond}
use Prim.Native.Nat.{ℕ, ◌≤◌, ◌^◌}
use native.Mathlib.Omega.{arith}
use lib.IntN.{ℤ, pos, ◌+ℤ◌}
use Rattle.laws.specs.Integers.{inside}
use Rattle.laws.proofs.Signed.{mag-add}
use Rattle.laws.proofs.Ranges.{sized-mag, sized-small}
use Rattle.numbers.specs.Ranges.{is_controller, is_channel, is_word, is_time, is_stored_time, is_length, is_event_time}
use Rattle.events.specs.Kinds.{pitch_bend, is_kind, has_data}
use Rattle.events.specs.Events.{ok_event}
use Rattle.events.proofs.Stored.{small_word, cc-stored, plain-stored}
use Rattle.values.specs.declared.Write.{Write}
use Rattle.values.specs.declared.Offer.{Offer}
use Rattle.values.specs.Options.{moved}
use Rattle.values.specs.Clamp.{top_of, clamped}
use Rattle.values.specs.Value.{controller_event, bend_event, event_for, start_of, time_of, event_of_offer}
use Rattle.values.proofs.Clamping.{clamped-in}

-- a time that may be handed in may be stored
pub time-stored : (z : ℤ) → is_time z ≡ true → is_stored_time z ≡ true
unfolding is_time is_stored_time
time-stored z e = let h = sized-mag (2 ^ 40) z e in sized-small (2 ^ 41) z (omega arith)

top : (target : ℤ) → top_of target ≤ 32639
unfolding top_of
top target = go (is_controller target)
  where
    go : (t : Bool) → cond t 127 32639 ≤ 32639
    go true = omega arith
    go false = omega arith

pub clamped-word : (target v : ℤ) → is_word (clamped target v) ≡ true
clamped-word target v = small_word (top_of target) (clamped target v) (top target) (clamped-in target v)

bend-kind : is_kind pitch_bend ≡ true
unfolding is_kind inside
bend-kind = refl

bend-bare : has_data pitch_bend ≡ false
unfolding has_data
bend-bare = refl

pub offer-time : (w : Write) (o : Offer) (y : ℕ) → (event_of_offer w o y).time ≡ start_of w +ℤ pos o.step
unfolding event_of_offer event_for time_of
offer-time w o y = go (is_controller w.target)
  where
    v : ℤ
    v = clamped w.target (moved w.option o.value y)

    go : (t : Bool) → (cond t (controller_event (start_of w +ℤ pos o.step) w.channel w.target v) (bend_event (start_of w +ℤ pos o.step) w.channel v)).time ≡ start_of w +ℤ pos o.step
    go true = refl
    go false = refl

pub in_reach : (w : Write) (o : Offer) (y : ℕ) → is_stored_time w.time ≡ true → is_length w.option.delay ≡ true → o.step ≤ 2 ^ 40 → is_event_time (event_of_offer w o y).time ≡ true
unfolding is_stored_time is_length is_event_time start_of
in_reach w o y t d h =
    let a = sized-mag (2 ^ 41) w.time t in
    let c = sized-mag (2 ^ 20) w.option.delay d in
    let m = mag-add w.time w.option.delay in
    let n = mag-add (w.time +ℤ w.option.delay) (pos o.step) in
    ap is_event_time (offer-time w o y) ∙ sized-small (2 ^ 42) (start_of w +ℤ pos o.step) (omega arith)

module _ (store : ℕ) (w : Write) (c : is_channel w.channel ≡ true) (o : Offer) (y : ℕ) where
  pub stored : is_event_time (event_of_offer w o y).time ≡ true → ok_event store (event_of_offer w o y) ≡ true
  unfolding event_of_offer event_for
  stored = go (is_controller w.target) refl
    where
      v : ℤ
      v = clamped w.target (moved w.option o.value y)

      at : ℤ
      at = time_of w o.step

      small : is_word v ≡ true
      small = clamped-word w.target (moved w.option o.value y)

      go : (t : Bool) → is_controller w.target ≡ t → is_event_time (cond t (controller_event at w.channel w.target v) (bend_event at w.channel v)).time ≡ true
          → ok_event store (cond t (controller_event at w.channel w.target v) (bend_event at w.channel v)) ≡ true
      go true q h = cc-stored store at w.channel h c w.target v q small
      go false q h = plain-stored store at w.channel h c pitch_bend v bend-kind refl bend-bare small

  pub stored-near : is_stored_time w.time ≡ true → is_length w.option.delay ≡ true → o.step ≤ 2 ^ 40 → ok_event store (event_of_offer w o y) ≡ true
  stored-near t d h = stored (in_reach w o y t d h)
