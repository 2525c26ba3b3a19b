-- The controller's value of a track, from what the list's own call answers: that call asks the track's time and channel,
-- which a track that passes its test has in range, so asking the whole track behind it leaves the table's order.
use mathlib.Core.Path.{◌≡◌, refl, sym, ap, ◌∙◌}
use mathlib.Core.Bool.{Bool, true, false, cond, ◌&&◌}
use mathlib.Core.List.{List}
use Prim.Native.Nat.{ℕ}
use native.Mathlib.Omega.{arith}
use lib.Dec.{eqb}
use lib.IntN.{ℤ, pos}
use Rattle.numbers.specs.Ranges.{is_time, is_channel, is_controller}
use Rattle.eventlist.specs.Rows.{events_of}
use Rattle.eventlist.specs.Sound.{is_list, ok_events}
use Rattle.cutting.specs.declared.CcValue.{CcValue}
use Rattle.cutting.specs.Value.{cc_value, cc_refusal, cc_answer}
use Rattle.state.specs.declared.Track.{Track}
use Rattle.state.specs.Tests.{ok_track}
use Rattle.state.proofs.Parts.{track-play}
use Rattle.state.proofs.Play.{play-time, play-channel}
use Rattle.track.specs.Reading.{asked_of, cc_track_refusal, cc_of_track}

apart : false ≡ true → ⊥
apart e = let n : ◌≡◌ {A = ℕ} 0 1 = ap (λ (b : Bool). cond b 1 0) e in omega arith

-- tests p, q, then t and e together
abbrev numbered : Bool → Bool → Bool → Bool → ℕ
numbered p q t e = cond p (cond q (cond (t && e) 0 4) 2) 1

same : (p q t e k : Bool) → (k ≡ true → t ≡ true) → (numbered p q t e ≡ 0 → ⊥) → numbered p q k e ≡ numbered p q t e
same false q t e k h r = refl
same true false t e k h r = refl
same true true true true k h r = absurd (r refl)
same true true true false true h r = refl
same true true true false false h r = refl
same true true false e false h r = refl
same true true false true true h r = absurd (apart (h refl))
same true true false false true h r = refl

other : (p q t e k : Bool) → numbered p q t e ≡ 0 → k ≡ false → numbered p q k e ≡ 4
other true true t e k n h = rw h
other true false t e k n h = absurd (omega arith)
other false q t e k n h = absurd (omega arith)

whole : (p q t e k : Bool) → numbered p q t e ≡ 0 → k ≡ true → numbered p q k e ≡ 0
whole true true true true k n h = rw h
whole true true true false k n h = absurd (omega arith)
whole true true false e k n h = absurd (omega arith)
whole true false t e k n h = absurd (omega arith)
whole false q t e k n h = absurd (omega arith)

module _ (store : ℕ) (a : Track) (number : ℤ) (l : List ℤ) (count : ℕ) where
  abbrev own : ℕ
  own = cc_refusal store l count (asked_of a number)

  abbrev timed : Bool
  timed = is_time a.timepos && is_channel a.channel

  in-range : ok_track a ≡ true → timed ≡ true
  in-range e = let p = track-play a e in rw (play-time a p, play-channel a p)

  abbrev answer : ℕ → CcValue
  answer n = record { code = n; value = cond (eqb n 0) (cc_value (asked_of a number) (events_of l count)) (pos 0) }

  pub refused : (own ≡ 0 → ⊥) → cc_answer store l count (asked_of a number) ≡ cc_of_track store a number l count
  unfolding cc_refusal cc_track_refusal cc_of_track
  refused h = ap answer (sym (same (is_list l count) (is_controller number) timed (ok_events store l count) (ok_track a) in-range h))

  pub bad-track : own ≡ 0 → ok_track a ≡ false → record { code = 4; value = pos 0 } ≡ cc_of_track store a number l count
  unfolding cc_refusal cc_track_refusal cc_of_track
  bad-track n e = sym (ap answer (other (is_list l count) (is_controller number) timed (ok_events store l count) (ok_track a) n e))

  pub told : own ≡ 0 → ok_track a ≡ true → cc_answer store l count (asked_of a number) ≡ cc_of_track store a number l count
  unfolding cc_refusal cc_track_refusal cc_of_track
  told n e =
      ap answer (n ∙ sym (whole (is_list l count) (is_controller number) timed (ok_events store l count) (ok_track a) n e))

  -- the list's own call, asked with the track's channel and time as they were read
  pub asked-with : (r : CcValue) (channel time wide : ℤ) → channel ≡ a.channel → time ≡ a.timepos → wide ≡ number
      → r ≡ cc_answer store l count (record { channel = channel; time = time; number = wide }) → r ≡ cc_answer store l count (asked_of a number)
  asked-with r channel time wide p q s e = rw (p, q, s) at e
