-- A number from 0 to n, cast to an unsigned type.
--     cast_fits   it fits where n does
--     cast-cut    and it is the number cut off below 0
--     cut_most    which is at most n
-- The kind of an event, which a match tests on its bits.
--     is-kind, not-kind   what an arm says of it
-- A time, and the gap of two, each read back from its bits.
--     time-fits            a time fits
--     gap-fits, gap_back   the difference fits, and is that of the times
--     gap-cast, gap-cut    from 0 to n its cast fits, and is the difference cut off below 0
-- The bytes of an event.
--     message-most                   a message has at most three
--     written-length, written-most   an event has its gap's and its message's, at most seven
use mathlib.Core.Path.{◌≡◌, sym, ap, ◌∙◌}
use mathlib.Core.Bool.{Bool, true, false, true≢false, cond}
use mathlib.Core.List.{List}
use Prim.Native.Nat.{ℕ, ◌+◌, ◌^◌, ◌≤◌, ◌<◌}
use native.Mathlib.Omega.{arith}
use lib.Dec.{T}
use lib.IntN.{ℤ, pos, negsuc, nat_abs, ◌-ℤ◌}
use lib.ListN.{length, length-append}
use lib.Signed.{non_neg}
use mir.Syntax.{Width, w64}
use mir.Val.{SFits, Fits, to_z, of_z, bits}
use mir.Facts.{to_z-of_z}
use Rattle.laws.specs.Integers.{eq_z, inside, cut}
use Rattle.laws.proofs.Bits.{bits-eq, bits-differ}
use Rattle.laws.proofs.Signed.{cut-mag, mag-sub, sub_back}
use Rattle.laws.proofs.Cuts.{non_neg-cut}
use Rattle.laws.proofs.Ranges.{inside-mag, sized-mag}
use Rattle.numbers.specs.Ranges.{is_event_time}
use Rattle.events.specs.declared.Event.{Event}
use Rattle.events.specs.Kinds.{note_on, note_off, control_change, pitch_bend, voice}
use Rattle.quantities.specs.Quantities.{quantity_of}
use Rattle.quantities.proofs.Groups.{quantity-size}
use Rattle.chunks.specs.Chunks.{message_of, gap_after, written_after}

inside-non_neg : (n : ℕ) (z : ℤ) → inside (pos 0) (pos n) z ≡ true → T (non_neg z)
unfolding inside
inside-non_neg n (pos k) e = tt
inside-non_neg n (negsuc k) e = absurd (true≢false (sym e))

module _ (n : ℕ) (z : ℤ) (e : inside (pos 0) (pos n) z ≡ true) where
  pub cut_most : cut z ≤ n
  cut_most = omega (arith, cut-mag z, inside-mag n z e)

  pub cast_fits : (w v : Width) → SFits w z → n < 2 ^ bits v → T (non_neg (to_z w (of_z w z))) × Fits v (nat_abs (to_z w (of_z w z)))
  cast_fits w v f h =
      let s = inside-non_neg n z e in
      rw (to_z-of_z f) (s, rw (non_neg-cut z s) (record { fits = omega (arith, cut_most) }))

  pub cast-cut : (w : Width) → SFits w z → nat_abs (to_z w (of_z w z)) ≡ cut z
  cast-cut w f = ap nat_abs (to_z-of_z f) ∙ non_neg-cut z (inside-non_neg n z e)

-- ---- kinds
module _ {k : ℤ} (f : SFits w64 k) (n : ℕ) (h : n < 2 ^ 63) where
  pub is-kind : of_z w64 k ≡ of_z w64 (pos n) → k ≡ pos n
  is-kind e = bits-eq f (record { sfits = h }) e

  pub not-kind : (of_z w64 k ≡ of_z w64 (pos n) → ⊥) → eq_z k (pos n) ≡ false
  not-kind e = bits-differ f (record { sfits = h }) e

-- ---- gaps
pub time-fits : (z : ℤ) → is_event_time z ≡ true → SFits w64 z
unfolding is_event_time
time-fits z e = record { sfits = omega (arith, sized-mag (2 ^ 42) z e) }

module _ (a b : ℤ) (p : is_event_time a ≡ true) (q : is_event_time b ≡ true) where
  between : SFits w64 (a -ℤ b)
  unfolding is_event_time
  between = record { sfits = omega (arith, mag-sub a b, sized-mag (2 ^ 42) a p, sized-mag (2 ^ 42) b q) }

  -- the difference as the machine takes it
  abbrev gap : ℤ
  gap = to_z w64 (of_z w64 a) -ℤ to_z w64 (of_z w64 b)

  pub gap-fits : SFits w64 gap
  gap-fits = rw (to_z-of_z (time-fits a p), to_z-of_z (time-fits b q)) between

  pub gap_back : to_z w64 (of_z w64 gap) ≡ a -ℤ b
  gap_back = sub_back (time-fits a p) (time-fits b q) between

  module _ (n : ℕ) (e : inside (pos 0) (pos n) (a -ℤ b) ≡ true) where
    pub gap-cast : n < 2 ^ 64 → T (non_neg (to_z w64 (of_z w64 gap))) × Fits w64 (nat_abs (to_z w64 (of_z w64 gap)))
    gap-cast h = rw gap_back (rw (to_z-of_z between) at (cast_fits n (a -ℤ b) e w64 w64 between h))

    pub gap-cut : nat_abs (to_z w64 (of_z w64 gap)) ≡ cut (a -ℤ b)
    gap-cut = ap nat_abs gap_back ∙ non_neg-cut (a -ℤ b) (inside-non_neg n (a -ℤ b) e)

-- ---- sizes
either : (t : Bool) (n : ℕ) (a b : List ℕ) → length a ≤ n → length b ≤ n → length (cond t a b) ≤ n
either true n a b p q = p
either false n a b p q = q

pub message-most : (e : Event) → length (message_of e) ≤ 3
unfolding message_of
message-most e =
    either (eq_z e.kind note_on) 3 _ _ (omega arith)
    (either (eq_z e.kind note_off) 3 _ _ (omega arith)
    (either (eq_z e.kind control_change) 3 _ _ (omega arith)
    (either (eq_z e.kind voice) 3 _ _ (omega arith)
    (either (eq_z e.kind pitch_bend) 3 _ _ (omega arith)
    (omega arith)))))

pub written-length : (t : ℤ) (e : Event) → length (written_after t e) ≡ length (quantity_of (gap_after t e)) + length (message_of e)
unfolding written_after
written-length t e = length-append (quantity_of (gap_after t e)) (message_of e)

pub written-most : (t : ℤ) (e : Event) → length (written_after t e) ≤ 7
written-most t e = omega (arith, written-length t e, (quantity-size (gap_after t e)).1, message-most e)
