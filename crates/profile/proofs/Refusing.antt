-- The refusals of the check and of fitting in their order, and what 0 tells of a call's tests, and back.
--     no-list, no-events, well                                   the check: 1, 4
--     fit-no-list, fit-no-events, fit-several, fit-early, fit-well   fitting: 1, 4, 17, 18
--     Fits, fits    where fitting is not refused every test holds
use mathlib.Core.Bool.{Bool, true, false, cond}
use mathlib.Core.Path.{◌≡◌, refl}
use mathlib.Core.List.{List}
use Prim.Native.Nat.{ℕ}
use native.Mathlib.Omega.{arith}
use lib.IntN.{ℤ}
use Rattle.laws.specs.Lists.{all}
use Rattle.eventlist.specs.Rows.{events_of}
use Rattle.eventlist.specs.Sound.{is_list, ok_events}
use Rattle.profile.specs.Profile.{one_channel, from_zero}
use Rattle.profile.specs.Calls.{check_refusal, fit_refusal}

module _ (store : ℕ) (l : List ℤ) (count : ℕ) where
  -- ---- the check
  pub no-list : is_list l count ≡ false → check_refusal store l count ≡ 1
  unfolding check_refusal
  no-list h = rw h

  -- ---- fitting
  pub fit-no-list : is_list l count ≡ false → fit_refusal store l count ≡ 1
  unfolding fit_refusal
  fit-no-list h = rw h

  module _ (listed : is_list l count ≡ true) where
    pub no-events : ok_events store l count ≡ false → check_refusal store l count ≡ 4
    unfolding check_refusal
    no-events o = rw (listed, o)

    pub well : ok_events store l count ≡ true → check_refusal store l count ≡ 0
    unfolding check_refusal
    well o = rw (listed, o)

    pub fit-no-events : ok_events store l count ≡ false → fit_refusal store l count ≡ 4
    unfolding fit_refusal
    fit-no-events o = rw (listed, o)

    module _ (allowed : ok_events store l count ≡ true) where
      pub fit-several : one_channel (events_of l count) ≡ false → fit_refusal store l count ≡ 17
      unfolding fit_refusal
      fit-several s = rw (listed, allowed, s)

      module _ (single : one_channel (events_of l count) ≡ true) where
        pub fit-early : all from_zero (events_of l count) ≡ false → fit_refusal store l count ≡ 18
        unfolding fit_refusal
        fit-early t = rw (listed, allowed, single, t)

        pub fit-well : all from_zero (events_of l count) ≡ true → fit_refusal store l count ≡ 0
        unfolding fit_refusal
        fit-well t = rw (listed, allowed, single, t)

  -- ---- a call that is not refused
  pub record Fits : Type 0 where
    pub list : is_list l count ≡ true
    pub events : ok_events store l count ≡ true
    pub single : one_channel (events_of l count) ≡ true
    pub timely : all from_zero (events_of l count) ≡ true

  pub fits : fit_refusal store l count ≡ 0 → Fits
  unfolding fit_refusal
  fits = go (is_list l count) (ok_events store l count) (one_channel (events_of l count)) (all from_zero (events_of l count)) refl refl refl refl
    where
      go : (a b c d : Bool) → is_list l count ≡ a → ok_events store l count ≡ b → one_channel (events_of l count) ≡ c → all from_zero (events_of l count) ≡ d
          → ◌≡◌ {A = ℕ} (cond a (cond b (cond c (cond d 0 18) 17) 4) 1) 0 → Fits
      go true true true true p q r s e = record { list = p; events = q; single = r; timely = s }
      go true true true false p q r s e = absurd (omega arith)
      go true true false d p q r s e = absurd (omega arith)
      go true false c d p q r s e = absurd (omega arith)
      go false b c d p q r s e = absurd (omega arith)
