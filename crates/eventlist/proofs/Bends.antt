-- The answers of `remove_pitch_bend_in_range`, read off its tests in their order.
use mathlib.Core.Path.{◌≡◌}
use mathlib.Core.Bool.{true, false, ◌&&◌}
use mathlib.Core.List.{List}
use Prim.Native.Nat.{ℕ}
use lib.IntN.{ℤ}
use Rattle.numbers.specs.Ranges.{is_time}
use Rattle.eventlist.specs.Sound.{is_list, ok_events}
use Rattle.eventlist.specs.Bends.{bends_refusal}

module _ (store : ℕ) (l : List ℤ) (count : ℕ) (start end : ℤ) where
  pub no-list : is_list l count ≡ false → bends_refusal store l count start end ≡ 1
  unfolding bends_refusal
  no-list e = rw e

  module _ (list : is_list l count ≡ true) where
    pub no-times : (is_time start && is_time end) ≡ false → bends_refusal store l count start end ≡ 4
    unfolding bends_refusal
    no-times e = rw (list, e)

    module _ (times : (is_time start && is_time end) ≡ true) where
      pub no-events : ok_events store l count ≡ false → bends_refusal store l count start end ≡ 4
      unfolding bends_refusal
      no-events e = rw (list, times, e)

      pub well : ok_events store l count ≡ true → bends_refusal store l count start end ≡ 0
      unfolding bends_refusal
      well e = rw (list, times, e)
