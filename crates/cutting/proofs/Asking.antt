-- The answers of `current_cc_value`, read off its tests in their order.
use mathlib.Core.Path.{◌≡◌}
use mathlib.Core.Bool.{true, false, ◌&&◌}
use mathlib.Core.List.{List}
use Prim.Native.Nat.{ℕ}
use lib.IntN.{ℤ}
use Rattle.numbers.specs.Ranges.{is_time, is_channel, is_controller}
use Rattle.eventlist.specs.Sound.{is_list, ok_events}
use Rattle.cutting.specs.declared.Asked.{Asked}
use Rattle.cutting.specs.Value.{cc_refusal}

module _ (store : ℕ) (l : List ℤ) (count : ℕ) (a : Asked) where
  pub no-list : is_list l count ≡ false → cc_refusal store l count a ≡ 1
  unfolding cc_refusal
  no-list e = rw e

  module _ (list : is_list l count ≡ true) where
    pub no-controller : is_controller a.number ≡ false → cc_refusal store l count a ≡ 2
    unfolding cc_refusal
    no-controller e = rw (list, e)

    module _ (controller : is_controller a.number ≡ true) where
      pub no-numbers : (is_time a.time && is_channel a.channel && ok_events store l count) ≡ false → cc_refusal store l count a ≡ 4
      unfolding cc_refusal
      no-numbers e = rw (list, controller, e)

      pub well : (is_time a.time && is_channel a.channel && ok_events store l count) ≡ true → cc_refusal store l count a ≡ 0
      unfolding cc_refusal
      well e = rw (list, controller, e)
