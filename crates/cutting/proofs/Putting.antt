-- The controllers that are set, put after the first n events of a list.
--     controls-skip, -take     what is left of them from number k on, where k is unset or set
--     controls-none            past the last nothing is left
--     controls-same            they depend on the values alone
--     Putting                  the loop that puts them
use mathlib.Core.Bool.{true, false}
use mathlib.Core.Path.{◌≡◌, refl, ap, ◌∙◌}
use mathlib.Core.List.{List, [], ◌∷◌}
use Prim.Native.Nat.{ℕ, zero, suc, ◌+◌, ◌-◌, ◌≤◌, ◌<◌}
use native.Mathlib.Numerals.{add-one}
use native.Mathlib.Omega.{arith}
use lib.IntN.{ℤ, pos}
use lib.ListN.{length, get_or}
use lib.Signed.{lt_z}
use Rattle.events.specs.Events.{cc_event}
use Rattle.cutting.specs.declared.Last.{Last}
use Rattle.cutting.specs.Cuts.{controllers, controls_from}
use Rattle.cutting.specs.Passes.{controls_in, with_more}

module _ (value : ℕ → ℤ) (channel : ℤ) (k : ℕ) (h : k < controllers) where
  one_less : controllers - k ≡ suc (controllers - (k + 1))
  one_less = omega arith

  pub controls-skip : lt_z (value k) (pos 0) ≡ true → controls_from value channel (controllers - k) k ≡ controls_from value channel (controllers - (k + 1)) (k + 1)
  unfolding controls_from
  controls-skip e = ap (λ (j : ℕ). controls_from value channel j k) one_less ∙ rw (e, add-one)

  pub controls-take : lt_z (value k) (pos 0) ≡ false
      → controls_from value channel (controllers - k) k ≡ cc_event (pos 0) channel (pos k) (value k) ∷ controls_from value channel (controllers - (k + 1)) (k + 1)
  unfolding controls_from
  controls-take e = ap (λ (j : ℕ). controls_from value channel j k) one_less ∙ rw (e, add-one)

pub controls-none : (value : ℕ → ℤ) (channel : ℤ) (k : ℕ) → controllers ≤ k → controls_from value channel (controllers - k) k ≡ []
unfolding controls_from
controls-none value channel k h = let q : controllers - k ≡ 0 = omega arith in ap (λ (j : ℕ). controls_from value channel j k) q

pub controls-same : (value other : ℕ → ℤ) (channel : ℤ) (k n : ℕ) → ((j : ℕ) → j < n + k → value j ≡ other j) → controls_from value channel k n ≡ controls_from other channel k n
unfolding controls_from
controls-same value other channel zero n s = refl
controls-same value other channel (suc k) n s =
    let rest = controls-same value other channel k (suc n) (λ j q. s j (omega arith)) in
    rw (s n (omega arith), rest)

-- controllers from k on are left to be put after the n events
pub record Putting (l₀ : List ℤ) (count : ℕ) (table : List ℤ) (last : Last) (l : List ℤ) (n k : ℕ) : Type 0 where
  pub within : k ≤ controllers
  pub long : length l ≡ length l₀
  pub counted : n + length (controls_from (λ j. get_or table j (pos 0)) last.channel (controllers - k) k) ≡ count + length (controls_in table last)
  pub ahead : with_more l n (controls_from (λ j. get_or table j (pos 0)) last.channel (controllers - k) k) ≡ with_more l₀ count (controls_in table last)
