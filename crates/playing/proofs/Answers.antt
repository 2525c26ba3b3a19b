-- The answers of the calls, chosen by the number that was asked.
--     as-too-many, as-well   of a part's number, with the test of the whole track
--     unvalued, valued    of a call that gives a value and a track
--     unsummed, summing   of a call that gives a velocity and a track
use mathlib.Core.Path.{◌≡◌, refl, sym, ap, ap₂, ◌∙◌}
use mathlib.Core.Bool.{Bool, true, false, cond}
use Prim.Native.Nat.{ℕ}
use borrow.Author.Tests.{eq-eqb, ne_eqb, eqb-true}
use lib.Dec.{eqb}
use lib.IntN.{ℤ, pos}
use Rattle.layers.specs.declared.Velocity.{Velocity}
use Rattle.state.specs.declared.Track.{Track}
use Rattle.state.specs.Track.{with_layers}
use Rattle.state.specs.Tests.{ok_track}
use Rattle.playing.specs.declared.TrackValue.{TrackValue}
use Rattle.playing.specs.declared.TrackVelocity.{TrackVelocity}
use Rattle.playing.specs.Calls.{asked, given, summed_up}

pub ap₃ : {A B C D : Type 0} (f : A → B → C → D) {a a' : A} {b b' : B} {c c' : C} → a ≡ a' → b ≡ b' → c ≡ c' → f a b c ≡ f a' b' c'
ap₃ f {a} {a'} {b} {b'} {c} {c'} p q r = ap₂ (λ x y. f x y c) p q ∙ ap (f a' b') r

module _ {m n : ℕ} (e : m ≡ n) (a b : Track) where
  module _ (v : ℤ) where
    abbrev valueless : ℕ → TrackValue
    valueless k = record { code = k; value = pos 0; track = a }

    pub unvalued : (m ≡ 0 → ⊥) → record { code = m; value = pos 0; track = a } ≡ given n a v b
    unfolding given
    unvalued h = ap valueless e ∙ rw (ne_eqb n 0 (λ z. h (e ∙ z)))

    pub valued : m ≡ 0 → record { code = 0; value = v; track = b } ≡ given n a v b
    unfolding given
    valued h = rw (eq-eqb n 0 (sym e ∙ h))

module _ {m : ℕ} (a : Track) (s : Velocity) (e : m ≡ asked (ok_track a) s.code) where
  abbrev velocityless : ℕ → TrackVelocity
  velocityless k = record { code = k; value = pos 0; track = a }

  pub unsummed : (m ≡ 0 → ⊥) → record { code = m; value = pos 0; track = a } ≡ summed_up a s
  unfolding summed_up
  unsummed h = ap velocityless e ∙ rw (ne_eqb (asked (ok_track a) s.code) 0 (λ z. h (e ∙ z)))

  pub summing : m ≡ 0 → record { code = 0; value = s.value; track = with_layers a s.layers } ≡ summed_up a s
  unfolding summed_up
  summing h = rw (eq-eqb (asked (ok_track a) s.code) 0 (sym e ∙ h))

-- a part's number stays where it is 3, or the whole is well
pub as-too-many : (ok : Bool) {n : ℕ} → n ≡ 3 → n ≡ asked ok n
unfolding asked
as-too-many ok e = rw e

pub as-well : {ok : Bool} (n : ℕ) → ok ≡ true → n ≡ asked ok n
unfolding asked
as-well {ok = ok} n e = go (eqb n 3) (eqb-true n 3)
  where
    go : (t : Bool) → (t ≡ true → n ≡ 3) → n ≡ cond t 3 (cond ok n 4)
    go true f = f refl
    go false f = rw e
