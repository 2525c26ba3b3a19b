-- Events of one controller at one time.
--     AreTwins, told, twins-by   what `twins` tells, and back
--     twins-swap, twins-follow   either way round, and from one twin to the next
--     twin-accepted              the player accepts both or neither
use mathlib.Core.Bool.{true, ◌&&◌}
use mathlib.Core.Path.{◌≡◌, sym, ap, ◌∙◌}
use Rattle.laws.specs.Integers.{eq_z}
use Rattle.laws.proofs.Bits.{eq_z-refl, eq_z-true}
use Rattle.laws.proofs.Ranges.{left, right}
use Rattle.events.specs.declared.Event.{Event}
use Rattle.events.specs.Kinds.{control_change}
use Rattle.profile.specs.Profile.{is_heeded, accepts, twins}

pub record AreTwins (a b : Event) : Type 0 where
  pub first : eq_z a.kind control_change ≡ true
  pub second : eq_z b.kind control_change ≡ true
  pub number : a.v1 ≡ b.v1
  pub time : a.time ≡ b.time

module _ (a b : Event) where
  pub told : twins a b ≡ true → AreTwins a b
  unfolding twins
  told h =
      let kinds = eq_z a.kind control_change && eq_z b.kind control_change in
      let same = left (kinds && eq_z a.v1 b.v1) (eq_z a.time b.time) h in
      let both = left kinds (eq_z a.v1 b.v1) same in
      record {
        first = left (eq_z a.kind control_change) (eq_z b.kind control_change) both;
        second = right (eq_z a.kind control_change) (eq_z b.kind control_change) both;
        number = eq_z-true a.v1 b.v1 (right kinds (eq_z a.v1 b.v1) same);
        time = eq_z-true a.time b.time (right (kinds && eq_z a.v1 b.v1) (eq_z a.time b.time) h);
      }

  pub twins-by : AreTwins a b → twins a b ≡ true
  unfolding twins
  twins-by t = rw (t.first, t.second, t.number, t.time, eq_z-refl b.v1, eq_z-refl b.time)

pub twins-swap : (a b : Event) → twins a b ≡ true → twins b a ≡ true
twins-swap a b h = let t = told a b h in twins-by b a (record { first = t.second; second = t.first; number = sym t.number; time = sym t.time })

pub twins-follow : (a b c : Event) → twins a b ≡ true → twins b c ≡ true → twins a c ≡ true
twins-follow a b c h k =
    let s = told a b h in
    let t = told b c k in
    twins-by a c (record { first = s.first; second = t.second; number = s.number ∙ t.number; time = s.time ∙ t.time })

pub twin-accepted : (a b : Event) → accepts a ≡ true → twins a b ≡ true → accepts b ≡ true
unfolding accepts
twin-accepted a b h k =
    let t = told a b k in
    let heeded : is_heeded a.v1 ≡ true = rw t.first at h in
    rw t.second (ap is_heeded (sym t.number) ∙ heeded)
