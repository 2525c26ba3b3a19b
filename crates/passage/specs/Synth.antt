-- What a synthesiser may keep behind the events that it has heard, beside the value of each controller (MIDI 1.0): three things that a
-- player's state does not have, and that a cut does not keep. They are here for the theorem's edges (proofs/Edges.antt) alone.
use Rattle.std.specs.Prelude.{Bool, cond, ◌&&◌, List, [], ◌∷◌, ℕ, ℤ, pos}
use Rattle.laws.specs.Integers.{eq_z}
use Rattle.events.specs.declared.Event.{Event}
use Rattle.events.specs.Kinds.{control_change, voice}

-- what is kept after the events of a list, one after the other
abbrev pub after : {A : Type 0} → (A → Event → A) → A → List Event → A
after step a [] = a
after step a (e ∷ es) = after step (step a e) es

abbrev pub is_controller : ℕ → Event → Bool
is_controller n e = eq_z e.kind control_change && eq_z e.v1 (pos n)

-- ---- registered parameters: 101 and 100 choose one, 6 sets it; 0 and 0 is the range of bends, in half tones
pub record Registered : Type 0 where
  pub coarse : ℤ
  pub fine : ℤ
  pub range : ℤ

-- none is chosen, and the range is 2
abbrev pub none_chosen : Registered
none_chosen = record { coarse = pos 127; fine = pos 127; range = pos 2 }

abbrev pub registers : Registered → Event → Registered
registers r e =
    record {
      coarse = cond (is_controller 101 e) e.v2 r.coarse;
      fine = cond (is_controller 100 e) e.v2 r.fine;
      range = cond (is_controller 6 e && eq_z r.coarse (pos 0) && eq_z r.fine (pos 0)) e.v2 r.range;
    }

-- ---- banks: controller 0 chooses one, in which the next program is looked up
pub record Voiced : Type 0 where
  pub bank : ℤ
  pub sound : ℤ

-- a sound is told here by its bank
abbrev pub chooses : Voiced → Event → Voiced
chooses b e =
    record {
      bank = cond (is_controller 0 e) e.v2 b.bank;
      sound = cond (eq_z e.kind voice) b.bank b.sound;
    }

-- ---- channel modes: 121 lifts the pedal, as it resets other controllers
abbrev pub presses : ℤ → Event → ℤ
presses p e = cond (is_controller 64 e) e.v2 (cond (is_controller 121 e) (pos 0) p)
