-- What a player has at a time. It plays a list in time order, and events of one time in list order; it listens to one channel, to
-- some, or to all. Of each controller, of the program and of the bend it has what the last event said that it has played.
use Rattle.std.specs.Prelude.{Bool, true, cond, ◌&&◌, List, [], ◌∷◌, map, ℕ, zero, suc, ℤ, pos}
use Rattle.std.proofs.Math.Option.{Option, none, some}
use Rattle.std.specs.Int.Signed.{lt_z, le_z}
use Rattle.laws.specs.Integers.{eq_z}
use Rattle.laws.specs.Lists.{only}
use Rattle.events.specs.declared.Event.{Event}
use Rattle.events.specs.Kinds.{control_change, pitch_bend, voice}
use Rattle.sorting.specs.Stable.{stable_sort}
use Rattle.sorting.specs.Sorting.{earlier}
use Rattle.cutting.specs.Choice.{last_of}
use Rattle.cutting.specs.Cuts.{controllers}

-- ---- the order in which a list is played
abbrev pub heard : List Event → List Event
heard es = stable_sort earlier es

-- what of it is played at or before t
abbrev pub played_by : ℤ → List Event → List Event
played_by t es = only (λ e. le_z e.time t) (heard es)

-- ---- the channels that a player listens to
abbrev pub on : ℤ → ℤ → Bool
on j channel = eq_z channel j

abbrev pub anywhere : ℤ → Bool
anywhere channel = true

-- ---- what a player has after events that were played one after the other
-- 01: "a negative value unsets", so that the player has its default
abbrev pub held : ℤ → Option ℤ
held v = cond (lt_z v (pos 0)) none (some v)

-- an event of the kind on a channel that is listened to
abbrev pub says : ℤ → (ℤ → Bool) → Event → Bool
says kind listens e = eq_z e.kind kind && listens e.channel

abbrev pub controller_of : List Event → (ℤ → Bool) → ℕ → Option ℤ
controller_of es listens n = last_of (λ e. says control_change listens e && eq_z e.v1 (pos n)) (λ e. held e.v2) none es

abbrev pub program_of : List Event → (ℤ → Bool) → Option ℤ
program_of es listens = last_of (says voice listens) (λ e. held e.v1) none es

-- a bend has no value that unsets
abbrev pub bend_of : List Event → (ℤ → Bool) → Option ℤ
bend_of es listens = last_of (says pitch_bend listens) (λ e. some e.v1) none es

-- k numbers, from n up
abbrev pub up_from : ℕ → ℕ → List ℕ
up_from zero n = []
up_from (suc k) n = n ∷ up_from k (suc n)

-- the 128 controllers by number, the program and the bend; `none` is the player's own default, whatever that is
pub record State : Type 0 where
  pub controls : List (Option ℤ)
  pub program : Option ℤ
  pub bend : Option ℤ

unfoldable pub has : List Event → (ℤ → Bool) → State
has es listens =
    record {
      controls = map (controller_of es listens) (up_from controllers 0);
      program = program_of es listens;
      bend = bend_of es listens;
    }

-- ---- what it has at t
abbrev pub state : List Event → (ℤ → Bool) → ℤ → State
state es listens t = has (played_by t es) listens
