-- A new track passes the test of a track, and a call on one that is not refused leaves the track that it says.
use mathlib.Core.Path.{◌≡◌, refl, ap}
use mathlib.Core.Bool.{true}
use Prim.Native.Nat.{ℕ}
use lib.IntN.{pos}
use Rattle.laws.specs.Integers.{inside}
use Rattle.numbers.specs.Ranges.{is_timebase}
use Rattle.state.specs.declared.Track.{Track}
use Rattle.state.specs.Calls.{answered, new_of}
use Rattle.state.specs.Tests.{ok_track}
use Rattle.state.proofs.New.{new-passes}
use Rattle.marked.specs.Subjects.{new}

pub new-well : ok_track new ≡ true
unfolding new_of answered is_timebase inside
new-well = new-passes (pos 96) (pos 0) refl

pub accepted : (n : ℕ) (a b : Track) → n ≡ 0 → (answered n a b).track ≡ b
unfolding answered
accepted n a b e = ap (λ (k : ℕ). (answered k a b).track) e
