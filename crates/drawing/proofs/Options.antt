-- The option of a target, on a track that passes its test, passes its own.
use mathlib.Core.Path.{◌≡◌}
use mathlib.Core.Bool.{true}
use lib.IntN.{ℤ}
use Rattle.values.specs.Options.{ok_option}
use Rattle.values.proofs.Options.{option-at}
use Rattle.cycles.specs.Due.{key}
use Rattle.state.specs.declared.Track.{Track}
use Rattle.state.specs.Tests.{ok_options, ok_track}
use Rattle.state.proofs.Parts.{track-options}
use Rattle.drawing.specs.Options.{option_of}

pub option-well : (a : Track) (target : ℤ) → ok_track a ≡ true → ok_option (option_of a target) ≡ true
unfolding option_of ok_options
option-well a target e = option-at a.options (key target) (track-options a e)
