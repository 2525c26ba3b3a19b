-- `option_of`: a key is at most 128.
use Rattle.std.proofs.Common.{ap, ◌∙◌, to_z-of_z}
use Rattle.cycles.specs.Due.{key}
use Rattle.drawing.specs.Options.{option_of}
use Rattle.drawing.proofs.option_of.Goals as goal

pub returns : goal.returns
unfolding option_of
returns c = rw (c.key_of.ensures ∙ ap key (to_z-of_z c.ranges.target))
