-- `dollavir_set_channel` is `state::set_channel`: what it answers and leaves is what that says.
use mir.Facts.{to_z-of_z}
use Rattle.ctrack.proofs.dollavir_set_channel.Goals as goal

pub returns : goal.returns
returns c = rw (c.set_channel.ensures, to_z-of_z c.ranges.channel) at c.leave_track.ensures
