-- 01, "On-time curves" and "Sine": what a write at the track's time is asked with.
use Rattle.std.specs.Prelude.{ℤ}
use Rattle.values.specs.declared.Write.{Write}
use Rattle.state.specs.declared.Track.{Track}
use Rattle.drawing.specs.Options.{option_of}
use Rattle.drawing.specs.Frequency.{freq_for}

unfoldable pub write_of : Track → ℤ → Write
write_of a target =
    record {
      target = target;
      channel = a.channel;
      time = a.timepos;
      freq = freq_for target a.ccfreq a.pbfreq a.timebase;
      option = option_of a target;
    }
