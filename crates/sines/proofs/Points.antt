-- Values of a sine, each by computing it: the half turn, both signs of a half, the quarter's middle, and the widest ends at the greatest length.
use mathlib.Core.Path.{◌≡◌, refl}
use lib.IntN.{pos, negsuc}
use Rattle.sines.specs.Table.{quarter_table}
use Rattle.sines.specs.Sine.{sin_of, lift_in, share_of, round_away, sine_of}
use Rattle.sines.specs.declared.SineType.TheVariants.{Sine, UpSine, DownSine}

pub points : (sine_of Sine (pos 0) (pos 127) 48 96 ≡ pos 127)
    × (sine_of Sine (pos 0) (pos 127) 24 96 ≡ pos 64)
    × (sine_of Sine (pos 0) (negsuc 126) 24 96 ≡ negsuc 63)
    × (sine_of UpSine (pos 0) (pos 127) 48 96 ≡ pos 90)
    × (sine_of DownSine (pos 0) (pos 127) 48 96 ≡ pos 90)
    × (sine_of UpSine (negsuc 16382) (pos 16383) 1048575 1048576 ≡ pos 16383)
unfolding sine_of sin_of lift_in share_of round_away quarter_table
points = (refl, refl, refl, refl, refl, refl)
