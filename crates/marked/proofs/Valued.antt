-- The marked values half way up and down a curve, of the public calls on a parameter: "Curve (0,127,96) at 48: 63. (0,-127,96) at 48: -63."
use mathlib.Core.Path.{◌≡◌, refl}
use lib.IntN.{ℤ, pos, negsuc}
use Rattle.laws.specs.Integers.{inside, sized}
use Rattle.laws.specs.Lists.{all, counted}
use Rattle.numbers.specs.Ranges.{is_time, is_stored_time, is_number, is_length, is_random}
use Rattle.counted.specs.Numbers.{zeros, ok_numbers}
use Rattle.counted.specs.Curves.{triples, has_length, is_curve, ok_curve}
use Rattle.shapes.specs.Curve.{curve_of}
use Rattle.reserved.specs.Curve.{curve_at}
use Rattle.reserved.specs.Reserve.{ok_values, ok_reserve, timed}
use Rattle.params.specs.Param.{ok_limits, ok_param}
use Rattle.params.specs.Calls.{answered, given}
use Rattle.marked.specs.Subjects.{swell, half_way, valued}

abbrev HalfWay : ℤ → ℤ → Type 0
HalfWay high v = ((swell high).code ≡ 0) × (half_way high ≡ valued high v)

pub both : HalfWay (pos 127) (pos 63) × HalfWay (negsuc 126) (negsuc 62)
unfolding answered given ok_param ok_limits ok_reserve ok_values ok_numbers ok_curve is_curve has_length triples counted all is_time is_stored_time is_number is_length is_random sized inside zeros timed curve_at curve_of
both = ((refl, refl), (refl, refl))
