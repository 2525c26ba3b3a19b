-- 01, "On-time curves": where a curve stands some steps after its start, if it is not over. Triples with a length of 0 or less take no time.
use Rattle.std.specs.Prelude.{cond, List, [], ◌∷◌, ℕ, ◌-◌, ltb, ℤ, Option, Some, None}
use Rattle.laws.specs.Integers.{cut}
use Rattle.shapes.specs.Curve.{curve_of}
use Rattle.counted.specs.Curves.{Triple}

unfoldable pub curve_at : List Triple → ℕ → Option ℤ
curve_at [] t = None
curve_at (x ∷ xs) t =
    cond (ltb t (cut x.length)) (Some (curve_of x.low x.high t (cut x.length))) (curve_at xs (t - cut x.length))
