-- The kinds of a sine, and the number that names each where a sine is set or written: 0 the full turn, 1 and 2 the quarters up and down.
-- `from_i` answers an enum, so its promise is `kind_said`: no number refuses a kind, and its value is the number that names it.
use Rattle.std.specs.Prelude.{cond, [], ◌∷◌, ℕ, ℤ, pos}
use Rattle.laws.specs.Integers.{eq_z}
use Rattle.laws.specs.Answers.{Said}
use Rattle.sines.specs.declared.SineType.{SineType}
use Rattle.sines.specs.declared.SineType.TheVariants.{Sine, UpSine, DownSine}

abbrev pub number_of : SineType → ℕ
number_of Sine = 0
number_of UpSine = 1
number_of DownSine = 2

-- the kind that a number names, as the original reads it: every number that names no quarter is the full turn's
abbrev pub sine_type : ℤ → SineType
sine_type v = cond (eq_z v (pos (number_of UpSine))) UpSine (cond (eq_z v (pos (number_of DownSine))) DownSine Sine)

-- 01, "What each place should look like": the paper's number and values for each case of the answer
abbrev pub kind_said : SineType → Said
kind_said k = record { number = 0; values = pos (number_of k) ∷ [] }

-- what is said of the kind that a number names
abbrev pub kind_of : ℤ → Said
kind_of v = kind_said (sine_type v)
