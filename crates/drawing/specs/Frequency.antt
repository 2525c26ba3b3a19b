-- 01, "On-time curves": "Frequency: controllers max(setting, 1); bend its setting if positive, else max(timebase/32, 1)".
use Rattle.std.specs.Prelude.{cond, ℕ, ◌/◌, max, eqb, ℤ}
use Rattle.laws.specs.Integers.{cut}
use Rattle.numbers.specs.Ranges.{is_controller}

-- a setting that is not positive cuts to 0
unfoldable pub bend_freq : ℤ → ℤ → ℕ
bend_freq freq timebase = cond (eqb (cut freq) 0) (max (cut timebase / 32) 1) (cut freq)

unfoldable pub freq_for : ℤ → ℤ → ℤ → ℤ → ℕ
freq_for target ccfreq pbfreq timebase = cond (is_controller target) (max (cut ccfreq) 1) (bend_freq pbfreq timebase)
