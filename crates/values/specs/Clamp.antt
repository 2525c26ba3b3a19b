-- 01, "One value": "the clamp: controllers 0..127; bend with argument 0 times 128, any other argument plus 8192, both to 0..32,639".
use Rattle.std.specs.Prelude.{cond, ℕ, ℤ, pos, ◌+ℤ◌, ◌*ℤ◌}
use Rattle.laws.specs.Integers.{eq_z, range_of}
use Rattle.numbers.specs.Ranges.{is_controller}

-- the target codes of the bends
abbrev pub bend_small : ℤ
bend_small = pos 128

abbrev pub bend_wide : ℤ
bend_wide = pos 129

-- the greatest value of a controller, and of a bend
abbrev pub controller_top : ℕ
controller_top = 127

abbrev pub bend_top : ℕ
bend_top = 32639

unfoldable pub top_of : ℤ → ℕ
top_of target = cond (is_controller target) controller_top bend_top

-- a value as its target's event counts it; a code that is no target's, which every call refuses by 2, counts none
unfoldable pub scaled_for : ℤ → ℤ → ℤ
scaled_for target v =
    cond (is_controller target) v
    (cond (eq_z target bend_small) (v *ℤ pos 128) (cond (eq_z target bend_wide) (v +ℤ pos 8192) (pos 0)))

unfoldable pub clamped : ℤ → ℤ → ℤ
unfolding top_of scaled_for
clamped target v = range_of (pos 0) (scaled_for target v) (pos (top_of target))
