-- `freq_for`: the frequency of a controller, or that of a bend, by the match on the code.
use mathlib.Core.Path.{◌≡◌, ap, ap₂, ◌∙◌}
use mathlib.Core.Bool.{false}
use Prim.Native.Nat.{ℕ, max}
use borrow.Author.Rules.{rules}
use lib.IntN.{pos}
use mir.Facts.{to_z-of_z}
use Rattle.laws.specs.Integers.{cut}
use Rattle.laws.proofs.Signed.{lt-back-l}
use Rattle.numbers.specs.Ranges.{is_controller}
use Rattle.values.proofs.Targets.{told-controller, told_below, told-above}
use Rattle.drawing.specs.Frequency.{bend_freq, freq_for}
use Rattle.drawing.proofs.freq_for.Goals.{in_default-via-then-target-lt0, in_default-via-else-target-lt0+else-target-lt128}
use Rattle.drawing.proofs.freq_for.Goals as goal

pub returns-in-0-to-127 : goal.returns-in-0-to-127
unfolding freq_for
returns-in-0-to-127 c =
    let f = c.ranges.target in
    let q = told-controller c.args.target (lt-back-l (pos 0) f (search rules)) (lt-back-l (pos 128) f (search rules)) in
    c.at_least_one.ensures ∙ ap (λ (n : ℕ). max n 1) (c.steps_of.ensures ∙ ap cut (to_z-of_z c.ranges.ccfreq)) ∙ rw q

pub returns-in_default : goal.returns-in_default
unfolding freq_for
returns-in_default c =
    let f = c.ranges.target in
    let q : is_controller c.args.target ≡ false = elim c.in_default.branch [
      | in_default-via-then-target-lt0 w ↦ told_below c.args.target (lt-back-l (pos 0) f (search rules))
      | in_default-via-else-target-lt0+else-target-lt128 w ↦ told-above c.args.target (lt-back-l (pos 128) f (search rules))
    ] in
    c.bend_freq.ensures ∙ ap₂ bend_freq (to_z-of_z c.ranges.pbfreq) (to_z-of_z c.ranges.timebase) ∙ rw q
