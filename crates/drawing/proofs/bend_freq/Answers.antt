-- `bend_freq`: a setting that cuts to 0 is not positive.
use mathlib.Core.Path.{◌≡◌, sym, ap, ◌∙◌}
use Prim.Native.Nat.{ℕ, ◌/◌, max}
use borrow.Author.Tests.{ne_eqb}
use lib.IntN.{ℤ}
use mir.Facts.{to_z-of_z}
use Rattle.laws.specs.Integers.{cut}
use Rattle.drawing.specs.Frequency.{bend_freq}
use Rattle.drawing.proofs.bend_freq.Goals as goal

module _ (freq timebase : ℤ) (n : ℕ) where
  of-timebase : cut freq ≡ 0 → n ≡ cut timebase → max (n / 32) 1 ≡ bend_freq freq timebase
  unfolding bend_freq
  of-timebase z e = rw (z, e)

  own : n ≡ cut freq → (n ≡ 0 → ⊥) → n ≡ bend_freq freq timebase
  unfolding bend_freq
  own e h = rw (← e, ne_eqb n 0 h)

pub returns-then-own-eq0 : goal.returns-then-own-eq0
returns-then-own-eq0 c =
    let e = c.steps_of-own.ensures ∙ ap cut (to_z-of_z c.ranges.freq) in
    c.at_least_one.ensures
    ∙ of-timebase c.args.freq c.args.timebase c.steps_of.result (sym e ∙ c.if-own-eq0.true) (c.steps_of.ensures ∙ ap cut (to_z-of_z c.ranges.timebase))

pub returns-else-own-eq0 : goal.returns-else-own-eq0
returns-else-own-eq0 c =
    own c.args.freq c.args.timebase c.steps_of-own.result (c.steps_of-own.ensures ∙ ap cut (to_z-of_z c.ranges.freq)) c.if-own-eq0.false
