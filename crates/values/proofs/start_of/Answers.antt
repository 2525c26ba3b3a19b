-- The time is Ready's, the delay a number of 32 bits: their sum is far from the ends of 64.
use mathlib.Core.Path.{◌≡◌, refl, ◌∙◌}
use native.Mathlib.Omega.{arith}
use Prim.Native.Nat.{◌<◌, ◌^◌}
use lib.IntN.{◌+ℤ◌}
use lib.Signed.{mag}
use mir.Syntax.{w32, w64}
use mir.Val.{SFits, to_z, of_z}
use mir.Facts.{to_z-of_z}
use borrow.Author.Rules.{rules, sfits_of}
use Rattle.laws.proofs.Signed.{mag-add}
use Rattle.values.specs.Value.{start_of}
use Rattle.values.proofs.start_of.Goals as goal

module _ (c : goal.After-struct_told-2-1) where
  time-is : to_z w64 (of_z w64 c.args.w.time) ≡ c.args.w.time
  time-is = let r = c.requires.time in to_z-of_z (let f : SFits w64 c.args.w.time = omega arith in f)

  delay-is : to_z w64 (of_z w64 c.from.result) ≡ c.args.w.option.delay
  delay-is =
      to_z-of_z {w = w64} (sfits_of c.from.type_inv) ∙ c.from.ensures ∙ to_z-of_z {w = w32} {z = c.args.w.option.delay} (record { sfits = search rules })

  small : mag (c.args.w.time +ℤ c.args.w.option.delay) < 2 ^ 43
  small =
      let d : mag c.args.w.option.delay < 2 ^ 31 = search rules in
      let r = c.requires.time in
      omega (arith, mag-add c.args.w.time c.args.w.option.delay)

  fit : SFits w64 (c.args.w.time +ℤ c.args.w.option.delay)
  fit = let h = small in omega arith

pub returns : goal.returns
unfolding start_of
returns c = rw (time-is c, delay-is c, to_z-of_z (fit c)) (refl, small c)
