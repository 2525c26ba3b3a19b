-- `offer_value`: the numbers of the write and of the offer are the list's and the note's, read back.
use mathlib.Core.Path.{◌≡◌, ◌∙◌}
use mathlib.Core.Bool.{true}
use Prim.Native.Nat.{◌≤◌, ◌^◌}
use native.Mathlib.Omega.{arith}
use borrow.Author.Rules.{rules}
use lib.IntN.{ℤ}
use lib.Signed.{mag}
use mir.Syntax.{w32, w64}
use mir.Val.{SFits, to_z, of_z}
use mir.Facts.{to_z-of_z}
use Rattle.laws.proofs.Ranges.{sized-mag}
use Rattle.laws.proofs.Signed.{back}
use Rattle.numbers.specs.Ranges.{is_time}
use Rattle.noting.specs.Runs.{wrote_at}
use Rattle.noting.proofs.Rules.{sound, fits-target}
use Rattle.noting.proofs.offer_value.Goals as goal

-- the value, through a narrow and a wide local
value-back : {w v z : ℤ} → w ≡ to_z w32 (of_z w32 v) → v ≡ z → mag v ≤ 2 ^ 22 → to_z w64 (of_z w64 w) ≡ z
value-back {v} p q b =
    let narrow : SFits w32 v = record { sfits = omega arith } in
    let wide : SFits w64 v = record { sfits = omega arith } in
    back (p ∙ to_z-of_z narrow) wide ∙ q

small : {v z : ℤ} → v ≡ z → mag v ≤ 2 ^ 22 → mag z ≤ 2 ^ 24
small e b = rw (← e) (omega arith)

near : (z : ℤ) → is_time z ≡ true → mag z ≤ 2 ^ 40
unfolding is_time
near z e = sized-mag (2 ^ 40) z e

pub one_value-requires : goal.one_value-requires
one_value-requires c =
    let m = near c.args.at.start c.requires.2 in
    let f : SFits w64 c.args.at.start = record { sfits = omega arith } in
    let e = c.value_of.ensures in
    rw (to_z-of_z f, value-back c.from.ensures e.0 e.1)
    (record { time = omega arith; some = omega arith; slow = omega arith }, record { step = omega arith; value = small e.0 e.1 })

pub returns : goal.returns
unfolding wrote_at
returns c =
    let x = c.args.e in
    let m = near c.args.at.start c.requires.2 in
    let f : SFits w64 c.args.at.start = record { sfits = omega arith } in
    let g : SFits w32 c.args.at.channel = search rules in
    let e = c.value_of.ensures in
    rw (to_z-of_z (fits-target x (sound x c.requires.0)), to_z-of_z g, to_z-of_z f, value-back c.from.ensures e.0 e.1) at c.one_value.ensures
