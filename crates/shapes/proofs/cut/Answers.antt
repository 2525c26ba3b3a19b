-- Each branch is one of the two laws of `Cutting`, handed what the branch's test says.
use Rattle.std.proofs.Common.{◌≡◌, ◌^◌, ◌≤◌, pos, ap, ◌∙◌, arith, lit<, to_z-of_z, w64, SFits, to_z}
use lib.Ieee.{of_bits, neg, to_signed}
use mir.Facts.{to_z_pos}
use Rattle.laws.proofs.Signed.{mag-sub}
use Rattle.shapes.proofs.Cutting.{Whole, minus, at-least-nought, below-nought}
use Rattle.shapes.proofs.cut.Goals as goal

pub truncating_f32_to_u64-requires : goal.truncating_f32_to_u64-requires
unfolding of_bits
truncating_f32_to_u64-requires c =
    let w = below-nought c.args.x (2 ^ 24) c.requires (lit< tt) c.if-x.true in
    record { lower_bound = w.above; upper_bound = w.below }

pub truncating_f32_to_u64-requires-else-x : goal.truncating_f32_to_u64-requires-else-x
unfolding of_bits
truncating_f32_to_u64-requires-else-x c =
    let w = at-least-nought c.args.x (2 ^ 24) c.requires (lit< tt) c.if-x.false in
    record { lower_bound = w.above; upper_bound = w.below }

module _ (c : goal.After-truncating_f32_to_u64) where
  under : Whole (neg c.args.x) (2 ^ 24) minus (to_signed 63 c.args.x)
  unfolding of_bits
  under = below-nought c.args.x (2 ^ 24) c.requires (lit< tt) c.if-x.true

  small : c.truncating_f32_to_u64.result ≤ 2 ^ 24
  small = rw c.truncating_f32_to_u64.ensures under.small

  reads : to_z w64 c.truncating_f32_to_u64.result ≡ pos c.truncating_f32_to_u64.result
  reads = to_z_pos w64 (omega (arith, small))

  fits : SFits w64 (minus c.truncating_f32_to_u64.result)
  fits = omega (arith, small, mag-sub (pos 0) (pos c.truncating_f32_to_u64.result))

pub overflow_cast-result : goal.overflow_cast-result
overflow_cast-result c = omega (arith, small c)

pub overflow_cast-result-else-x : goal.overflow_cast-result-else-x
unfolding of_bits
overflow_cast-result-else-x c =
    let w = at-least-nought c.args.x (2 ^ 24) c.requires (lit< tt) c.if-x.false in
    let small : c.truncating_f32_to_u64-else-x.result ≤ 2 ^ 24 = rw c.truncating_f32_to_u64-else-x.ensures w.small in
    omega arith

pub overflow_sub-result : goal.overflow_sub-result
overflow_sub-result c = rw (reads c) (fits c)

pub returns-then-x : goal.returns-then-x
returns-then-x c = rw (reads c) (to_z-of_z (fits c) ∙ ap minus c.truncating_f32_to_u64.ensures ∙ (under c).is)

pub returns-else-x : goal.returns-else-x
unfolding of_bits
returns-else-x c =
    let w = at-least-nought c.args.x (2 ^ 24) c.requires (lit< tt) c.if-x.false in
    let small : c.truncating_f32_to_u64-else-x.result ≤ 2 ^ 24 = rw c.truncating_f32_to_u64-else-x.ensures w.small in
    to_z_pos w64 (omega (arith, small)) ∙ ap pos c.truncating_f32_to_u64-else-x.ensures ∙ w.is
