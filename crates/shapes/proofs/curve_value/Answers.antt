-- The float that the code computes is the definition's (`is`), so its bound (`curve-within`) allows the cut, and that of the value is the law `curve-mag`.
use Rattle.std.proofs.Common.{◌≡◌, ◌+◌, ◌^◌, ◌≤◌, ◌-ℤ◌, nat_abs, sym, ap, ◌∙◌, subst, arith, to_z-of_z, w64, SFits}
use borrow.Author.Rules.{sfits_of}
use lib.Ieee.{Float, of_int, to_signed, add, mul, div, binary32}
use Rattle.laws.proofs.Signed.{mag-sub, sub_back}
use Rattle.laws.proofs.Floats.{Within, within_more}
use Rattle.shapes.specs.Curve.{curve_f, curve_of}
use Rattle.shapes.proofs.Size.{curve-within, curve-mag, room}
use Rattle.shapes.proofs.Join.{join}
use Rattle.shapes.proofs.curve_value.Goals as goal

module _ (c : goal.Start) where
  diff-fits : SFits w64 (c.args.high -ℤ c.args.low)
  diff-fits = omega (arith, mag-sub c.args.high c.args.low)

module _ (c : goal.After-f32_of) where
  diff-fits-at-2 : SFits w64 (c.args.high -ℤ c.args.low)
  diff-fits-at-2 = omega (arith, mag-sub c.args.high c.args.low)

  space-at-2 : nat_abs (c.args.high -ℤ c.args.low) + nat_abs c.args.low ≤ 2 ^ 24
  space-at-2 = room c.args.low c.args.high c.requires.low_bound.0 c.requires.low_bound.1

module _ (c : goal.After-cut) where
  diff-fits-at-3 : SFits w64 (c.args.high -ℤ c.args.low)
  diff-fits-at-3 = omega (arith, mag-sub c.args.high c.args.low)

  space-at-3 : nat_abs (c.args.high -ℤ c.args.low) + nat_abs c.args.low ≤ 2 ^ 24
  space-at-3 = room c.args.low c.args.high c.requires.low_bound.0 c.requires.low_bound.1

module _ (c : goal.After-f32_of) where
  is : let s = c.args in
      add binary32
      (mul binary32 c.f32_of-span.result (div binary32 c.f32_of_count.result c.f32_of_count-2.result))
      c.f32_of.result
      ≡ curve_f s.low s.high s.j s.len
  is =
      join c.args.low c.args.high c.args.j c.args.len
      (c.f32_of-span.ensures ∙ ap (of_int binary32) (sub_back c.ranges.high c.ranges.low (diff-fits-at-2 c)))
      c.f32_of_count.ensures c.f32_of_count-2.ensures (c.f32_of.ensures ∙ ap (of_int binary32) (to_z-of_z c.ranges.low))

module _ (c : goal.After-cut) where
  is-at-2 : let s = c.args in
      add binary32
      (mul binary32 c.f32_of-span.result (div binary32 c.f32_of_count.result c.f32_of_count-2.result))
      c.f32_of.result
      ≡ curve_f s.low s.high s.j s.len
  is-at-2 =
      join c.args.low c.args.high c.args.j c.args.len
      (c.f32_of-span.ensures ∙ ap (of_int binary32) (sub_back c.ranges.high c.ranges.low (diff-fits-at-3 c)))
      c.f32_of_count.ensures c.f32_of_count-2.ensures (c.f32_of.ensures ∙ ap (of_int binary32) (to_z-of_z c.ranges.low))

pub overflow_sub-high : goal.overflow_sub-high
overflow_sub-high c = rw (to_z-of_z c.ranges.high, to_z-of_z c.ranges.low) (diff-fits c)

pub f32_of-span-requires : goal.f32_of-span-requires
f32_of-span-requires c = rw (sub_back c.ranges.high c.ranges.low (diff-fits c)) (omega (arith, mag-sub c.args.high c.args.low))

pub f32_of-requires : goal.f32_of-requires
f32_of-requires c = rw (to_z-of_z c.ranges.low) (omega arith)

pub cut-requires : goal.cut-requires
cut-requires c =
    subst (λ (x : Float). Within x (2 ^ 24)) (sym (is c))
    (within_more (curve_f c.args.low c.args.high c.args.j c.args.len)
    (curve-within c.args.low c.args.high c.args.j c.args.len (space-at-2 c) (omega arith) (omega arith) (omega arith)) (space-at-2 c))

pub returns : goal.returns
unfolding curve_of
returns c =
    let e : c.cut.result ≡ curve_of c.args.low c.args.high c.args.j c.args.len = c.cut.ensures ∙ ap (to_signed 63) (is-at-2 c) in
    let m = curve-mag c.args.low c.args.high c.args.j c.args.len (space-at-3 c) (omega arith) (omega arith) (omega arith) in
    let b = to_z-of_z {w = w64} (sfits_of c.cut.type_inv) in
    record { value = b ∙ e; result_bound = rw (b, e) (omega (arith, space-at-3 c)) }
