-- `advance` adds one layer: the sum of so many 32-bit numbers fits 64 bits.
use mathlib.Core.Path.{◌≡◌, ap, ap₂, ◌∙◌}
use Prim.Native.Nat.{◌≤◌, ◌+◌, ◌*◌, ◌^◌}
use native.Mathlib.Omega.{arith}
use lib.IntN.{ℤ, ◌+ℤ◌}
use lib.ListN.{length, get_or, set}
use lib.Signed.{mag}
use mir.Syntax.{w32, w64}
use mir.Val.{SFits, to_z, of_z}
use mir.Facts.{to_z-of_z}
use borrow.Author.Rules.{rules}
use Rattle.laws.proofs.Signed.{mag-add, narrow_back}
use Rattle.laws.proofs.Reading.{get_d_any}
use Rattle.numbers.specs.Limits.{layer_limit}
use Rattle.layers.specs.declared.Heard.{Heard}
use Rattle.layers.specs.Layers.{fresh_layer, with_items, heard_of}
use Rattle.layers.specs.Calls.{further}
use Rattle.layers.proofs.Parts.{no_layer}
use Rattle.layers.proofs.advance.Goals as goal

pub returns : goal.returns
unfolding further
returns c =
    let a = c.args.sum in
    let x = c.layer_heard-heard.result in
    let f : SFits w32 x.value = search rules in
    let u : SFits w64 x.value = omega arith in
    let g : SFits w64 a.value = search rules in
    let m : mag (a.value +ℤ x.value) ≤ (c.args.i + 2) * 2 ^ 32 = let k = c.requires.value_bound in omega (arith, mag-add a.value x.value) in
    let s : SFits w64 (a.value +ℤ x.value) = let i = c.requires.i_lt_layer_limit in omega arith in
    let b : to_z w64 (of_z w64 (to_z w64 (of_z w64 a.value) +ℤ to_z w64 (of_z w64 c.from.result))) ≡ a.value +ℤ x.value = rw (to_z-of_z g, c.from.ensures, narrow_back w32 w64 f u, to_z-of_z s) in
    let n : length a.layers.items ≡ layer_limit = search rules in
    let q : x ≡ heard_of c.args.timepos (get_or a.layers.items c.args.i no_layer) = search rules in
    let e = q ∙ ap (heard_of c.args.timepos) (get_d_any a.layers.items c.args.i no_layer fresh_layer (omega arith)) in
    record {
      value = ap₂ (λ (z : ℤ) (x : Heard). record { code = a.code; value = z; layers = with_items a.layers.count (set a.layers.items c.args.i x.layer) }) (b ∙ ap (λ (x : Heard). a.value +ℤ x.value) e) e;
      value_bound_2 = rw b m;
    }
