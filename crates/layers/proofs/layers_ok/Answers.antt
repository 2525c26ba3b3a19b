-- `layers_ok` tests the layers that count from the front (the law Tests).
use mathlib.Core.Path.{◌≡◌, sym, ◌∙◌}
use Prim.Native.Nat.{◌≤◌}
use native.Mathlib.Omega.{arith}
use lib.ListN.{length}
use borrow.Author.Tests.{le-leb}
use borrow.Author.Rules.{rules}
use Rattle.laws.proofs.Tests.{counted-over, counted-no, counted-yes, passed-of, and_yes}
use Rattle.numbers.specs.Limits.{layer_limit}
use Rattle.layers.specs.Layers.{ok_layer, ok_layers}
use Rattle.layers.proofs.Parts.{no_layer}
use Rattle.layers.proofs.layers_ok.Goals as goal

pub returns-then-n-gt-LAYER_LIMIT : goal.returns-then-n-gt-LAYER_LIMIT
unfolding ok_layers
returns-then-n-gt-LAYER_LIMIT c = let h : 1 ≤ c.args.layers.count = omega arith in and_yes (le-leb 1 _ h) (counted-over ok_layer _ layer_limit _ c.if-n-gt-LAYER_LIMIT.true)

pub returns-then-not-layer_ok : goal.returns-then-not-layer_ok
unfolding ok_layers
returns-then-not-layer_ok c =
    let a = c.args.layers in
    let e : length a.items ≡ layer_limit = search rules in
    let h : 1 ≤ a.count = omega arith in
    and_yes (le-leb 1 _ h) (counted-no ok_layer a.count layer_limit a.items c.loop-i.i no_layer (omega arith) e (omega arith) (sym c.layer_ok.ensures ∙ c.if-not-layer_ok.true) c.loop-i.invariant)

pub loop-i-preserved : goal.loop-i-preserved
loop-i-preserved c =
    let a = c.args.layers in
    let e : length a.items ≡ layer_limit = search rules in
    passed-of ok_layer a.count a.items c.loop-i.i no_layer (omega arith) (omega arith) (sym c.layer_ok.ensures ∙ c.if-not-layer_ok.false) c.loop-i.invariant

pub returns : goal.returns
unfolding ok_layers
returns c =
    let a = c.args.layers in
    let e : length a.items ≡ layer_limit = search rules in
    let h : 1 ≤ a.count = omega arith in
    and_yes (le-leb 1 _ h) (counted-yes ok_layer a.count layer_limit a.items c.loop-i.i (omega arith) e (omega arith) c.loop-i.invariant)
