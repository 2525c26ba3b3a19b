-- `options_ok` tests the options from the front (the law Tests).
use mathlib.Core.Path.{◌≡◌, sym, ◌∙◌}
use native.Mathlib.Omega.{arith}
use borrow.Author.Rules.{rules}
use lib.ListN.{length}
use Rattle.laws.proofs.Tests.{passed, failed, ended}
use Rattle.values.specs.Options.{ok_option}
use Rattle.state.specs.Track.{option_count}
use Rattle.state.specs.Tests.{ok_options}
use Rattle.state.proofs.options_ok.Goals as goal

pub returns-then-not-option_ok : goal.returns-then-not-option_ok
unfolding ok_options
returns-then-not-option_ok c =
    let a = c.args.options in
    let e : length a ≡ option_count = search rules in
    failed ok_option a c.loop-i.i _ (omega arith) (sym c.option_ok.ensures ∙ c.if-not-option_ok.true) c.loop-i.invariant

pub loop-i-preserved : goal.loop-i-preserved
loop-i-preserved c =
    let a = c.args.options in
    let e : length a ≡ option_count = search rules in
    passed ok_option a c.loop-i.i _ (omega arith) (sym c.option_ok.ensures ∙ c.if-not-option_ok.false) c.loop-i.invariant

pub returns : goal.returns
unfolding ok_options
returns c =
    let a = c.args.options in
    let e : length a ≡ option_count = search rules in
    ended ok_option a c.loop-i.i (omega arith) c.loop-i.invariant
