use mathlib.Core.Path.{◌≡◌, ◌∙◌}
use native.Mathlib.Omega.{arith}
use lib.ListN.{length}
use mir.Syntax.{w32}
use Rattle.laws.proofs.Fitting.{back}
use borrow.Author.Rules.{rules}
use Rattle.numbers.specs.Limits.{list_limit}
use Rattle.carrying.specs.Carry.{set_cycle}
use Rattle.carrying.proofs.set_cycle.Goals as goal

pub keep_first-requires : goal.keep_first-requires
keep_first-requires c =
    let e : length c.args.r.list.items ≡ list_limit = search rules in
    omega (arith, c.requires)

pub returns : goal.returns
unfolding set_cycle
returns c =
    let a = c.args in
    let x = back w32 a.r.x (omega arith) in
    let y = back w32 a.r.y (omega arith) in
    c.keep_first.ensures ∙ rw (x, y)
