-- what is left decides (laws, Keys)
use Rattle.std.proofs.Common.{rules, ap, ◌∙◌, not}
use Rattle.laws.proofs.Keys.{one-alone, one-twice, none_left}
use Rattle.tables.specs.Tables.{keys_shown}
use Rattle.tables.proofs.Alone.{none-behind}
use Rattle.tables.proofs.Keys.alone.Goals as goal

pub returns-then-contains : goal.returns-then-contains
returns-then-contains c =
    let a = c.args.self.now in
    one-twice (keys_shown a) c.loop-i.i 0 (search rules) c.loop-i.invariant
    (none-behind a.items a.count c.loop-i.i (search rules) (search rules) c.contains.result c.contains.ensures.value ∙ ap not c.if-contains.true)

pub loop-i-preserved : goal.loop-i-preserved
loop-i-preserved c =
    let a = c.args.self.now in
    one-alone (keys_shown a) c.loop-i.i 0 (search rules) c.loop-i.invariant
    (none-behind a.items a.count c.loop-i.i (search rules) (search rules) c.contains.result c.contains.ensures.value ∙ ap not c.if-contains.false)

pub returns : goal.returns
returns c =
    let a = c.args.self.now in
    none_left (keys_shown a) c.loop-i.i (search rules) c.loop-i.invariant
