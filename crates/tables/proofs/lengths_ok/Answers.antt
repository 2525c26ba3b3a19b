-- the triples so far are forward (laws, Tests): the third number of triple i stands at i * 3 + 2
use Rattle.std.proofs.Common.{rules, ◌≡◌, ap, ◌∙◌, not, ℕ, ◌+◌, ◌*◌, ◌/◌, ◌≤◌, ◌<◌, length, get_or, arith}
use Rattle.std.proofs.Common.{pos}
use lib.Signed.{lt_z}
use mir.Syntax.{w32}
use mir.Val.{SFits}
use Rattle.laws.proofs.Signed.{lt-back-l}
use Rattle.laws.proofs.Tests.{ended, passed, failed}
use Rattle.numbers.specs.Limits.{list_limit}
use Rattle.counted.specs.declared.Numbers.{Numbers}
use Rattle.counted.specs.Numbers.{shown}
use Rattle.counted.specs.Curves.{triples, no_triple}
use Rattle.counted.proofs.Triples.{triple-at, length-triples}
use Rattle.tables.specs.Reservations.{forward}
use Rattle.tables.proofs.lengths_ok.Goals as goal

-- triple i is forward where its third number is not below 0
third : (a : Numbers) → a.count ≤ length a.items → (i : ℕ) → i < a.count / 3
    → forward (get_or (triples (shown a)) i no_triple) ≡ not (lt_z (get_or a.items (i * 3 + 2) (pos 0)) (pos 0))
unfolding forward
third a m i h = ap forward (triple-at a m i h)

pub returns-then-list-i-lt0 : goal.returns-then-list-i-lt0
returns-then-list-i-lt0 c =
    let a = c.args.list in
    let e : length a.items ≡ list_limit = search rules in
    let h = length-triples a (search rules) in
    let f : SFits w32 (get_or a.items (c.loop-i.i * 3 + 2) (pos 0)) = search rules in
    failed forward (triples (shown a)) c.loop-i.i no_triple (omega arith)
    (third a (search rules) c.loop-i.i (search rules) ∙ ap not (lt-back-l (pos 0) f c.if-list-i-lt0.true)) c.loop-i.invariant

pub loop-i-preserved : goal.loop-i-preserved
loop-i-preserved c =
    let a = c.args.list in
    let e : length a.items ≡ list_limit = search rules in
    let h = length-triples a (search rules) in
    let f : SFits w32 (get_or a.items (c.loop-i.i * 3 + 2) (pos 0)) = search rules in
    passed forward (triples (shown a)) c.loop-i.i no_triple (omega arith)
    (third a (search rules) c.loop-i.i (search rules) ∙ ap not (lt-back-l (pos 0) f c.if-list-i-lt0.false)) c.loop-i.invariant

pub returns : goal.returns
returns c =
    let a = c.args.list in
    let e : length a.items ≡ list_limit = search rules in
    let h = length-triples a (search rules) in
    ended forward (triples (shown a)) c.loop-i.i (omega arith) c.loop-i.invariant
