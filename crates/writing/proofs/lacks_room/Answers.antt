-- By the steps where they decide; else by what was counted.
use mathlib.Core.Path.{sym}
use native.Mathlib.Omega.{arith}
use borrow.Author.Tests.{le-ltb}
use lib.ListN.{length}
use Rattle.offers.specs.Waves.{triples}
use Rattle.writing.specs.Origins.{pieces_of}
use Rattle.writing.specs.Calls.{new_events_for}
use Rattle.writing.proofs.Calling.{few-new}
use Rattle.writing.proofs.lacks_room.Goals as goal

pub returns-then-min-free : goal.returns-then-min-free
returns-then-min-free c =
    let f = few-new c.args.w c.args.b (pieces_of (triples c.args.numbers.now) c.args.origin) in
    let m = c.min.ensures in
    let g = c.safe_iteration_limit.ensures in
    let h = c.from-limit.ensures in
    let t = c.if-min-free.true in
    let n = c.requires.3 in
    sym (le-ltb c.args.free (length (new_events_for c.args.w c.args.b (pieces_of (triples c.args.numbers.now) c.args.origin))) (omega arith))
