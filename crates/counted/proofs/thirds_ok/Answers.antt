-- `thirds_ok` tests the third number of each chunk of three: that of triple i stands at i * 3 + 2.
use Rattle.std.proofs.Common.{rules, arith, ◌≡◌, ◌+◌, ◌*◌, length, pos, ap, sym, ◌∙◌}
use Rattle.std.specs.Iterator.Runs.{ItemsMapToExactChunks}
use lib.Seq.{get_or-take, length-take-le}
use Rattle.numbers.specs.Limits.{list_limit}
use Rattle.numbers.specs.Ranges.{is_length}
use Rattle.counted.specs.Numbers.{shown}
use Rattle.counted.specs.Curves.{has_length, triples, no_triple}
use Rattle.counted.proofs.Chains.{all-told, thirds-told}
use Rattle.counted.proofs.Triples.{third, length-triples}
use Rattle.counted.proofs.thirds_ok.Goals as goal

pub returns : goal.returns
returns c =
    let a = c.args.list in
    let run = c.all.ensures.runs in
    let room : length a.items ≡ list_limit = search rules in
    let chunks : ItemsMapToExactChunks run.0 (λ x. x.now) 3 (shown a) = grind (arith, c.chunks_exact.ensures.runs run.0 run.0.seen) in
    let n = length-triples a (omega arith) in
    let m = length-take-le a.count a.items (omega arith) in
    let there = thirds-told run.0 _ _ (shown a) is_length (λ x r q k. search rules) (λ x b k. search rules) chunks c.all.result run.2 in
    all-told has_length (triples (shown a)) no_triple c.all.result (
      λ e i h. third a (omega arith) i (omega arith) ∙ (sym (ap is_length (get_or-take a.count a.items (i * 3 + 2) (pos 0) (omega arith))) ∙ there.0 e i (omega arith)),
      λ f. there.1 (λ i h. ap is_length (get_or-take a.count a.items (i * 3 + 2) (pos 0) (omega arith)) ∙ (sym (third a (omega arith) i (omega arith)) ∙ f i (omega arith))),
    )
