use mathlib.Core.Logic.{⊎_elim}
use mathlib.Core.Path.{◌≡◌, sym, ap, ◌∙◌}
use Rattle.offers.specs.declared.Mode.{Mode}
use Rattle.offers.specs.Pieces.{total}
use Rattle.offers.specs.Waves.{triples, triples_of}
use Rattle.writing.proofs.Lasting.{lasts-none, lasts-empty, lasts-normal, lasts-expand, lasts-repeat}
use Rattle.writing.proofs.wave_long.Goals as goal

pub returns-then-own-eq0 : goal.returns-then-own-eq0
returns-then-own-eq0 c =
    let ts = triples c.args.numbers.now in
    c.total_of-own.ensures
    ∙ ⊎_elim (λ n. lasts-none c.args.mode ts c.args.n n) (λ w. lasts-empty c.args.mode ts c.args.n w.0 (sym c.total_of-own.ensures ∙ w.1)) c.if-own-eq0.either

pub returns-in-Normal : goal.returns-in-Normal
returns-in-Normal c =
    c.total_of-own.ensures ∙ lasts-normal (triples c.args.numbers.now) c.args.n ∙ sym (ap (λ (m : Mode). total (triples_of m (triples c.args.numbers.now) c.args.n)) c.in-Normal.is)

pub returns-in-Expand : goal.returns-in-Expand
returns-in-Expand c =
    let ts = triples c.args.numbers.now in
    let own : total ts ≡ 0 → ⊥ = λ q. c.if-own-eq0.false.1 (c.total_of-own.ensures ∙ q) in
    ⊎_elim
    (λ m. lasts-expand ts c.args.n c.if-own-eq0.false.0 own ∙ sym (ap (λ (m : Mode). total (triples_of m ts c.args.n)) m))
    (λ m. lasts-repeat ts c.args.n c.if-own-eq0.false.0 own ∙ sym (ap (λ (m : Mode). total (triples_of m ts c.args.n)) m))
    c.in-Expand.is
