-- The source gives the triples of the cut length, and lasts as long as they do.
use mathlib.Core.Path.{◌≡◌, sym, ap, subst, ◌∙◌}
use Prim.Native.Nat.{◌≤◌, ◌^◌, min}
use native.Mathlib.Omega.{arith}
use Rattle.budget.specs.Budgets.{step_budget}
use Rattle.offers.specs.declared.Source.{Source}
use Rattle.offers.specs.Pieces.{total}
use Rattle.offers.specs.Waves.{triples, triples_of}
use Rattle.offers.specs.Sources.{Runs}
use Rattle.offers.proofs.Taming.{runs}
use Rattle.writing.specs.Waves.{cut_by}
use Rattle.writing.proofs.Writes.{wave-gives}
use Rattle.writing.proofs.wave_figure.Goals as goal

pub returns : goal.returns
returns c =
    let ts = triples c.args.numbers.now in
    let steps : c.min-steps.result ≡ min c.args.n (step_budget c.args.b) = c.min-steps.ensures ∙ ap (min c.args.n) (c.from-limit.ensures ∙ c.safe_iteration_limit.ensures) in
    let few : c.min-steps.result ≤ 2 ^ 24 = let m = c.requires.1 in omega arith in
    let gives = wave-gives c.args.mode ts c.min-steps.result c.start_source.ensures in (
      record {
        asked = subst (λ (x : Source). Runs x ts) (sym c.start_source.ensures) (runs ts c.min-steps.result c.requires.0.tame c.requires.0.few few c.args.mode);
        long = c.wave_long.ensures ∙ sym (ap total gives);
      },
      gives ∙ ap (triples_of c.args.mode ts) steps,
      c.is_cut.ensures ∙ ap (cut_by c.args.mode c.args.n) (c.from-limit.ensures ∙ c.safe_iteration_limit.ensures),
    )
