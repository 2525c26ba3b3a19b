use mathlib.Core.Path.{◌≡◌, sym, ap, subst, ◌∙◌}
use mir.Syntax.{w32}
use mir.Val.{SFits}
use mir.Facts.{to_z-of_z}
use Rattle.budget.specs.Budgets.{step_budget}
use Rattle.counted.specs.Numbers.{shown}
use Rattle.values.specs.declared.Write.{Write}
use Rattle.values.specs.Value.{Ready}
use Rattle.offers.specs.declared.Mode.{Mode}
use Rattle.offers.specs.Waves.{triples}
use Rattle.writing.specs.Waves.{cut_by, wave_triples}
use Rattle.drawing.specs.Write.{write_of}
use Rattle.drawing.proofs.Asking.{track-ready}
use Rattle.waving.specs.Drawings.{wave_drawing}
use Rattle.waving.proofs.Reserved.{wave-few, wave-fine}
use borrow.Author.Rules.{rules}
use Rattle.waving.proofs.wave_draft.Goals as goal

pub list_figure-requires : goal.list_figure-requires
list_figure-requires c =
    (wave-few c.args.e c.requires.1, wave-fine c.args.e c.requires.1, c.requires.2)

pub returns : goal.returns
unfolding wave_drawing
returns c =
    let A = c.args in
    let target : SFits w32 A.e.target = search rules in
    let asked : c.write_of.result ≡ write_of A.track A.e.target = c.write_of.ensures ∙ ap (write_of A.track) (to_z-of_z target) in
    let ts = triples (shown A.e.values) in
    let f = c.list_figure.ensures in
    record {
      able =
          record {
            ready = subst (λ (x : Write). Ready x) (sym asked) (track-ready A.track A.e.target c.requires.0);
            shaped = f.0;
            few = wave-few A.e c.requires.1;
          };
      write = asked;
      pieces = f.1 ∙ ap (λ (x : Mode). wave_triples A.b x ts A.n) c.mode_of.ensures;
      cut = f.2 ∙ ap (λ (x : Mode). cut_by x A.n (step_budget A.b)) c.mode_of.ensures;
    }
