use mathlib.Core.Path.{◌≡◌, sym, ap, subst, ◌∙◌}
use native.Mathlib.Omega.{arith}
use lib.IntN.{pos}
use mir.Syntax.{w32, w64}
use mir.Val.{SFits, to_z, of_z}
use mir.Facts.{to_z-of_z}
use Rattle.budget.specs.declared.Budget.{Budget}
use Rattle.counted.specs.declared.Numbers.{Numbers}
use Rattle.counted.specs.Numbers.{shown}
use Rattle.sines.specs.Kinds.{sine_type}
use Rattle.sines.proofs.Named.{kind-told}
use Rattle.sines.specs.declared.SineType.{SineType}
use Rattle.values.specs.declared.Write.{Write}
use Rattle.values.specs.Value.{Ready}
use Rattle.offers.specs.Waves.{triples}
use Rattle.writing.specs.Sines.{sine_pieces}
use Rattle.tables.proofs.Sines.{sine-low, sine-high, sine-length, sine-times}
use Rattle.drawing.specs.Write.{write_of}
use Rattle.drawing.proofs.Asking.{track-ready}
use Rattle.waving.specs.Drawings.{sine_drawing}
use borrow.Author.Rules.{rules, sfits_of}
use Rattle.waving.proofs.sine_draft.Goals.{After-from_i-stype}
use Rattle.waving.proofs.sine_draft.Goals as goal

module _ (c : After-from_i-stype) where
  held : (to_z w32 (of_z w32 c.args.e.low) ≡ c.args.e.low) × (to_z w32 (of_z w32 c.args.e.high) ≡ c.args.e.high)
      × (to_z w32 (of_z w32 c.args.e.length) ≡ c.args.e.length) × (to_z w32 (of_z w32 c.args.e.times) ≡ c.args.e.times)
  held =
      let low : SFits w32 c.args.e.low = search rules in
      let high : SFits w32 c.args.e.high = search rules in
      let long : SFits w32 c.args.e.length = search rules in
      let times : SFits w32 c.args.e.times = search rules in
      (to_z-of_z low, to_z-of_z high, to_z-of_z long, to_z-of_z times)

pub sine_figure-requires : goal.sine_figure-requires
sine_figure-requires c =
    let e = c.args.e in
    let h = c.requires.1 in
    let f = held (goal.at.sine_figure-requires c).After-from_i-stype in
    (rw f.0 (sine-low e h), rw f.1 (sine-high e h), rw f.2 (sine-length e h), rw f.3 (sine-times e h))

pub returns : goal.returns
unfolding sine_drawing
returns c =
    let e = c.args.e in
    let f = held (goal.at.returns c).After-from_i-stype in
    let target : SFits w32 e.target = search rules in
    let asked : c.write_of.result ≡ write_of c.args.track e.target = c.write_of.ensures ∙ ap (write_of c.args.track) (to_z-of_z target) in
    let kind : c.from_i-stype.result ≡ sine_type (pos e.shape) = kind-told (to_z w64 (of_z w64 c.from.result)) c.from_i-stype.result c.from_i-stype.ensures ∙ ap sine_type (to_z-of_z {w = w64} (sfits_of c.from.type_inv) ∙ c.from.ensures) in
    let ts = triples (shown c.empty.result) in
    let p = c.sine_figure.ensures in
    λ (b : Budget).
    record {
      able =
          record {
            ready = subst (λ (x : Write). Ready x) (sym asked) (track-ready c.args.track e.target c.requires.0);
            shaped = (p.0 ts).0;
            few = let z = ap (λ (x : Numbers). x.count) c.empty.ensures in omega arith;
          };
      write = asked;
      pieces = (p.0 ts).1 ∙ rw (f.0, f.1, f.2, f.3) (ap (λ (x : SineType). sine_pieces x e.low e.high e.length e.times) kind);
      cut = p.1;
    }
