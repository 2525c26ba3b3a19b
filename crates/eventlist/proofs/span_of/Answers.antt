-- `span_of` meets its contract: the span covers the windows passed, and a widened one covers what it covered and one more.
use mathlib.Core.Path.{refl, sym, ap, ◌∙◌}
use native.Mathlib.Numerals.{add-one}
use lib.ListN.{get_or, take}
use lib.Seq.{take_all}
use Rattle.laws.specs.Lists.{all}
use Rattle.laws.proofs.Every.{all-imply}
use Rattle.laws.proofs.Tests.{all_more}
use lib.IntN.{pos}
use Rattle.eventlist.specs.declared.Window.{Window}
use Rattle.eventlist.specs.Clearing.{widened, covers}
use Rattle.eventlist.proofs.Spans.{widened-keeps, widened-has}
use Rattle.eventlist.proofs.span_of.Goals as goal

pub loop-w-init : goal.loop-w-init
unfolding all
loop-w-init c = refl

pub loop-w-preserved : goal.loop-w-preserved
loop-w-preserved c =
    let ws = c.args.windows.now in
    let none : Window = record { kind = pos 0; number = pos 0; start = pos 0; end = pos 0 } in
    let w : Window = get_or ws c.loop-w.w-index none in
    rw (c.widen-span.ensures, add-one)
    (all_more (covers (widened c.loop-w.span w)) ws c.loop-w.w-index none c.loop-w-test.true
    (all-imply (covers c.loop-w.span) (covers (widened c.loop-w.span w)) (widened-keeps c.loop-w.span w) (take c.loop-w.w-index ws) c.loop-w.invariant)
    (widened-has c.loop-w.span w))

pub returns : goal.returns
returns c =
    ap (all (covers c.loop-w.span)) (sym (take_all c.loop-w.w-index c.args.windows.now c.loop-w-test.false)) ∙ c.loop-w.invariant
