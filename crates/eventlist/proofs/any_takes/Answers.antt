-- `any_takes` meets its contract: the library's word for some element is ours.
use Rattle.std.proofs.Common.{rules, tests, ◌≡◌, refl, ap, ◌∙◌, Bool, ◌||◌, List, [], ◌∷◌}
use Rattle.std.proofs.lemmas.Iterator.{YieldsList-from_slice}
use Rattle.std.proofs.lemmas.Iterator.Search.{any_from_yields_List}
use Rattle.std.specs.List.{list_any}
use Rattle.laws.specs.Lists.{any}
use Rattle.eventlist.specs.declared.Window.{Window}
use Rattle.eventlist.specs.Windows.{taken_by}
use Rattle.eventlist.proofs.any_takes.Goals as goal

same : (p : Window → Bool) (ws : List Window) → list_any p ws ≡ any p ws
unfolding any
same p [] = refl
same p (w ∷ ws) = ap (λ (t : Bool). p w || t) (same p ws)

pub returns : goal.returns
returns c =
    any_from_yields_List (λ (w : Window). taken_by w c.args.e) _ _ _ c.any.ensures.ran (YieldsList-from_slice c.args.windows.now cc) (λ x b q k. search (rules, tests))
    ∙ same (λ w. taken_by w c.args.e) c.args.windows.now
