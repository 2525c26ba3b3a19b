-- Windows taken out of a list.
--     all_append      what none of them takes of two lists, one behind the other
--     at_once         windows taken out one after the other are windows taken out at once
use mathlib.Core.Path.{◌≡◌, refl, sym, ap, ◌∙◌}
use mathlib.Core.List.{List, [], ◌∷◌, ◌++◌}
use Prim.Native.Nat.{ℕ, ◌+◌, ◌-◌, ◌*◌, ◌≤◌, ◌<◌}
use native.Mathlib.Omega.{arith}
use lib.IntN.{ℤ}
use lib.ListN.{length, take, drop, length-drop, take-append-drop}
use lib.Seq.{ext_get_or, get_or-take, length-take-le, drop-append-le, take-append-le}
use Rattle.laws.specs.Lists.{any, without}
use Rattle.events.specs.declared.Event.{Event}
use Rattle.eventlist.specs.declared.Window.{Window}
use Rattle.eventlist.specs.Windows.{taken_by, taken_by_any}
use Rattle.eventlist.proofs.Clearing.{windows-more}
use Rattle.writing.proofs.Every.{without-append}
use Rattle.waving.specs.Passes.{without_all}

pub all_append : (ws : List Window) (a b : List Event) → without_all ws (a ++ b) ≡ without_all ws a ++ without_all ws b
unfolding without_all
all_append [] a b = refl
all_append (w ∷ ws) a b = ap (without_all ws) (without-append (taken_by w) a b) ∙ all_append ws (without (taken_by w) a) (without (taken_by w) b)

pub at_once : (ws : List Window) (es : List Event) → without_all ws es ≡ without (taken_by_any ws) es
unfolding without_all any
at_once [] es = sym (none es)
  where
    none : (l : List Event) → without (taken_by_any []) l ≡ l
    none [] = refl
    none (e ∷ l) = ap (λ (x : List Event). e ∷ x) (none l)
at_once (w ∷ ws) es = at_once ws (without (taken_by w) es) ∙ windows-more w ws es
