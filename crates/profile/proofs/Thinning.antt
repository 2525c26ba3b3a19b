-- Dropping in one pass: what is dropped of a list, where each event is asked with all that stand behind it, leaves what two passes leave, the first
-- dropping what the player does not accept. A twin of an accepted event is accepted, so the first pass takes no twin away.
use mathlib.Core.Bool.{Bool, true, false, not, ◌||◌}
use mathlib.Core.Path.{◌≡◌, refl}
use mathlib.Core.List.{List, [], ◌∷◌}
use Rattle.laws.specs.Lists.{any, unless, only, thinned}
use Rattle.laws.proofs.Doubles.{any-only}
use Rattle.events.specs.declared.Event.{Event}
use Rattle.profile.specs.Profile.{accepts, twins, last_ones}
use Rattle.profile.specs.Steps.{dropped}
use Rattle.profile.proofs.Twins.{twin-accepted}

pub thin_is : (es : List Event) → thinned dropped es ≡ last_ones (only accepts es)
thin_is [] = refl
thin_is (x ∷ es) = go (accepts x) refl (thin_is es)
  where
    go : (t : Bool) → accepts x ≡ t → thinned dropped es ≡ last_ones (only accepts es)
        → unless (not t || any (twins x) es) x (thinned dropped es) ≡ last_ones (unless (not t) x (only accepts es))
    go true q ih = rw (any-only (twins x) accepts (λ e. twin-accepted x e q) es, ih)
    go false q ih = ih
