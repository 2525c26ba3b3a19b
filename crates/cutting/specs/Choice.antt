-- 01, "Defaults" and "The cut": what counts is the last event of a list.
use Rattle.std.specs.Prelude.{Bool, cond, List, [], ◌∷◌}
use Rattle.events.specs.declared.Event.{Event}

-- what `f` says of the last event of which p holds, or d
abbrev pub last_of : {A : Type 0} → (Event → Bool) → (Event → A) → A → List Event → A
last_of p f d [] = d
last_of p f d (e ∷ es) = last_of p f (cond (p e) (f e) d) es
