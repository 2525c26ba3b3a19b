-- 02, a), of the list as it stands: "the latest time before the cut counts, and among equal times the later in the list". What
-- counts in the full cut is defined by a sort; here the rule is said without one, and the promises are stated by it.
use Rattle.std.specs.Prelude.{Bool, true, not, ◌||◌, ◌≡◌, List, ◌∷◌, ◌++◌, ℤ}
use Rattle.std.specs.Int.Signed.{lt_z, le_z}
use Rattle.laws.specs.Lists.{all}
use Rattle.events.specs.declared.Event.{Event}
use Rattle.cutting.specs.Cuts.{kept_of, folded, whole}

-- `event` counts among those of a list of which p holds: none before it in the list is later, and each behind it is earlier
pub record Counts (p : Event → Bool) (es : List Event) : Type 0 where
  pub front : List Event
  pub event : Event
  pub behind : List Event
  pub splits : es ≡ front ++ (event ∷ behind)
  pub holds : p event ≡ true
  pub none-later : all (λ x. not (p x) || le_z x.time event.time) front ≡ true
  pub all-earlier : all (λ x. not (p x) || lt_z x.time event.time) behind ≡ true

-- 01, "Full cut (added)", before 02, a): "the last bend in list order before the cut", and so of the controllers and the program
abbrev pub former_cut : ℤ → List Event → List Event
former_cut at es = folded (whole at) es ++ kept_of (whole at) es
