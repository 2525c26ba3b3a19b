-- What a call over pieces leaves, told of the pieces that it is over.
--     Leaves, LeavesTested    in a list whose events may be stored; in any, which is tested first
--     passes, fails           what the test decides
--     told_of_lem                 of equal pieces
use mathlib.Core.Path.{◌≡◌, ap, ◌∙◌, subst}
use mathlib.Core.Bool.{true, false}
use mathlib.Core.List.{List, [], ◌∷◌}
use Prim.Native.Nat.{ℕ}
use lib.IntN.{ℤ}
use Rattle.budget.specs.declared.Budget.{Budget}
use Rattle.events.specs.declared.Event.{Event}
use Rattle.eventlist.specs.Rows.{rows_of}
use Rattle.eventlist.specs.Sound.{ok_events}
use Rattle.values.specs.declared.Write.{Write}
use Rattle.offers.specs.declared.Piece.{Piece}
use Rattle.offers.specs.declared.Source.{Source}
use Rattle.offers.specs.declared.Mode.{Mode}
use Rattle.offers.specs.Waves.{triples_of}
use Rattle.offers.specs.Sources.{starting_at}
use Rattle.offers.proofs.Starting.{start_gives}
use Rattle.writing.specs.declared.Outcome.{Outcome}
use Rattle.writing.specs.declared.Origin.TheVariants.{Wave, Sine}
use Rattle.writing.specs.Origins.{pieces_of}
use Rattle.writing.specs.Calls.{outcome_for, rows_for, outcome_tested, rows_tested}

abbrev pub Leaves : Write → Budget → List Event → ℕ → Outcome → List Event → List Piece → Type 0
Leaves w b R count r R' ts = (r ≡ outcome_for w b ts R count) × (R' ≡ rows_for w b ts R count)

module _ (store : ℕ) (w : Write) (b : Budget) (l : List ℤ) (count : ℕ) where
  abbrev pub LeavesTested : Outcome → List Event → List Piece → Type 0
  LeavesTested r R ts = (r ≡ outcome_tested store w b ts l count) × (R ≡ rows_tested store w b ts l count)

  pub told_of_lem : (r : Outcome) (R : List Event) {ts us : List Piece} → ts ≡ us → LeavesTested r R ts → LeavesTested r R us
  told_of_lem r R e h = subst (λ (x : List Piece). LeavesTested r R x) e h

  module _ (ts : List Piece) where
    pub passes : ok_events store l count ≡ true → Leaves w b (rows_of l) count (outcome_tested store w b ts l count) (rows_tested store w b ts l count) ts
    unfolding outcome_tested rows_tested
    passes e = (rw e, rw e)

    pub fails : ok_events store l count ≡ false → (outcome_tested store w b ts l count ≡ record { code = 4; count = count; budget = b }) × (rows_tested store w b ts l count ≡ rows_of l)
    unfolding outcome_tested rows_tested
    fails e = (rw e, rw e)

-- a started source gives its mode's triples
pub wave-gives : (m : Mode) (ts : List Piece) (n : ℕ) {s : Source} → s ≡ starting_at m ts n → pieces_of ts (Wave s) ≡ triples_of m ts n
unfolding pieces_of
wave-gives m ts n e = ap (λ (x : Source). pieces_of ts (Wave x)) e ∙ start_gives m ts n

pub sine-gives : (ts : List Piece) (t : Piece) {p : Piece} → p ≡ t → pieces_of ts (Sine p) ≡ t ∷ []
unfolding pieces_of
sine-gives ts t e = ap (λ (x : Piece). x ∷ []) e
