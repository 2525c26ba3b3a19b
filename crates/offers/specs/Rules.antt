-- What becomes of a list of offers: how a write treats each, as a rule, and the closed form of a whole run. Curves, waves and sines
-- differ only in the offers; targets, options and sizes only in the rule.
use Rattle.std.specs.Prelude.{Bool, true, not, cond, ◌&&◌, List, [], ◌∷◌, ◌++◌, ℕ, ◌+◌, ◌*◌, min, ltb, ℤ, pos, length, take}
use Rattle.std.specs.Int.Signed.{le_z}
use Rattle.laws.specs.Integers.{eq_z}
use Rattle.numbers.specs.Limits.{value_bytes}
use Rattle.budget.specs.declared.Budget.{Budget}
use Rattle.budget.specs.Budgets.{room}
use Rattle.events.specs.declared.Event.{Event}
use Rattle.values.specs.declared.Write.{Write}
use Rattle.values.specs.declared.Offer.{Offer}
use Rattle.values.specs.Value.{event_of_offer, next_seed}

-- how a write treats its offers
pub record Rule : Type 0 where
  -- random is on: an offer counts even where its value is the last one's
  pub all : Bool
  -- the bytes reserved at a time
  pub size : ℕ
  -- the events that an offer becomes, of the seed that has stepped
  pub events : Offer → ℕ → List Event
  -- the seed's step
  pub next : ℕ → ℕ

unfoldable pub rule_of : Write → Rule
rule_of w =
    record {
      all = not (le_z w.option.random (pos 0));
      size = value_bytes;
      events = λ (o : Offer) (y : ℕ). event_of_offer w o y ∷ [];
      next = next_seed w;
    }

-- ---- "with random off, a value equal to the last offered one, earlier triples included, is dropped"
-- any: something was offered before
abbrev pub same : Bool → Bool → ℤ → ℤ → Bool
same all any last v = not all && (any && eq_z last v)

unfoldable pub fresh : Bool → Bool → ℤ → List Offer → List Offer
fresh all any last [] = []
fresh all any last (o ∷ os) = cond (same all any last o.value) (fresh all any last os) (o ∷ fresh all true o.value os)

-- ---- what the others become, the seed stepping before each
abbrev pub joined : List (List Event) → List Event
joined [] = []
joined (es ∷ rest) = es ++ joined rest

unfoldable pub become : Rule → List Offer → ℕ → List (List Event)
become r [] y = []
become r (o ∷ os) y = r.events o (r.next y) ∷ become r os (r.next y)

-- what is written, there being room for n of them
abbrev pub written : Rule → ℕ → List Offer → ℕ → List Event
written r n os y = joined (take n (become r os y))

unfoldable pub seeds_after : Rule → List Offer → ℕ → ℕ
seeds_after r [] y = y
seeds_after r (o ∷ os) y = seeds_after r os (r.next y)

-- the budget after them: each steps the seed, those that fit are paid for, the first that does not fit sets the flag
unfoldable pub spent : Rule → Budget → List Offer → Budget
spent r b os =
    record {
      seed = seeds_after r os b.seed;
      maximum = b.maximum;
      used = b.used + r.size * min (room r.size b) (length os);
      over = cond (ltb (room r.size b) (length os)) 1 b.over;
    }

-- "if a triple outlasts the steps left, the flag is set"
abbrev pub flagged : Budget → Bool → Budget
flagged b t = record { seed = b.seed; maximum = b.maximum; used = b.used; over = cond t 1 b.over }
