-- A write's tests in their order, and what the call then answers and leaves.
--     Passed, passed     what 0 says of each test
--     asked-first        all that is asked before the events
--     asked-as           it may be asked by other tests; those of the numbers count only where the arguments' list is short
--     refused            a test refuses: its number, and everything as it was
--     track-well ..      what then holds of what was handed in
--     asked-draw         all that is asked before 7
--     first-well, events-well   what was asked first was passed, and the events' test
--     seven              and the refusal is 7 or none
--     tried              all are passed: what the write itself answers and leaves, 7 or not
--     tested             all but the events' test: what the write that tests them answers and leaves, 4, 7 or not
--     drawn-at           the same of an equal target
use mathlib.Core.Path.{◌≡◌, refl, sym, ◌∙◌, subst}
use mathlib.Core.Bool.{Bool, true, false, cond, ◌&&◌}
use mathlib.Core.List.{List}
use Prim.Native.Nat.{ℕ, ◌≤◌}
use native.Mathlib.Omega.{arith}
use borrow.Author.Tests.{ne_eqb}
use lib.Dec.{eqb}
use lib.IntN.{ℤ}
use lib.ListN.{length}
use Rattle.laws.specs.Rows.{flat}
use Rattle.laws.proofs.Ranges.{left, right}
use Rattle.numbers.specs.Ranges.{is_target}
use Rattle.budget.specs.Budgets.{ok_budget}
use Rattle.eventlist.specs.Rows.{numbers_of, rows_of, Whole}
use Rattle.eventlist.specs.Sound.{is_list, ok_events}
use Rattle.eventlist.proofs.EventRows.{determined, flat-rows_of}
use Rattle.eventlist.proofs.Sound.{list-whole, list-within}
use Rattle.values.specs.declared.Write.{Write}
use Rattle.values.specs.Value.{Ready}
use Rattle.writing.specs.declared.Outcome.{Outcome}
use Rattle.writing.specs.Calls.{outcome_of, rows_after}
use Rattle.writing.proofs.Writes.{Leaves, LeavesTested, passes, fails}
use Rattle.state.specs.Tests.{ok_track}
use Rattle.drawing.specs.Calls.{in_order, Draw, draw_write, draw_numbers, draw_lacks, draw_refusal, draw_answer, draw_left, Drawn}
use Rattle.drawing.proofs.Asking.{track-ready}

pub record Passed (list target short numbers : Bool) : Type 0 where
  pub list-well : list ≡ true
  pub target-well : target ≡ true
  pub short-well : short ≡ true
  pub numbers-well : numbers ≡ true

pub passed : (l t s n : Bool) → in_order l t s n 0 ≡ 0 → Passed l t s n
unfolding in_order
passed true true true true e = record { list-well = refl; target-well = refl; short-well = refl; numbers-well = refl }
passed true true true false e = absurd (omega arith)
passed true true false n e = absurd (omega arith)
passed true false s n e = absurd (omega arith)
passed false t s n e = absurd (omega arith)

same-order : (l t s : Bool) {s' u u' : Bool} → s' ≡ s → (s ≡ true → u ≡ u') → in_order l t s' u 0 ≡ in_order l t s u' 0
unfolding in_order
same-order l t true e f = rw (e, f refl)
same-order l t false e f = rw e

-- what comes after the first of the numbers' tests matters only where these are passed
further : (l t s u v : Bool) (k : ℕ) → (in_order l t s u 0 ≡ 0 → ⊥) → in_order l t s (u && v) k ≡ in_order l t s u 0
unfolding in_order
further true true true true v k h = absurd (h refl)
further true true true false v k h = refl
further true true false u v k h = refl
further true false s u v k h = refl
further false t s u v k h = refl

-- and there it is 4 or what comes after
rest : (l t s u v : Bool) (k : ℕ) → in_order l t s u 0 ≡ 0 → in_order l t s (u && v) k ≡ cond v k 4
unfolding in_order
rest true true true true v k e = refl
rest true true true false v k e = absurd (omega arith)
rest true true false u v k e = absurd (omega arith)
rest true false s u v k e = absurd (omega arith)
rest false t s u v k e = absurd (omega arith)

-- an answer that is chosen by 7 is chosen by the number; and so is a list, of which 7 leaves what was there
by-seven : {A : Type 0} (f : ℕ → A) (done : A) (t : Bool) {n : ℕ} → n ≡ cond t 7 0 → cond t (f 7) done ≡ cond (eqb n 0) done (f n)
by-seven f done true e = rw e
by-seven f done false e = rw e

left-by-seven : {A B : Type 0} (f : A → B) (t : Bool) (x y : A) {z : B} {n : ℕ} → f x ≡ z → n ≡ cond t 7 0 → f (cond t x y) ≡ cond (eqb n 0) (f y) z
left-by-seven f true x y h e = h ∙ rw e
left-by-seven f false x y h e = rw e

module _ (d : Draw) where
  abbrev list : Bool
  list = is_list d.events d.count

  abbrev target : Bool
  target = is_target d.target

  abbrev stored : Bool
  stored = ok_events d.store d.events d.count

  -- 4 is asked of the four together: the first three
  abbrev two : Bool
  two = ok_track d.track && ok_budget d.budget

  abbrev three : Bool
  three = two && d.allowed

  abbrev pub asked-first : ℕ
  asked-first = in_order list target d.short three 0

  abbrev pub asked-draw : ℕ
  asked-draw = in_order list target d.short (draw_numbers d) 0

  pub asked-as : {m : ℕ} (short usable : Bool) → m ≡ in_order list target short usable 0 → short ≡ d.short → (d.short ≡ true → usable ≡ three) → m ≡ asked-first
  asked-as short usable e s f = e ∙ same-order list target d.short s f

  abbrev given : ℕ → Outcome
  given n = record { code = n; count = d.count; budget = d.budget }

  as-given : {m : ℕ} → draw_refusal d ≡ m → (m ≡ 0 → ⊥) → Drawn d (given m) d.events
  unfolding draw_answer draw_left
  as-given {m} e h = record { answer = rw (e, ne_eqb m 0 h); left = rw (e, ne_eqb m 0 h) }

  pub refused : {m : ℕ} → m ≡ asked-first → (m ≡ 0 → ⊥) → Drawn d (given m) d.events
  unfolding draw_refusal
  refused e h = as-given (further list target d.short three stored (cond (draw_lacks d) 7 0) (λ z. h (e ∙ z)) ∙ sym e) h

  module _ (e : asked-first ≡ 0) where
    pub well : Passed list target d.short three
    well = passed list target d.short three e

    pub allowed-well : d.allowed ≡ true
    allowed-well = right two d.allowed well.numbers-well

    pub track-well : ok_track d.track ≡ true
    track-well = left (ok_track d.track) (ok_budget d.budget) (left two d.allowed well.numbers-well)

    pub budget-well : ok_budget d.budget ≡ true
    budget-well = right (ok_track d.track) (ok_budget d.budget) (left two d.allowed well.numbers-well)

    pub ready-draw : {w : Write} → w ≡ draw_write d → Ready w
    ready-draw q = subst (λ (w : Write). Ready w) (sym q) (track-ready d.track d.target track-well)

    pub count-well : d.count ≤ length (rows_of d.events)
    count-well = list-within d.events d.count well.list-well

    whole : Whole d.events
    whole = list-whole d.events d.count well.list-well

  module _ (e : asked-draw ≡ 0) where
    all-well : Passed list target d.short (draw_numbers d)
    all-well = passed list target d.short (draw_numbers d) e

    pub first-well : asked-first ≡ 0
    unfolding in_order
    first-well = rw (all-well.list-well, all-well.target-well, all-well.short-well, left three stored all-well.numbers-well)

    pub events-well : stored ≡ true
    events-well = right three stored all-well.numbers-well

    pub seven : draw_refusal d ≡ cond (draw_lacks d) 7 0
    unfolding draw_refusal in_order
    seven = rw (all-well.list-well, all-well.target-well, all-well.short-well, all-well.numbers-well)

  module _ (r : Outcome) (l : List ℤ) (same : length l ≡ length d.events) where
    told : asked-draw ≡ 0 → Leaves (draw_write d) d.budget (rows_of d.events) d.count r (rows_of l) d.pieces → Drawn d r l
    unfolding draw_answer draw_left outcome_of rows_after
    told e h =
        let w = whole (first-well e) in
        record {
          answer = h.0 ∙ by-seven given _ (draw_lacks d) (seven e);
          left = determined d.events l _ w same h.1 ∙ left-by-seven (flat numbers_of) (draw_lacks d) _ _ (flat-rows_of d.events w) (seven e);
        }

    pub tried : asked-draw ≡ 0 → {w : Write} → w ≡ draw_write d → Leaves w d.budget (rows_of d.events) d.count r (rows_of l) d.pieces → Drawn d r l
    tried e q h = told e (subst (λ (w : Write). Leaves w d.budget (rows_of d.events) d.count r (rows_of l) d.pieces) q h)

    module _ (e : asked-first ≡ 0) where
      four : stored ≡ false → draw_refusal d ≡ 4
      unfolding draw_refusal
      four f = rest list target d.short three stored (cond (draw_lacks d) 7 0) e ∙ rw f

      -- an event that may not be stored
      unstored : stored ≡ false → r ≡ given 4 → rows_of l ≡ rows_of d.events → Drawn d r l
      unstored f p q =
          let g = as-given (four f) (λ z. omega arith) in
          record { answer = p ∙ g.answer; left = determined d.events l _ (whole e) same q ∙ flat-rows_of d.events (whole e) ∙ g.left }

      pub tested : {w : Write} → w ≡ draw_write d → LeavesTested d.store w d.budget d.events d.count r (rows_of l) d.pieces → Drawn d r l
      tested {w} q h = go stored refl
        where
          go : (t : Bool) → stored ≡ t → Drawn d r l
          go true ok =
              let p = passes d.store w d.budget d.events d.count d.pieces ok in
              tried (rest list target d.short three stored 0 e ∙ rw ok) q (h.0 ∙ p.0, h.1 ∙ p.1)
          go false bad =
              let p = fails d.store w d.budget d.events d.count d.pieces bad in
              unstored bad (h.0 ∙ p.0) (h.1 ∙ p.1)

-- a target that is told by other means
pub drawn-at : (f : ℤ → Draw) (r : Outcome) (l : List ℤ) {t u : ℤ} → t ≡ u → Drawn (f t) r l → Drawn (f u) r l
drawn-at f r l e h = subst (λ (z : ℤ). Drawn (f z) r l) e h
