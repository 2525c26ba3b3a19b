-- A series of lent calls is a series of calls by value. An accepted call was lent sixteen records (`sixteen`), and where sixteen are lent the
-- contract leaves one outcome, that of the call by value (`answer-same`, `left-same`). Where other than sixteen are lent, every call
-- answers 1 and leaves all that was lent (`stuck`). To given times there is one series (`admitted`, `determined`).
use mathlib.Core.Path.{◌≡◌, refl, sym, ap, ap₂, subst, ◌∙◌}
use mathlib.Core.Bool.{Bool, true, false, cond, ◌&&◌, true≢false}
use mathlib.Core.List.{List, [], ◌∷◌}
use Prim.Native.Nat.{ℕ}
use native.Mathlib.Omega.{arith}
use borrow.Author.Tests.{eqb-true, eq-eqb, ne_eqb}
use lib.Dec.{eqb, ltb}
use lib.IntN.{ℤ}
use lib.ListN.{length, drop, length-append, length-take, length-drop}
use Rattle.laws.proofs.Ranges.{right}
use Rattle.numbers.specs.Limits.{places}
use Rattle.numbers.specs.Ranges.{is_time}
use Rattle.budget.specs.declared.Budget.{Budget}
use Rattle.budget.specs.Budgets.{ok_budget}
use Rattle.eventlist.specs.Rows.{rows_of, events_of}
use Rattle.eventlist.specs.Sound.{is_list}
use Rattle.cycles.specs.declared.Cycle.{Cycle}
use Rattle.state.specs.declared.Track.{Track}
use Rattle.state.specs.Tests.{ok_lent}
use Rattle.cycling.specs.declared.Cycled.{Cycled}
use Rattle.cycling.specs.Calls.{left_by, in_order, cycle_refusal, cycled_of, cycled_list}
use Rattle.cycling.specs.Series as value
use Rattle.cycling.specs.Series.{Lent, answer_to, left_to, after}
use Rattle.cycling.proofs.Refusing.{passed-1, refused}
use Rattle.cycling.proofs.Calling.{unmoved, left, left-long, cycles-next}
use Rattle.lending.specs.declared.Answer.{Answer}
use Rattle.series.specs.Calls.{Call, Contract, Series, call_to, calls_to, last, untils, Each, Accepted}

same-lent : (s s' : Lent) → s.cycles ≡ s'.cycles → s.budget ≡ s'.budget → s.list ≡ s'.list → s.count ≡ s'.count → s ≡ s'
same-lent s s' p q r t =
    ap₂ (λ (x : List Cycle) (b : Budget). record { cycles = x; budget = b; list = s.list; count = s.count }) p q
    ∙ ap₂ (λ (l : List ℤ) (n : ℕ). record { cycles = s'.cycles; budget = s'.budget; list = l; count = n }) r t

-- ---- the contract leaves one outcome

module _ (a : Track) where
  pub untils-are : (us : List ℤ) (s : Lent) → untils (calls_to a us s) ≡ us
  unfolding calls_to
  untils-are [] s = refl
  untils-are (u ∷ us) s = ap (λ (vs : List ℤ). u ∷ vs) (untils-are us (call_to a u s).hands)

  pub admitted : (us : List ℤ) (s : Lent) → Series a (calls_to a us s) s
  unfolding calls_to Series
  admitted [] s = tt
  admitted (u ∷ us) s = (record { answer = refl; cycles = refl; budget = refl; list = refl; count = refl }, admitted us (call_to a u s).hands)

  only_one : (c : Call) (s : Lent) → Contract a s c → c ≡ call_to a c.until s
  only_one c s k =
      ap₂ (λ (r : Answer) (x : Lent). record { until = c.until; answer = r; hands = x }) k.answer
      (same-lent c.hands (call_to a c.until s).hands k.cycles k.budget k.list (k.count ∙ ap (λ (r : Answer). r.count) k.answer))

  pub determined : (cs : List Call) (s : Lent) → Series a cs s → cs ≡ calls_to a (untils cs) s
  unfolding calls_to Series
  determined [] s k = refl
  determined (c ∷ cs) s k =
      let e = only_one c s k.0 in
      ap₂ (λ (d : Call) (ds : List Call). d ∷ ds) e (determined cs c.hands k.1 ∙ ap (λ (d : Call). calls_to a (untils cs) d.hands) e)

-- ---- the number, of any number of records

chosen : (n : ℕ) (x y : Cycled) → x.code ≡ 0 → y.code ≡ n → (cond (eqb n 0) x y).code ≡ n
chosen n x y p q = go (eqb n 0) refl
  where
    go : (t : Bool) → eqb n 0 ≡ t → (cond t x y).code ≡ n
    go true e = p ∙ sym (eqb-true n 0 e)
    go false e = q

module _ (a : Track) (size : ℕ) (cs : List Cycle) (u : ℤ) (b : Budget) (l : List ℤ) (count : ℕ) where
  abbrev code : ℕ
  code = cycle_refusal a size cs u b l count

  code_is : (cycled_of a size cs u b l count).code ≡ code
  unfolding cycled_of
  code_is = chosen code _ _ refl refl

  abbrev allowed : Bool
  allowed = is_time u && ok_lent a cs && ok_budget b

  abbrev full : Bool
  full = ltb (length (rows_of l)) (length (left_by a cs u b (events_of l count)).events)

  whole : code ≡ 0 → size ≡ places
  unfolding cycle_refusal
  whole e = eqb-true size places (right (is_list l count) (eqb size places) (passed-1 (is_list l count && eqb size places) allowed full e))

  one : (size ≡ places → ⊥) → code ≡ 1
  unfolding cycle_refusal
  one h = rw (ne_eqb size places h) (go (is_list l count))
    where
      go : (t : Bool) → in_order (t && false) allowed full ≡ 1
      go true = refl
      go false = refl

-- ---- one call

module _ (a : Track) (s : Lent) (c : Call) (k : Contract a s c) where
  abbrev u : ℤ
  u = c.until

  sixteen : c.answer.code ≡ 0 → length s.cycles ≡ places
  sixteen e =
      whole a (length s.cycles) s.cycles u s.budget s.list s.count
      (sym (code_is a (length s.cycles) s.cycles u s.budget s.list s.count) ∙ sym (ap (λ (x : Answer). x.code) k.answer) ∙ e)

  module _ (e : length s.cycles ≡ places) where
    abbrev of : ℕ → Cycled
    of n = cycled_of a n s.cycles u s.budget s.list s.count

    answer-same : c.answer.code ≡ (answer_to a u s).code
    answer-same = ap (λ (x : Answer). x.code) k.answer ∙ ap (λ (n : ℕ). (of n).code) e

    left-same : c.hands ≡ left_to a u s
    left-same =
        same-lent c.hands (left_to a u s) (k.cycles ∙ ap (λ (n : ℕ). (of n).cycles) e) (k.budget ∙ ap (λ (n : ℕ). (of n).budget) e)
        (k.list ∙ ap (λ (n : ℕ). cycled_list a n s.cycles u s.budget s.list s.count) e)
        (k.count ∙ ap (λ (x : Answer). x.count) k.answer ∙ ap (λ (n : ℕ). (of n).count) e)

  module _ (h : length s.cycles ≡ places → ⊥) where
    not-sixteen : cycle_refusal a (length s.cycles) s.cycles u s.budget s.list s.count ≡ 1
    not-sixteen = one a (length s.cycles) s.cycles u s.budget s.list s.count h

    answer-one : c.answer.code ≡ 1
    answer-one = ap (λ (x : Answer). x.code) k.answer ∙ code_is a (length s.cycles) s.cycles u s.budget s.list s.count ∙ not-sixteen

    left-all : c.hands ≡ s
    left-all =
        let r = refused a (length s.cycles) s.cycles u s.budget s.list s.count (λ z. omega (arith, z, not-sixteen)) in
        same-lent c.hands s (k.cycles ∙ sym (ap (λ (x : Cycled). x.cycles) r.0)) (k.budget ∙ sym (ap (λ (x : Cycled). x.budget) r.0)) (k.list ∙ sym r.1)
        (k.count ∙ ap (λ (x : Answer). x.count) k.answer ∙ sym (ap (λ (x : Cycled). x.count) r.0))

-- a call by value leaves as many records as it was handed
length-kept : (a : Track) (u : ℤ) (s : Lent) → length (left_to a u s).cycles ≡ length s.cycles
length-kept a u s = go (eqb (answer_to a u s).code 0) refl
  where
    go : (t : Bool) → eqb (answer_to a u s).code 0 ≡ t → length (left_to a u s).cycles ≡ length s.cycles
    go true q =
        let e = eqb-true (answer_to a u s).code 0 q in
        ap length (cycles-next a u s e) ∙ length-append (left a u s e).table (drop a.cycles s.cycles)
        ∙ omega (arith, left-long a u s e, length-take a.cycles s.cycles, length-drop a.cycles s.cycles)
    go false q = ap (λ (x : Lent). length x.cycles) (unmoved a u s (λ z. true≢false (sym (eq-eqb (answer_to a u s).code 0 z) ∙ q)))

-- ---- the series

module _ (a : Track) where
  pub by_value : (cs : List Call) (s : Lent) → Series a cs s → Accepted cs → value.Accepted a (untils cs) s × (last cs s ≡ after a (untils cs) s)
  unfolding Series last Each value.Each after
  by_value [] s k ok = (tt, refl)
  by_value (c ∷ cs) s k ok =
      let e = sixteen a s c k.0 ok.0 in
      let l = left-same a s c k.0 e in
      let r = by_value cs c.hands k.1 ok.1 in
      ((sym (answer-same a s c k.0 e) ∙ ok.0, subst (λ (x : Lent). value.Accepted a (untils cs) x) l r.0), r.1 ∙ ap (after a (untils cs)) l)

  module _ (P : ℕ → Type 0) where
    -- of sixteen records, the numbers of the calls by value
    pub each_lent : (cs : List Call) (s : Lent) → length s.cycles ≡ places → Series a cs s → value.Each a P (untils cs) s → Each P cs
    unfolding Series Each value.Each
    each_lent [] s e k p = tt
    each_lent (c ∷ cs) s e k p =
        let l = left-same a s c k.0 e in (
          subst P (sym (answer-same a s c k.0 e)) p.0,
          each_lent cs c.hands (ap (λ (x : Lent). length x.cycles) l ∙ length-kept a c.until s ∙ e) k.1 (subst (λ (x : Lent). value.Each a P (untils cs) x) (sym l) p.1),
        )

    pub stuck : P 1 → (cs : List Call) (s : Lent) → (length s.cycles ≡ places → ⊥) → Series a cs s → Each P cs
    unfolding Series Each
    stuck p [] s h k = tt
    stuck p (c ∷ cs) s h k =
        let l = left-all a s c k.0 h in
        (subst P (sym (answer-one a s c k.0 h)) p, stuck p cs c.hands (λ e. h (sym (ap (λ (x : Lent). length x.cycles) l) ∙ e)) k.1)
