-- The walk over the lent records is the cycle call. Where the call is refused no turn changes anything. Where it is not, before the
-- record at i all is as the call by value has it there (`Placed` of crate cycles), so that the tests of the next turn hold
-- (`tests-hold`) and its share is the next step (`from`).
use mathlib.Core.Path.{◌≡◌, refl, sym, ap, ap₂, subst, ◌∙◌}
use mathlib.Core.Bool.{Bool, true, false, cond, ◌&&◌, true≢false}
use mathlib.Core.List.{List, [], ◌∷◌, ◌++◌, append_assoc}
use Prim.Native.Nat.{ℕ, zero, suc, ◌+◌, ◌-◌, ◌/◌, ◌%◌, ◌≤◌, ◌<◌}
use native.Mathlib.Omega.{arith}
use native.Mathlib.Numerals.{add-one}
use borrow.Author.Tests.{ne_eqb, eqb-true, eq-eqb}
use lib.Dec.{eqb, leb, ltb}
use lib.IntN.{ℤ}
use lib.ListN.{length, set, get_or, take, drop, length-append, length-drop}
use lib.Seq.{drop-cons, take-suc-set, length-take-le}
use Rattle.laws.specs.Lists.{counted, put_first}
use Rattle.laws.specs.Rows.{flat}
use Rattle.laws.proofs.Rows.{length-flat}
use Rattle.laws.proofs.Firsts.{length-put_first}
use Rattle.numbers.specs.Limits.{places}
use Rattle.numbers.specs.Ranges.{is_time}
use Rattle.budget.specs.declared.Budget.{Budget}
use Rattle.budget.specs.Budgets.{ok_budget}
use Rattle.events.specs.declared.Event.{Event}
use Rattle.events.specs.Events.{zero_event}
use Rattle.eventlist.specs.Rows.{record_width, event_of, numbers_of, rows_of, events_of, Whole}
use Rattle.eventlist.specs.Sound.{is_list}
use Rattle.eventlist.proofs.EventRows.{determined, rows_of-flat, length-rows_of}
use Rattle.eventlist.proofs.Sound.{list-whole, list-within}
use Rattle.cycles.specs.declared.Called.{Called}
use Rattle.cycles.specs.declared.Cycle.{Cycle}
use Rattle.cycles.specs.declared.Ran.{Ran}
use Rattle.cycles.specs.declared.Round.{Round}
use Rattle.cycles.specs.Calls.{State, limit}
use Rattle.cycles.specs.Due.{leaves}
use Rattle.cycles.specs.Rules.{ok_cycle}
use Rattle.cycles.specs.Turns.{ask_for, called_of}
use Rattle.cycles.proofs.Keeping.{length-leaves}
use Rattle.cycles.proofs.Placing as P
use Rattle.state.specs.declared.Track.{Track}
use Rattle.state.specs.Tests.{ok_lent}
use Rattle.state.proofs.Lent.{lent-counted}
use Rattle.cycling.specs.declared.Cycled.{Cycled}
use Rattle.cycling.specs.Calls.{round_of, left_by, gains_of, in_order, cycle_refusal, quick_refusal, cycled_of, cycled_list}
use Rattle.cycling.proofs.Refusing.{quick, refused, listed, allowed, roomy, answer, list_left_lem, is-time, is-lent, sixteen}
use Rattle.cycling.proofs.Calling.{front}
use Rattle.lending.specs.declared.Going.{Going}
use Rattle.lending.specs.declared.Answer.{Answer}
use Rattle.lending.specs.declared.Went.{Went}
use Rattle.lending.specs.Passing.{ran, placed}
use Rattle.lending.specs.Moving.{no_cycles, loaded_of, past}
use Rattle.lending.specs.Writing.{made_by, may_go, orderly, share_of, share_events, went_list, Pass, pass_of, onward, advanced_by, begun_with, answer_of}
use Rattle.lending.proofs.Stepping as S

-- ---- turns that change nothing

module _ (round : Round) (p : Pass) (no : (c : Cycle) → may_go round c (length p.events) p.state ≡ false) where
  idle-state : (cs : List Cycle) → ran (onward round) p cs ≡ p
  unfolding ran
  idle-state [] = refl
  idle-state (c ∷ cs) =
      let e = S.stands round c p.events p.state (no c) in
      ap₂ (λ (w : Went) (l : List ℤ). ran (onward round) (pass_of w.going l) cs) (sym e.0) (sym e.1) ∙ idle-state cs

  idle-table : (cs : List Cycle) → placed (onward round) (advanced_by round) p cs ≡ cs
  unfolding placed
  idle-table [] = refl
  idle-table (c ∷ cs) =
      let e = S.stands round c p.events p.state (no c) in
      ap₂ (λ (w : Went) (l : List ℤ). w.cycle ∷ placed (onward round) (advanced_by round) (pass_of w.going l) cs) (sym e.0) (sym e.1)
      ∙ ap (λ (x : List Cycle). c ∷ x) (idle-table cs)

-- refused, or none of the track's records to come
idle_code : (round : Round) (c : Cycle) (long : ℕ) (s : Going) → (s.code ≡ 0 → ⊥) → may_go round c long s ≡ false
unfolding may_go orderly
idle_code round c long s h = rw (ne_eqb s.code 0 h)

idle-none : (round : Round) (c : Cycle) (long : ℕ) (s : Going) → s.code ≡ 0 → s.used ≡ 0 → may_go round c long s ≡ false
unfolding may_go orderly
idle-none round c long s h k = rw (h, k)

-- ---- the number

closed : (x : Bool) (q r q' r' : Bool) → in_order (x && false) q r ≡ in_order (x && false) q' r'
closed true q r q' r' = refl
closed false q r q' r' = refl

module _ (a : Track) (ys : List Cycle) (u : ℤ) (b : Budget) (l : List ℤ) (n : ℕ) where
  abbrev code : ℕ
  code = cycle_refusal a (length ys) ys u b l n

  numbered-by : (t : Bool) → eqb (length ys) places ≡ t → quick_refusal a (length ys) (cond t ys no_cycles) u b (length l) n ≡ quick_refusal a (length ys) ys u b (length l) n
  unfolding quick_refusal
  numbered-by true e = refl
  numbered-by false e = rw e
      (closed (eqb (length l % record_width) 0 && leb n (length l / record_width)) (is_time u && ok_lent a no_cycles && ok_budget b) (ltb (length l / record_width) (n + gains_of a no_cycles u b))
      (is_time u && ok_lent a ys && ok_budget b) (ltb (length l / record_width) (n + gains_of a ys u b)))

  -- asked of the loaded records, it is the number of the call
  numbered : (begun_with a (length ys) (loaded_of ys) u b (length l) n).code ≡ code
  unfolding begun_with loaded_of
  numbered = numbered-by (eqb (length ys) places) refl ∙ sym (quick a (length ys) ys u b l n)

  abbrev round : Round
  round = round_of a u

  abbrev begun : Pass
  begun = pass_of (begun_with a (length ys) (loaded_of ys) u b (length l) n) l

  -- what the walk leaves is what the call leaves
  abbrev Called' : Pass → List Cycle → Type 0
  Called' p zs =
      (◌≡◌ {A = Answer} (record { code = p.state.code; count = p.state.count }) (answer_of (cycled_of a (length ys) ys u b l n)))
      × (zs ≡ (cycled_of a (length ys) ys u b l n).cycles)
      × (p.state.budget ≡ (cycled_of a (length ys) ys u b l n).budget)
      × (p.events ≡ cycled_list a (length ys) ys u b l n)

  -- ---- refused

  module _ (h : code ≡ 0 → ⊥) where
    stopped : (c : Cycle) → may_go round c (length l) begun.state ≡ false
    stopped c = idle_code round c (length l) begun.state (λ z. h (sym numbered ∙ z))

    refused-walk : Called' (ran (onward round) begun ys) (placed (onward round) (advanced_by round) begun ys)
    unfolding begun_with
    refused-walk =
        let r = refused a (length ys) ys u b l n h in
        rw (idle-state round begun stopped ys, idle-table round begun stopped ys) (
          ap (λ (k : ℕ). record { code = k; count = n }) numbered ∙ ap answer_of r.0,
          ap (λ (c : Cycled). c.cycles) r.0,
          ap (λ (c : Cycled). c.budget) r.0,
          r.1,
        )

  -- ---- accepted

  module _ (z : code ≡ 0) where
    abbrev used : ℕ
    used = a.cycles

    abbrev rs : List Event
    rs = rows_of l

    abbrev end : State Event
    end = left_by a ys u b (events_of l n)

    tests : (is_time u && ok_lent a ys && ok_budget b) ≡ true
    tests = allowed a (length ys) ys u b l n z

    list : is_list l n ≡ true
    list = listed a (length ys) ys u b l n z

    time : is_time u ≡ true
    time = is-time a ys u b tests

    each : counted used places ok_cycle ys ≡ true
    each = lent-counted a ys (is-lent a ys u b tests)

    six : length ys ≡ places
    six = sixteen a (length ys) ys u b l n z

    fit : used ≤ length ys
    fit = omega (arith, P.within used ys each, six)

    room : n ≤ length rs
    room = list-within l n list

    enough : length (P.sofar round used ys b rs n used).events ≤ length rs
    enough = omega (arith, ap (λ (x : State Event). length x.events) (P.whole round used ys b rs n), roomy a (length ys) ys u b l n z)

    end-long : length end.table ≡ length (take used ys)
    end-long = ap (λ (x : State Event). length x.table) (P.whole round used ys b rs n) ∙ length-leaves (limit b) u (take used ys)

    abbrev going : ℕ → ℕ → Budget → ℕ → Going
    going k left' budget count = record { code = 0; used = k; left = left'; budget = budget; count = count }

    abbrev Placed : List Cycle → Budget → List ℤ → ℕ → ℕ → ℕ → Type 0
    Placed cycles budget li count left' i = P.Placed round used ys b rs n cycles budget (rows_of li) count left' i

    -- one turn
    module _ (cycles : List Cycle) (budget : Budget) (li : List ℤ) (count left' i : ℕ) (v : Placed cycles budget li count left' i) (long : length li ≡ length l) (less : i < used) (k : ℕ) where
      abbrev c : Cycle
      c = get_or ys i past

      abbrev s : Going
      s = going (suc k) left' budget count

      asked : (ok_cycle c ≡ true) × (is_time u ≡ true) × (count ≤ length (rows_of li)) × (length (share_events round c li s) ≤ length (rows_of li))
      asked =
          P.ready round used ys b rs n cycles budget (rows_of li) count left' i v less fit past c (ask_for round c.target) refl refl
          (P.well used ys i past each six less) time room enough

      tests-hold : may_go round c (length li) s ≡ true
      unfolding Whole
      tests-hold =
          let w = list-whole l n list in
          let r = length-rows_of li in
          let t = length-take-le count (rows_of li) asked.2 in
          let m = S.share-count (ask_for round c.target) (made_by round c left') c budget (events_of li count) in
          S.go round c (length li) s
          (record { accepted = refl; counts = omega arith; well = asked.0; timely = asked.1; whole = omega arith; within = omega (arith, asked.2) })
          (omega (arith, asked.3))

      abbrev li' : List ℤ
      li' = went_list round c li s

      abbrev share : Ran
      share = share_of round c li s

      rows' : rows_of li' ≡ put_first zero_event count (share_events round c li s) (rows_of li)
      rows' = ap rows_of (S.list-after round c li s tests-hold) ∙ rows_of-flat (put_first zero_event count (share_events round c li s) (rows_of li))

      long' : length li' ≡ length l
      unfolding Whole
      long' =
          let rows = put_first zero_event count (share_events round c li s) (rows_of li) in
          let m = length-put_first zero_event count (share_events round c li s) (rows_of li) asked.2 asked.3 in
          ap length (S.list-after round c li s tests-hold)
          ∙ length-flat record_width event_of numbers_of (λ r. refl) rows
          ∙ omega (arith, m, length-rows_of li, list-whole l n list, long, length-rows_of l)

      v' : Placed (set cycles i share.cycle) share.budget li' share.count (left' - share.made) (i + 1)
      v' = P.next round used ys b rs n cycles budget (rows_of li) count left' i v less fit past (rows_of li') rows'

      abbrev after' : Pass
      after' = pass_of (going k (left' - share.made) share.budget share.count) li'

      turns : onward round (pass_of s li) c ≡ after'
      turns =
          let e : suc k - 1 ≡ k = omega arith in
          ap (λ (w : Went). pass_of w.going li') (S.steps round c li s tests-hold) ∙ ap (λ (j : ℕ). pass_of (going j (left' - share.made) share.budget share.count) li') e

      puts : advanced_by round (pass_of s li) c ≡ share.cycle
      puts = ap (λ (w : Went). w.cycle) (S.steps round c li s tests-hold)

      rest : drop i ys ≡ c ∷ drop (i + 1) ys
      rest = rw add-one (drop-cons ys i past (omega (arith, fit)))

      runs_on : ran (onward round) (pass_of s li) (drop i ys) ≡ ran (onward round) after' (drop (i + 1) ys)
      unfolding ran
      runs_on = ap (ran (onward round) (pass_of s li)) rest ∙ ap (λ (p : Pass). ran (onward round) p (drop (i + 1) ys)) turns

      there : i < length cycles
      there =
          let e = ap length v.places ∙ length-append (leaves (limit b) u (take i ys)) (drop i ys) in
          omega (arith, e, length-leaves (limit b) u (take i ys), length-take-le i ys (omega (arith, fit)), length-drop i ys, fit)

      top : take (i + 1) (set cycles i share.cycle) ≡ take i cycles ++ (share.cycle ∷ [])
      top = rw add-one (take-suc-set cycles i share.cycle there)

      puts-on : take i cycles ++ placed (onward round) (advanced_by round) (pass_of s li) (drop i ys)
          ≡ take (i + 1) (set cycles i share.cycle) ++ placed (onward round) (advanced_by round) after' (drop (i + 1) ys)
      unfolding placed
      puts-on =
          ap (λ (x : List Cycle). take i cycles ++ placed (onward round) (advanced_by round) (pass_of s li) x) rest
          ∙ ap₂ (λ (x : Cycle) (p : Pass). take i cycles ++ x ∷ placed (onward round) (advanced_by round) p (drop (i + 1) ys)) puts turns
          ∙ sym (append_assoc (take i cycles) (share.cycle ∷ []) (placed (onward round) (advanced_by round) after' (drop (i + 1) ys)))
          ∙ ap (λ (x : List Cycle). x ++ placed (onward round) (advanced_by round) after' (drop (i + 1) ys)) (sym top)

    -- what is there once none is left
    record Ended (p : Pass) : Type 0 where
      code' : p.state.code ≡ 0
      count' : p.state.count ≡ length end.events
      budget' : p.state.budget ≡ end.budget
      list' : p.events ≡ flat numbers_of (put_first zero_event n end.events rs)

    module _ (cycles : List Cycle) (budget : Budget) (li : List ℤ) (count left' i : ℕ) (v : Placed cycles budget li count left' i) (long : length li ≡ length l) (past' : i ≡ used) where
      abbrev over : Pass
      over = pass_of (going 0 left' budget count) li

      idle : (c : Cycle) → may_go round c (length li) over.state ≡ false
      idle c = idle-none round c (length li) over.state refl refl

      called : (◌≡◌ {A = Called} (record { table = cycles; budget = budget; count = count }) (called_of round used ys b (take n rs))) × (rows_of li ≡ put_first zero_event n end.events rs)
      called = P.ended round used ys b rs n cycles budget (rows_of li) count left' i v (omega arith)

      ended : Ended (ran (onward round) over (drop i ys))
      unfolding called_of
      ended =
          subst (λ (p : Pass). Ended p) (sym (idle-state round over idle (drop i ys)))
          (record {
            code' = refl;
            count' = ap (λ (x : Called). x.count) called.0;
            budget' = ap (λ (x : Called). x.budget) called.0;
            list' = determined l li (put_first zero_event n end.events rs) (list-whole l n list) long called.1;
          })

      ended-table : take i cycles ++ placed (onward round) (advanced_by round) over (drop i ys) ≡ end.table ++ drop used ys
      unfolding called_of
      ended-table =
          ap (λ (x : List Cycle). take i cycles ++ x) (idle-table round over idle (drop i ys))
          ∙ ap₂ (λ (j : ℕ) (x : List Cycle). take j x ++ drop j ys) past' (ap (λ (x : Called). x.table) called.0)
          ∙ ap (λ (x : List Cycle). x ++ drop used ys) (front used ys end.table end-long)

    from : (k i : ℕ) → i + k ≡ used → (cycles : List Cycle) (budget : Budget) (li : List ℤ) (count left' : ℕ) → Placed cycles budget li count left' i → length li ≡ length l
        → Ended (ran (onward round) (pass_of (going k left' budget count) li) (drop i ys))
        × (take i cycles ++ placed (onward round) (advanced_by round) (pass_of (going k left' budget count) li) (drop i ys) ≡ end.table ++ drop used ys)
    from zero i e cycles budget li count left' v long =
        (ended cycles budget li count left' i v long (omega arith), ended-table cycles budget li count left' i v long (omega arith))
    from (suc k) i e cycles budget li count left' v long =
        let less : i < used = omega arith in
        let x = share cycles budget li count left' i v long less k in
        let ih = from k (i + 1) (omega arith) (set cycles i x.cycle) x.budget (li' cycles budget li count left' i v long less k) x.count (left' - x.made) (v' cycles budget li count left' i v long less k) (long' cycles budget li count left' i v long less k) in
        (subst (λ (p : Pass). Ended p) (sym (runs_on cycles budget li count left' i v long less k)) ih.0, puts-on cycles budget li count left' i v long less k ∙ ih.1)

    begins : begun ≡ pass_of (going used (limit b) b n) l
    unfolding begun_with
    begins = ap (λ (k : ℕ). pass_of (record { code = k; used = used; left = limit b; budget = b; count = n }) l) (unfold begun_with in numbered ∙ z)

    accepted-walk : Called' (ran (onward round) begun ys) (placed (onward round) (advanced_by round) begun ys)
    accepted-walk =
        let w = from used 0 (omega arith) ys b l n (limit b) (P.begun round used ys b rs n room) refl in
        let r = answer a (length ys) ys u b l n z in
        rw (begins, r, list_left_lem a (length ys) ys u b l n z) (
          ap₂ (λ (k m : ℕ). record { code = k; count = m }) w.0.code' w.0.count',
          w.1,
          w.0.budget',
          w.0.list',
        )

  -- either way
  walked : Called' (ran (onward round) begun ys) (placed (onward round) (advanced_by round) begun ys)
  walked = go (eqb code 0) refl
    where
      go : (t : Bool) → eqb code 0 ≡ t → Called' (ran (onward round) begun ys) (placed (onward round) (advanced_by round) begun ys)
      go true e = accepted-walk (eqb-true code 0 e)
      go false e = refused-walk (λ z. true≢false (sym (eq-eqb code 0 z) ∙ e))

  -- as the lent call has it: what it loaded, began with and asked, and what the walk left
  pub lent-call : (r1 : List Cycle) (ys1 : List Cycle) (r2 : Going) (r3 : Round) → r1 ≡ loaded_of ys → ys1 ≡ ys → r2 ≡ begun_with a (length ys) r1 u b (length l) n → r3 ≡ round_of a u
      → (r4 : Going) (ys4 : List Cycle) (l4 : List ℤ)
      → r4 ≡ (ran (onward r3) (pass_of r2 l) ys1).state → ys4 ≡ placed (onward r3) (advanced_by r3) (pass_of r2 l) ys1 → l4 ≡ (ran (onward r3) (pass_of r2 l) ys1).events
      → (◌≡◌ {A = Answer} (record { code = r4.code; count = r4.count }) (answer_of (cycled_of a (length ys) ys u b l n)))
      × (ys4 ≡ (cycled_of a (length ys) ys u b l n).cycles)
      × (r4.budget ≡ (cycled_of a (length ys) ys u b l n).budget)
      × (l4 ≡ cycled_list a (length ys) ys u b l n)
  lent-call r1 ys1 r2 r3 e1 f1 e2 e3 r4 ys4 l4 g h k =
      let w = walked in
      let p : pass_of r2 l ≡ begun = ap (λ (s : Going). pass_of s l) (e2 ∙ ap (λ (cs : List Cycle). begun_with a (length ys) cs u b (length l) n) e1) in
      let state : ran (onward r3) (pass_of r2 l) ys1 ≡ ran (onward round) begun ys = rw (e3, f1, p) in
      let table : placed (onward r3) (advanced_by r3) (pass_of r2 l) ys1 ≡ placed (onward round) (advanced_by round) begun ys = rw (e3, f1, p) in
      let s4 = g ∙ ap (λ (x : Pass). x.state) state in (
        ap (λ (s : Going). record { code = s.code; count = s.count }) s4 ∙ w.0,
        h ∙ table ∙ w.1,
        ap (λ (s : Going). s.budget) s4 ∙ w.2,
        k ∙ ap (λ (x : Pass). x.events) state ∙ w.3,
      )
