-- A table's lists, one after the other: of the first i what they have become stands in front, their events are gathered, and what
-- is left of the run is the run over the rest (`Walking`).
--     begun, passed_over, wrote   the start, a list without a value, one whose write fits
--     lost, ended                 the answers: at the first write that does not fit, and after the last list
use Rattle.std.proofs.Common.{rules}
use Rattle.std.specs.Prelude.{Option, Some, None}
use mathlib.Core.Path.{◌≡◌, refl, sym, ap, ap₂, ◌∙◌}
use mathlib.Core.Bool.{Bool, true, false, cond}
use mathlib.Core.List.{List, [], ◌∷◌, ◌++◌, append-nil, append_assoc}
use Prim.Native.Nat.{ℕ, suc, ◌+◌, ◌-◌, ◌≤◌, ◌<◌, max}
use native.Mathlib.Omega.{arith}
use native.Mathlib.Numerals.{add-one}
use lib.ListN.{length, take, drop, set, get_or, replicate, length-append, length-drop, length-replicate, take-append-drop, drop_of_length-le}
use lib.Seq.{drop-cons, get_or-take, length-take-le, set-get_or, drop-append-le}
use Rattle.laws.specs.Lists.{put_first}
use Rattle.laws.proofs.Reading.{read_behind, set-behind}
use Rattle.numbers.specs.Limits.{places, value_bytes}
use Rattle.budget.specs.declared.Budget.{Budget}
use Rattle.budget.specs.Budgets.{fits}
use Rattle.events.specs.declared.Event.{Event}
use Rattle.events.specs.Events.{zero_event}
use Rattle.values.specs.declared.WriteOption.{WriteOption}
use Rattle.values.specs.declared.Wrote.{Wrote}
use Rattle.values.specs.Value.{wrote_of}
use Rattle.cycles.specs.Turns.{option_of}
use Rattle.tables.specs.declared.OnNoteValues.{OnNoteValues}
use Rattle.tables.specs.declared.NoteTable.{NoteTable}
use Rattle.tables.specs.Tables.{no_note}
use Rattle.noting.specs.declared.Onset.{Onset}
use Rattle.noting.specs.declared.Stepped.{Stepped}
use Rattle.noting.specs.declared.Played.{Played}
use Rattle.noting.specs.Lists.{silent, advanced}
use Rattle.noting.specs.Runs.{Run, ran, behind, wrote_at, step_of, run, gathered_in, ran_of}

-- as many put first as there were
pub put_whole : {A : Type 0} (z : A) (n : ℕ) (now l : List A) → length now ≡ n → put_first z n now l ≡ now ++ drop n l
put_whole z n now l e =
    let a : n - length now ≡ 0 = omega arith in
    let b : max n (length now) ≡ n = omega arith in
    rw (a, b)

-- one more, gathered behind the others
gather-more : {A : Type 0} (z m : List A) (x d : A) → length m < length z → set (m ++ drop (length m) z) (length m) x ≡ (m ++ (x ∷ [])) ++ drop (length (m ++ (x ∷ []))) z
gather-more z m x d h =
    set-behind m z (length m) d refl h x ∙ ap (λ (k : ℕ). (m ++ (x ∷ [])) ++ drop k z) (sym (length-append m (x ∷ [])))

same_answer : {a a' : NoteTable} {b b' : Budget} {k k' : ℕ} {e e' : List Event} {l : Bool} → a ≡ a' → b ≡ b' → k ≡ k' → e ≡ e'
    → ◌≡◌ {A = Played} (record { notes = a; budget = b; made = k; events = e; lost = l }) (record { notes = a'; budget = b'; made = k'; events = e'; lost = l })
same_answer p q r s = rw (p, q, r, s)

-- what an event that is handed on, or none, says of the write
module _ {o : Option Event} (t : Bool) (written : Event) where
  none-lost : o ≡ None → o ≡ cond t (Some written) None → t ≡ false
  none-lost h e = go t e
    where
      go : (t : Bool) → o ≡ cond t (Some written) None → t ≡ false
      go true e = absurd (cc)
      go false e = refl

  module _ (event : Event) (h : o ≡ Some event) where
    some-fits : o ≡ cond t (Some written) None → t ≡ true
    some-fits e = go t e
      where
        go : (t : Bool) → o ≡ cond t (Some written) None → t ≡ true
        go true e = refl
        go false e = absurd (cc)

    some-event : o ≡ cond t (Some written) None → event ≡ written
    some-event e = go t e
      where
        go : (t : Bool) → o ≡ cond t (Some written) None → event ≡ written
        go true e = search rules
        go false e = absurd (cc)

behind-behind : (f g : List OnNoteValues) (m k : List Event) (r : Run) → behind f m (behind g k r) ≡ behind (f ++ g) (m ++ k) r
behind-behind f g m k r = rw (append_assoc f g r.lists, append_assoc m k r.events)

-- ---- the run over a list that begins with e, by what e and the budget say
module _ (options : List WriteOption) (at : Onset) (b : Budget) (e : OnNoteValues) (es : List OnNoteValues) where
  pub run-silent : silent e ≡ true → run options at b (e ∷ es) ≡ behind (e ∷ []) [] (run options at b es)
  unfolding run
  run-silent s = rw s

  module _ (s : silent e ≡ false) where
    pub run_fits : fits value_bytes b ≡ true
        → (let w = wrote_at (option_of options e.target) at b e in
        run options at b (e ∷ es) ≡ behind (advanced e ∷ []) (w.event ∷ []) (run options at w.budget es))
    unfolding run
    run_fits f = rw (s, f)

    pub run-lost : fits value_bytes b ≡ false → run options at b (e ∷ es) ≡ ran (e ∷ es) (wrote_at (option_of options e.target) at b e).budget [] true
    unfolding run
    run-lost f = rw (s, f)

module _ (options : List WriteOption) (at : Onset) (table : NoteTable) (b₀ : Budget) where
  abbrev t : List OnNoteValues
  t = table.items

  abbrev count : ℕ
  count = table.count

  abbrev used : List OnNoteValues
  used = take count t

  pub record Walking (notes : NoteTable) (events : List Event) (budget : Budget) (n i : ℕ) : Type 0 where
    pub front : List OnNoteValues
    pub made : List Event
    pub upto : i ≤ count
    pub passed : length front ≡ i
    pub few : length made ≤ i
    pub counted : n ≡ length made
    pub whole : notes.count ≡ count
    pub sofar : notes.items ≡ front ++ drop i t
    pub gathered : events ≡ gathered_in made
    pub rest : run options at b₀ used ≡ behind front made (run options at budget (drop i used))

  pub begun : Walking table (replicate places zero_event) b₀ 0 0
  begun =
      record {
        front = [];
        made = [];
        upto = omega arith;
        passed = refl;
        few = omega arith;
        counted = refl;
        whole = refl;
        sofar = refl;
        gathered = refl;
        rest = refl;
      }

  -- the answer, once the run's end is known
  settled : (ls : List OnNoteValues) (es : List Event) (budget : Budget) (over : Bool) (notes : NoteTable) (events : List Event) (n : ℕ)
      → run options at b₀ used ≡ ran ls budget es over → length ls ≡ count → notes.count ≡ count → notes.items ≡ ls ++ drop count t → events ≡ gathered_in es → n ≡ length es
      → record { notes = notes; budget = budget; made = n; events = events; lost = over } ≡ ran_of table (run options at b₀ used)
  unfolding ran_of
  settled ls es budget over notes events n r l c p g m =
      same_answer
      (ap₂ (λ (k : ℕ) (x : List OnNoteValues). record { count = k; items = x }) (c ∙ sym l) (p ∙ sym (put_whole no_note count ls t l)))
      refl
      m
      g
      ∙ ap (ran_of table) (sym r)

  module _ (fit : count ≤ length t) (notes : NoteTable) (events : List Event) (budget : Budget) (n i : ℕ) (v : Walking notes events budget n i) where
    short : count ≤ i → length used ≤ i
    short past = omega (arith, length-take-le count t fit)

    pub ended : count ≤ i → record { notes = notes; budget = budget; made = n; events = events; lost = false } ≡ ran_of table (run options at b₀ used)
    unfolding run
    ended past =
        let e : i ≡ count = omega (arith, v.upto) in
        let none : drop i used ≡ [] = drop_of_length-le used (short past) in
        let r : run options at b₀ used ≡ ran v.front budget v.made false =
        v.rest ∙ ap (λ (l : List OnNoteValues). behind v.front v.made (run options at budget l)) none
        ∙ ap₂ (λ (x : List OnNoteValues) (y : List Event). ran x budget y false) (append-nil v.front) (append-nil v.made) in
        settled v.front v.made budget false notes events n r (v.passed ∙ e) v.whole (v.sofar ∙ ap (λ (k : ℕ). v.front ++ drop k t) e) v.gathered v.counted

    module _ (less : i < count) (d : OnNoteValues) where
      abbrev x : OnNoteValues
      x = get_or notes.items i d

      pub x-is : x ≡ get_or t i d
      x-is = ap (λ (l : List OnNoteValues). get_or l i d) v.sofar ∙ read_behind v.front t i d v.passed (omega arith)

      next : drop i used ≡ x ∷ drop (i + 1) used
      next =
          let h : i < length used = rw (length-take-le count t fit) less in
          rw add-one (drop-cons used i d h ∙ ap (λ (e : OnNoteValues). e ∷ drop (suc i) used) (get_or-take count t i d less ∙ sym x-is))

      rest_at : run options at b₀ used ≡ behind v.front v.made (run options at budget (x ∷ drop (i + 1) used))
      rest_at = v.rest ∙ ap (λ (l : List OnNoteValues). behind v.front v.made (run options at budget l)) next

      more-passed : (y : OnNoteValues) → length (v.front ++ (y ∷ [])) ≡ i + 1
      more-passed y = length-append v.front (y ∷ []) ∙ omega (arith, v.passed)

      pub passed_over : silent x ≡ true → Walking notes events budget n (i + 1)
      passed_over s =
          record {
            front = v.front ++ (x ∷ []);
            made = v.made;
            upto = omega arith;
            passed = more-passed x;
            few = omega (arith, v.few);
            counted = v.counted;
            whole = v.whole;
            sofar = sym (set-get_or notes.items i d) ∙ ap (λ (l : List OnNoteValues). set l i x) v.sofar ∙ set-behind v.front t i d v.passed (omega arith) x;
            gathered = v.gathered;
            rest =
                rest_at
                ∙ ap (behind v.front v.made) (run-silent options at budget x (drop (i + 1) used) s)
                ∙ behind-behind v.front (x ∷ []) v.made [] (run options at budget (drop (i + 1) used))
                ∙ ap (λ (m : List Event). behind (v.front ++ (x ∷ [])) m (run options at budget (drop (i + 1) used))) (append-nil v.made);
          }

      module _ (s : silent x ≡ false) (r : Stepped) (option : WriteOption) (told : r ≡ step_of option at budget x) (own : option ≡ option_of options x.target) where
        stepped : r ≡ step_of (option_of options x.target) at budget x
        stepped = told ∙ ap (λ (o : WriteOption). step_of o at budget x) own

        abbrev w : Wrote
        w = wrote_at (option_of options x.target) at budget x

        fits-is : w.fits ≡ fits value_bytes budget
        unfolding wrote_at wrote_of
        fits-is = refl

        budget-is : r.budget ≡ w.budget
        unfolding step_of
        budget-is = ap (λ (y : Stepped). y.budget) stepped

        event-is : r.event ≡ cond w.fits (Some w.event) None
        unfolding step_of
        event-is = ap (λ (y : Stepped). y.event) stepped

        list-is : r.list ≡ cond w.fits (advanced x) x
        unfolding step_of
        list-is = ap (λ (y : Stepped). y.list) stepped

        -- the table with the list that the step leaves
        abbrev pub notes' : NoteTable
        notes' = record { count = notes.count; items = set notes.items i r.list }

        all_left : length (v.front ++ drop i used) ≡ count
        all_left = rw (length-append, length-drop) (omega (arith, v.passed, length-take-le count t fit))

        parted : v.front ++ drop i t ≡ (v.front ++ drop i used) ++ drop count t
        parted =
            let h : i ≤ length used = omega (arith, length-take-le count t fit) in
            ap (λ (l : List OnNoteValues). v.front ++ l) (ap (drop i) (sym (take-append-drop count t)) ∙ drop-append-le i used (drop count t) h)
            ∙ sym (append_assoc v.front (drop i used) (drop count t))

        pub lost : r.event ≡ None → record { notes = notes'; budget = r.budget; made = n; events = events; lost = true } ≡ ran_of table (run options at b₀ used)
        lost h =
            let f = none-lost w.fits w.event h event-is in
            let own-list : r.list ≡ x = list-is ∙ ap (λ (y : Bool). cond y (advanced x) x) f in
            let same : set notes.items i r.list ≡ notes.items = ap (λ (y : OnNoteValues). set notes.items i y) own-list ∙ set-get_or notes.items i d in
            let q : run options at b₀ used ≡ ran (v.front ++ drop i used) r.budget v.made true =
            rest_at
            ∙ ap (behind v.front v.made) (run-lost options at budget x (drop (i + 1) used) s (sym fits-is ∙ f))
            ∙ ap₂ (λ (l : List OnNoteValues) (m : List Event). ran (v.front ++ l) (wrote_at (option_of options x.target) at budget x).budget m true) (sym next) (append-nil v.made)
            ∙ ap (λ (y : Budget). ran (v.front ++ drop i used) y v.made true) (sym budget-is) in
            settled (v.front ++ drop i used) v.made r.budget true notes' events n q all_left v.whole (same ∙ v.sofar ∙ parted) v.gathered v.counted

        pub wrote : (event : Event) → r.event ≡ Some event → count ≤ places → Walking notes' (set events n event) r.budget (n + 1) (i + 1)
        wrote event h small =
            let f = some-fits w.fits w.event event h event-is in
            let same = some-event w.fits w.event event h event-is in
            let moved : r.list ≡ advanced x = list-is ∙ ap (λ (y : Bool). cond y (advanced x) x) f in
            record {
              front = v.front ++ (advanced x ∷ []);
              made = v.made ++ (event ∷ []);
              upto = omega arith;
              passed = more-passed (advanced x);
              few = rw length-append (omega (arith, v.few));
              counted = rw length-append (omega (arith, v.counted));
              whole = v.whole;
              sofar =
                  ap₂ (λ (l : List OnNoteValues) (y : OnNoteValues). set l i y) v.sofar moved
                  ∙ set-behind v.front t i d v.passed (omega arith) (advanced x);
              gathered =
                  ap₂ (λ (l : List Event) (k : ℕ). set l k event) v.gathered v.counted
                  ∙ gather-more (replicate places zero_event) v.made event zero_event
                  (omega (arith, length-replicate places zero_event, v.few));
              rest =
                  rest_at
                  ∙ ap (behind v.front v.made) (run_fits options at budget x (drop (i + 1) used) s (sym fits-is ∙ f))
                  ∙ behind-behind v.front (advanced x ∷ []) v.made ((wrote_at (option_of options x.target) at budget x).event ∷ []) (run options at (wrote_at (option_of options x.target) at budget x).budget (drop (i + 1) used))
                  ∙ ap₂ (λ (e : Event) (y : Budget). behind (v.front ++ (advanced x ∷ [])) (v.made ++ (e ∷ [])) (run options at y (drop (i + 1) used))) (sym same) (sym budget-is);
            }
