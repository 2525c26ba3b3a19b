-- What a customer leans on, of every run, whatever the budget and the seed.
--     bytes      the bytes used rise by 8 for each event that is added
--     as-push    the events and the budget are those of the lists' due values, pushed up to the first that does not fit
--     each       with bytes enough each list that has a value writes exactly one event, in table order, and none is lost
--     lost-last  a lost write is the last: what comes before it is as if the table ended there, it and all after it stand still
--     flag       the flag is set where a write was lost, else as it was
--     in-time    each event's time is in the range of event times
--     refused    a refused call leaves all as it was given
use mathlib.Core.Path.{◌≡◌, refl, sym, ap, ◌∙◌}
use mathlib.Core.Bool.{Bool, true, false, cond, true≢false}
use mathlib.Core.List.{List, [], ◌∷◌, ◌++◌, map, append-nil, append_assoc}
use Prim.Native.Nat.{ℕ, zero, suc, ◌+◌, ◌*◌, ◌≤◌}
use native.Mathlib.Omega.{arith}
use borrow.Author.Tests.{ne_eqb, leb-true, leb-false}
use lib.Dec.{eqb}
use lib.IntN.{ℤ}
use lib.ListN.{length, length-map}
use Rattle.laws.specs.Lists.{all, unless, without}
use Rattle.numbers.specs.Limits.{value_bytes}
use Rattle.numbers.specs.Ranges.{is_time, is_length, is_event_time}
use Rattle.budget.specs.declared.Budget.{Budget}
use Rattle.budget.specs.Budgets.{free, fits, ok_budget}
use Rattle.budget.proofs.Spending.{keeps-ok}
use Rattle.events.specs.declared.Event.{Event}
use Rattle.eventlist.specs.Rows as rows
use Rattle.values.specs.declared.WriteOption.{WriteOption}
use Rattle.values.specs.Options.{ok_option}
use Rattle.values.specs.Value.{wrote_of}
use Rattle.values.proofs.Options.{option-at, option-delay}
use Rattle.values.proofs.Stored.{time-stored, in_reach}
use Rattle.cycles.specs.Due.{DueWrite, key}
use Rattle.cycles.specs.Calls.{State, Turn, wrote, push, events_of}
use Rattle.cycles.specs.Turns.{asked, offered, turn, option_of}
use Rattle.cycles.proofs.Series.{push-fits}
use Rattle.tables.specs.declared.OnNoteValues.{OnNoteValues}
use Rattle.state.specs.declared.Track.{Track}
use Rattle.noting.specs.declared.Onset.{Onset}
use Rattle.noting.specs.Lists.{silent, due_at, advanced}
use Rattle.noting.specs.Runs.{Run, ran, behind, wrote_at, run, kept, notes_put}
use Rattle.noting.specs.Calls.{run_of, with_notes, list_after, refusal, answer, noted, list_left}
use Rattle.noting.proofs.Walking.{run-silent, run_fits}
use Rattle.noting.proofs.Playing.{run-cases}

-- ---- one write and the budget
module _ (o : WriteOption) (at : Onset) (b : Budget) (e : OnNoteValues) where
  abbrev after : Budget
  after = (wrote_at o at b e).budget

  used-more : fits value_bytes b ≡ true → after.used ≡ b.used + value_bytes
  unfolding wrote_at wrote_of
  used-more f = rw f

  used-same : fits value_bytes b ≡ false → after.used ≡ b.used
  unfolding wrote_at wrote_of
  used-same f = rw f

  free-less : fits value_bytes b ≡ true → free after + value_bytes ≡ free b
  unfolding wrote_at wrote_of
  free-less f = let h = leb-true value_bytes (free b) f in rw f (omega arith)

  flag_same : fits value_bytes b ≡ true → after.over ≡ b.over
  unfolding wrote_at wrote_of
  flag_same f = rw f

  flag-set : fits value_bytes b ≡ false → after.over ≡ 1
  unfolding wrote_at wrote_of
  flag-set f = rw f

  ok-after : ok_budget b ≡ true → ok_budget after ≡ true
  unfolding wrote_at wrote_of ok_budget
  ok-after h = keeps-ok value_bytes (record { seed = after.seed; maximum = b.maximum; used = b.used; over = b.over }) h

module _ (options : List WriteOption) (at : Onset) where
  pub bytes : (b : Budget) (es : List OnNoteValues) → (run options at b es).budget.used ≡ b.used + value_bytes * length (run options at b es).events
  bytes =
      run-cases options at (λ b es r. r.budget.used ≡ b.used + value_bytes * length r.events)
      (λ b. omega arith)
      (λ b e es s h. h)
      (λ b e es s f h. omega (arith, h, used-more (option_of options e.target) at b e f))
      (λ b e es s f. omega (arith, used-same (option_of options e.target) at b e f))

  pub flag : (b : Budget) (es : List OnNoteValues) → (run options at b es).budget.over ≡ cond (run options at b es).lost 1 b.over
  flag =
      run-cases options at (λ b es r. r.budget.over ≡ cond r.lost 1 b.over)
      (λ b. refl)
      (λ b e es s h. h)
      (λ b e es s f h. h ∙ ap (λ (n : ℕ). cond (run options at (wrote_at (option_of options e.target) at b e).budget es).lost 1 n) (flag_same (option_of options e.target) at b e f))
      (λ b e es s f. flag-set (option_of options e.target) at b e f)

  pub budget-kept : (b : Budget) (es : List OnNoteValues) → ok_budget b ≡ true → ok_budget (run options at b es).budget ≡ true
  budget-kept =
      run-cases options at (λ b es r. ok_budget b ≡ true → ok_budget r.budget ≡ true)
      (λ b h. h)
      (λ b e es s ih h. ih h)
      (λ b e es s f ih h. ih (ok-after (option_of options e.target) at b e h))
      (λ b e es s f h. ok-after (option_of options e.target) at b e h)

  -- ---- the same writes as a cycle's
  abbrev f : Turn Event
  f = turn (option_of options) at.channel

  abbrev dues : List OnNoteValues → List DueWrite
  dues es = map (due_at at.start) (without silent es)

  abbrev on : Budget → List Event → State Event
  on b es = record { table = []; budget = b; events = es }

  -- a list that has a value is due
  dues-more : (e : OnNoteValues) (es : List OnNoteValues) → silent e ≡ false → dues (e ∷ es) ≡ due_at at.start e ∷ dues es
  dues-more e es s = ap (λ (t : Bool). map (due_at at.start) (unless t e (without silent es))) s

  module _ (b : Budget) (e : OnNoteValues) (ds : List DueWrite) (before : List Event) where
    abbrev w : DueWrite
    w = due_at at.start e

    abbrev b' : Budget
    b' = (wrote_at (option_of options e.target) at b e).budget

    abbrev x : Event
    x = (wrote_at (option_of options e.target) at b e).event

    push-one : fits value_bytes b ≡ true → push f (w ∷ ds) (on b before) ≡ push f ds (on b' (before ++ (x ∷ [])))
    unfolding push wrote turn wrote_at wrote_of
    push-one q =
        ap (λ (t : Bool). cond t (push f ds (wrote f w (on b before))) (wrote f w (on b before))) q
        ∙ ap (λ (t : Bool). push f ds (on b' (cond t (before ++ (x ∷ [])) before))) q

    push-lost : fits value_bytes b ≡ false → push f (w ∷ ds) (on b before) ≡ on b' before
    unfolding push wrote turn wrote_at wrote_of
    push-lost q =
        ap (λ (t : Bool). cond t (push f ds (wrote f w (on b before))) (wrote f w (on b before))) q
        ∙ ap (λ (t : Bool). on b' (cond t (before ++ (x ∷ [])) before)) q

  pub as-push : (b : Budget) (es : List OnNoteValues) (before : List Event)
      → push f (dues es) (on b before) ≡ on (run options at b es).budget (before ++ (run options at b es).events)
  unfolding push
  as-push =
      run-cases options at (λ b es r. (before : List Event) → push f (dues es) (on b before) ≡ on r.budget (before ++ r.events))
      (λ b before. ap (on b) (sym (append-nil before)))
      (λ b e es s ih before. rw s (ih before))
      (λ b e es s q ih before.
      ap (λ (ds : List DueWrite). push f ds (on b before)) (dues-more e es s)
      ∙ push-one b e (dues es) before q
      ∙ ih (before ++ (x b e (dues es) before ∷ []))
      ∙ ap (on (run options at (b' b e (dues es) before) es).budget) (append_assoc before (x b e (dues es) before ∷ []) (run options at (b' b e (dues es) before) es).events))
      (λ b e es s q before.
      ap (λ (ds : List DueWrite). push f ds (on b before)) (dues-more e es s)
      ∙ push-lost b e (dues es) before q
      ∙ ap (on (b' b e (dues es) before)) (sym (append-nil before)))

  -- ---- bytes enough
  none-lost : (b : Budget) (es : List OnNoteValues) → value_bytes * length (without silent es) ≤ free b → (run options at b es).lost ≡ false
  none-lost =
      run-cases options at (λ b es r. value_bytes * length (without silent es) ≤ free b → r.lost ≡ false)
      (λ b h. refl)
      (λ b e es s ih. rw s ih)
      (λ b e es s q ih. rw s (λ h. ih (omega (arith, free-less (option_of options e.target) at b e q))))
      (λ b e es s q. rw s (λ h. absurd (omega (arith, leb-false value_bytes (free b) q))))

  pub each : (b : Budget) (es : List OnNoteValues) → value_bytes * length (without silent es) ≤ free b
      → ((run options at b es).events ≡ events_of f (dues es) b.seed) × ((run options at b es).lost ≡ false)
  each b es h = (
    ap (λ (s : State Event). s.events) (sym (as-push b es []) ∙ push-fits f (dues es) (on b []) (rw length-map h)),
    none-lost b es h,
  )

  -- ---- a lost write: the run over what stands before the list, which then ends
  abbrev pub ended_at : Run → OnNoteValues → List OnNoteValues → Run
  ended_at s e es = ran (s.lists ++ (e ∷ es)) (wrote_at (option_of options e.target) at s.budget e).budget s.events true

  pub record LostAt (b : Budget) (es : List OnNoteValues) (r : Run) : Type 0 where
    pub front : List OnNoteValues
    pub list : OnNoteValues
    pub rest : List OnNoteValues
    pub parted : es ≡ front ++ (list ∷ rest)
    pub whole : (run options at b front).lost ≡ false
    pub sounds : silent list ≡ false
    pub spent : fits value_bytes (run options at b front).budget ≡ false
    pub stopped : r ≡ ended_at (run options at b front) list rest

  -- one more list before it
  lost-behind : (b c : Budget) (e y : OnNoteValues) (es : List OnNoteValues) (m : List Event) (i : LostAt c es (run options at c es))
      → run options at b (e ∷ i.front) ≡ behind (y ∷ []) m (run options at c i.front) → LostAt b (e ∷ es) (behind (y ∷ []) m (run options at c es))
  lost-behind b c e y es m i q =
      record {
        front = e ∷ i.front;
        list = i.list;
        rest = i.rest;
        parted = ap (λ (l : List OnNoteValues). e ∷ l) i.parted;
        whole = ap (λ (r : Run). r.lost) q ∙ i.whole;
        sounds = i.sounds;
        spent = ap (λ (r : Run). fits value_bytes r.budget) q ∙ i.spent;
        stopped = ap (behind (y ∷ []) m) i.stopped ∙ ap (λ (r : Run). ended_at r i.list i.rest) (sym q);
      }

  pub lost-last : (b : Budget) (es : List OnNoteValues) → (run options at b es).lost ≡ true → LostAt b es (run options at b es)
  unfolding run
  lost-last =
      run-cases options at (λ b es r. r.lost ≡ true → LostAt b es r)
      (λ b h. absurd (true≢false (sym h)))
      (λ b e es s ih h. lost-behind b b e e es [] (ih h) (run-silent options at b e (ih h).front s))
      (λ b e es s q ih h.
      lost-behind b (wrote_at (option_of options e.target) at b e).budget e (advanced e) es ((wrote_at (option_of options e.target) at b e).event ∷ []) (ih h)
      (run_fits options at b e (ih h).front s q))
      (λ b e es s q h. record {
        front = [];
        list = e;
        rest = es;
        parted = refl;
        whole = refl;
        sounds = s;
        spent = q;
        stopped = refl;
      })

-- ---- times
timed : (o : WriteOption) (at : Onset) (b : Budget) (e : OnNoteValues) → is_time at.start ≡ true → is_length o.delay ≡ true → is_event_time (wrote_at o at b e).event.time ≡ true
unfolding wrote_at wrote_of
timed o at b e t d = let w : DueWrite = due_at at.start e in in_reach (asked o at.channel w) (offered w) _ (time-stored at.start t) d (omega arith)

module _ (options : List WriteOption) (at : Onset) (ok : all ok_option options ≡ true) (t : is_time at.start ≡ true) where
  pub in-time : (b : Budget) (es : List OnNoteValues) → all (λ (e : Event). is_event_time e.time) (run options at b es).events ≡ true
  unfolding all
  in-time =
      run-cases options at (λ b es r. all (λ (e : Event). is_event_time e.time) r.events ≡ true)
      (λ b. refl)
      (λ b e es s ih. ih)
      (λ b e es s q ih.
      rw (timed (option_of options e.target) at b e t (option-delay (option_of options e.target) (option-at options (key e.target) ok))) ih)
      (λ b e es s q. refl)

-- ---- refused
module _ (a : Track) (start : ℤ) (b : Budget) (l : List ℤ) (count : ℕ) where
  pub refused : (refusal a start b l count ≡ 0 → ⊥) → (noted a start b l count ≡ answer (refusal a start b l count) count b a) × (list_left a start b l count ≡ l)
  unfolding noted list_left
  refused h = let q = ne_eqb (refusal a start b l count) 0 h in (rw q, rw q)

  pub code_is : (noted a start b l count).code ≡ refusal a start b l count
  unfolding noted
  code_is =
      let r = run_of a start b in
      go (refusal a start b l count) (length (list_after (rows.events_of l count) r)) r.budget (with_notes a (notes_put a.notes (kept r)))
    where
      go : (n k : ℕ) (y : Budget) (t : Track) → (cond (eqb n 0) (answer 0 k y t) (answer n count b a)).code ≡ n
      go zero k y t = refl
      go (suc n) k y t = rw (ne_eqb (suc n) 0 (λ (e : suc n ≡ 0). omega (arith, e)))
