-- A table's records, run one after the other: after i of them the first i are as a call leaves them, and budget and list
-- are what the writes of the first i leave (`Placed`).
use mathlib.Core.Path.{◌≡◌, refl, sym, ap, ap₂, ◌∙◌}
use mathlib.Core.Bool.{Bool, true, false, cond}
use mathlib.Core.List.{List, [], ◌∷◌, ◌++◌, append-nil, append_assoc}
use Prim.Native.Nat.{ℕ, zero, suc, ◌+◌, ◌-◌, ◌≤◌, ◌<◌, min, max}
use native.Mathlib.Omega.{arith}
use native.Mathlib.Numerals.{add-one}
use lib.Dec.{leb}
use borrow.Author.Tests.{leb-true}
use lib.IntN.{ℤ}
use lib.ListN.{length, take, drop, set, get_or, take-append-drop}
use lib.Seq.{take-suc, drop-cons, set_at, get_or_at, get_or-take, append_snoc, length-take-le, take-append_seam, take-add}
use Rattle.laws.specs.Lists.{all, counted, put_first}
use Rattle.laws.proofs.Compact.{put-again}
use Rattle.laws.proofs.Ranges.{left, right}
use Rattle.laws.proofs.Tests.{all-at}
use Rattle.laws.proofs.Firsts.{length-put_first}
use Rattle.numbers.specs.Limits.{value_bytes, places}
use Rattle.numbers.specs.Ranges.{is_time}
use Rattle.budget.specs.declared.Budget.{Budget}
use Rattle.budget.specs.Budgets.{fits}
use Rattle.events.specs.declared.Event.{Event}
use Rattle.events.specs.Events.{zero_event}
use Rattle.values.specs.declared.WriteOption.{WriteOption}
use Rattle.cycles.specs.declared.Cycle.{Cycle}
use Rattle.cycles.specs.declared.Round.{Round}
use Rattle.cycles.specs.declared.Ask.{Ask}
use Rattle.cycles.specs.declared.Ran.{Ran}
use Rattle.cycles.specs.Due.{DueWrite, write_of, advanced, run, after, due_count, owed, takes, leaves}
use Rattle.cycles.specs.Rules.{ok_cycle}
use Rattle.cycles.specs.Calls.{State, Turn, limit, wrote, push_all, share, moved}
use Rattle.cycles.specs.Turns.{turn, turn_of, option_of, ask_for, made, ran_state, ran_of, called_state, called_of}
use Rattle.cycles.proofs.Push.{push_all-append, call-one-pass}
use Rattle.cycles.proofs.Running.{push_all-grows}
use Rattle.cycles.proofs.Keeping.{length-leaves}

-- ---- a table cut in two

pub owed-append : (u : ℤ) (xs ys : List Cycle) → owed u (xs ++ ys) ≡ owed u xs + owed u ys
unfolding owed
owed-append u [] ys = omega arith
owed-append u (c ∷ xs) ys = omega (arith, owed-append u xs ys)

pub leaves-append : (m : ℕ) (u : ℤ) (xs ys : List Cycle) → leaves m u (xs ++ ys) ≡ leaves m u xs ++ leaves (m - owed u xs) u ys
unfolding leaves owed
leaves-append m u [] ys = let e : m ≡ m - 0 = omega arith in ap (λ (k : ℕ). leaves k u ys) e
leaves-append m u (c ∷ xs) ys =
    let e : m - due_count u c - owed u xs ≡ m - (due_count u c + owed u xs) = omega arith in
    ap (λ (l : List Cycle). after (min m (due_count u c)) c ∷ l)
    (leaves-append (m - due_count u c) u xs ys ∙ ap (λ (k : ℕ). leaves (m - due_count u c) u xs ++ leaves k u ys) e)

pub takes-append : (m : ℕ) (u : ℤ) (xs ys : List Cycle) → takes m u (xs ++ ys) ≡ takes m u xs ++ takes (m - owed u xs) u ys
unfolding takes owed
takes-append m u [] ys = let e : m ≡ m - 0 = omega arith in ap (λ (k : ℕ). takes k u ys) e
takes-append m u (c ∷ xs) ys =
    let e : m - due_count u c - owed u xs ≡ m - (due_count u c + owed u xs) = omega arith in
    let w : List DueWrite = run (min m (due_count u c)) c in
    ap (λ (l : List DueWrite). w ++ l) (takes-append (m - due_count u c) u xs ys)
    ∙ sym (append_assoc w (takes (m - due_count u c) u xs) (takes (m - due_count u c - owed u xs) u ys))
    ∙ ap (λ (k : ℕ). w ++ takes (m - due_count u c) u xs ++ takes k u ys) e

pub owed_more : (u : ℤ) (l : List Cycle) (i : ℕ) (d : Cycle) → i < length l → owed u (take (i + 1) l) ≡ owed u (take i l) + due_count u (get_or l i d)
unfolding owed
owed_more u l i d h = rw (add-one, take-suc l i d h) (owed-append u (take i l) (get_or l i d ∷ []) ∙ omega arith)

-- ---- writes and the table that they leave alone

module _ {E : Type 0} (f : Turn E) where
  abbrev on : List Cycle → Budget → List E → State E
  on tab b es = record { table = tab; budget = b; events = es }

  -- what is written goes by no table
  any-table : (ws : List DueWrite) (t t' : List Cycle) (b : Budget) (es : List E)
      → push_all f ws (on t b es) ≡ on t (push_all f ws (on t' b es)).budget (push_all f ws (on t' b es)).events
  unfolding push_all wrote
  any-table [] t t' b es = refl
  any-table (w ∷ ws) t t' b es = any-table ws t t' (wrote f w (on t b es)).budget (wrote f w (on t b es)).events

  wrote-behind : (w : DueWrite) (s : State E) → (more : List E) × ((wrote f w s).events ≡ s.events ++ more)
  unfolding wrote
  wrote-behind w s = go (fits value_bytes s.budget)
    where
      e : E
      e = (f w s.budget.seed).0

      go : (b : Bool) → (more : List E) × (cond b (s.events ++ (e ∷ [])) s.events ≡ s.events ++ more)
      go true = (e ∷ [], refl)
      go false = ([], sym (append-nil s.events))

  -- events come in behind
  pub behind : (ws : List DueWrite) (s : State E) → (more : List E) × ((push_all f ws s).events ≡ s.events ++ more)
  unfolding push_all
  behind [] s = ([], sym (append-nil s.events))
  behind (w ∷ ws) s =
      let a = wrote-behind w s in
      let b = behind ws (wrote f w s) in
      (a.0 ++ b.0, b.1 ∙ ap (λ (l : List E). l ++ b.0) a.1 ∙ append_assoc s.events a.0 b.0)

-- one record's writes ask for its own target's option
own_turn : (option : ℤ → WriteOption) (channel : ℤ) (k : ℕ) (c : Cycle) (s : State Event)
    → push_all (turn (λ (t : ℤ). option c.target) channel) (run k c) s ≡ push_all (turn option channel) (run k c) s
unfolding push_all run wrote turn write_of advanced
own_turn option channel zero c s = refl
own_turn option channel (suc k) c s = own_turn option channel k (advanced c) (wrote (turn option channel) (write_of c) s)

-- ---- the walk over the table

module _ (round : Round) (used : ℕ) (table : List Cycle) (b : Budget) (rs : List Event) (count : ℕ) where
  abbrev f : Turn Event
  f = turn (option_of round.options) round.channel

  abbrev u : ℤ
  u = round.until

  abbrev m : ℕ
  m = limit b

  -- what the writes of the first i records leave
  abbrev pub sofar : ℕ → State Event
  sofar i = push_all f (takes m u (take i table)) (record { table = []; budget = b; events = take count rs })

  pub record Placed (cycles : List Cycle) (budget : Budget) (now : List Event) (n left' i : ℕ) : Type 0 where
    pub upto : i ≤ used
    pub places : cycles ≡ leaves m u (take i table) ++ drop i table
    pub rest : left' ≡ m - owed u (take i table)
    pub spent : budget ≡ (sofar i).budget
    pub counted : n ≡ length (sofar i).events
    pub rows : now ≡ put_first zero_event count (sofar i).events rs

  pub begun : count ≤ length rs → Placed table b rs count m 0
  unfolding leaves owed takes push_all
  begun h =
      let t = length-take-le count rs h in
      let y : max count (length (take count rs)) ≡ count = omega arith in
      let z : count - length (take count rs) ≡ 0 = omega arith in
      record {
        upto = omega arith;
        places = refl;
        rest = omega arith;
        spent = refl;
        counted = sym t;
        rows = rw (z, y) (sym (take-append-drop count rs));
      }

  -- what a call leaves is what is reached at the end
  pub whole : called_state round (take used table) b (take count rs) ≡ record { table = leaves m u (take used table); budget = (sofar used).budget; events = (sofar used).events }
  unfolding called_state share moved
  whole =
      call-one-pass f u (record { table = take used table; budget = b; events = take count rs })
      ∙ any-table f (takes m u (take used table)) (leaves m u (take used table)) [] b (take count rs)

  grows : (i j : ℕ) → i ≤ j → length (sofar i).events ≤ length (sofar j).events
  grows i j h =
      let s : State Event = record { table = []; budget = b; events = take count rs } in
      let more : List Cycle = take (j - i) (drop i table) in
      let e : j ≡ i + (j - i) = omega arith in
      rw (e, take-add i (j - i) table, takes-append m u (take i table) more, push_all-append f (takes m u (take i table)) (takes (m - owed u (take i table)) u more) s)
      (push_all-grows f (takes (m - owed u (take i table)) u more) (push_all f (takes m u (take i table)) s))

  module _ (cycles : List Cycle) (budget : Budget) (now : List Event) (n left' i : ℕ) (v : Placed cycles budget now n left' i) where
    -- the list, as far as it counts, is what was reached
    shown : take n now ≡ (sofar i).events
    shown = ap₂ take v.counted v.rows ∙ take-append_seam (sofar i).events _

    module _ (room : count ≤ length rs) (enough : length (sofar used).events ≤ length rs) where
      long : length now ≡ length rs
      long = ap length v.rows ∙ length-put_first zero_event count (sofar i).events rs room (omega (arith, grows i used v.upto))

      pub fitting : n ≤ length now
      fitting = omega (arith, long, v.counted, grows i used v.upto)

    pub ended : used ≤ i → (record { table = cycles; budget = budget; count = n } ≡ called_of round used table b (take count rs))
        × (now ≡ put_first zero_event count (called_state round (take used table) b (take count rs)).events rs)
    unfolding called_of
    ended past =
        let e : i ≡ used = omega (arith, v.upto) in
        let w : Placed cycles budget now n left' used = rw e at v in
        rw whole (rw (w.places, w.spent, w.counted), w.rows)

    module _ (less : i < used) (fit : used ≤ length table) (d : Cycle) where
      abbrev c : Cycle
      c = get_or table i d

      abbrev k : ℕ
      k = min left' (due_count u c)

      done : List Cycle
      done = leaves m u (take i table)

      done-length : length done ≡ i
      unfolding done
      done-length = length-leaves m u (take i table) ∙ length-take-le i table (omega arith)

      parted : cycles ≡ done ++ c ∷ drop (suc i) table
      unfolding done
      parted = v.places ∙ ap (λ (l : List Cycle). leaves m u (take i table) ++ l) (drop-cons table i d (omega arith))

      pub at_place : get_or cycles i d ≡ c
      at_place = rw parted (get_or_at done c (drop (suc i) table) d i done-length)

      taken : take (i + 1) table ≡ take i table ++ (c ∷ [])
      taken = rw add-one (take-suc table i d (omega arith))

      state-next : sofar (i + 1) ≡ push_all f (run k c) (sofar i)
      unfolding takes
      state-next =
          let s : State Event = record { table = []; budget = b; events = take count rs } in
          ap (λ (l : List Cycle). push_all f (takes m u l) s) taken
          ∙ ap (λ (ws : List DueWrite). push_all f ws s) (takes-append m u (take i table) (c ∷ []))
          ∙ push_all-append f (takes m u (take i table)) (run (min (m - owed u (take i table)) (due_count u c)) c ++ []) s
          ∙ ap (λ (ws : List DueWrite). push_all f ws (sofar i)) (append-nil (run (min (m - owed u (take i table)) (due_count u c)) c))
          ∙ ap (λ (x : ℕ). push_all f (run (min x (due_count u c)) c) (sofar i)) (sym v.rest)

      -- what the record's run leaves is what is reached next
      pub ran : ran_state (ask_for round c.target) k c budget (take n now) ≡ sofar (i + 1)
      unfolding ran_state
      ran =
          let whole-state = any-table f (takes m u (take i table)) [] [] b (take count rs) in
          ap₂ (λ (y : Budget) (es : List Event). push_all (turn_of (ask_for round c.target)) (run k c) (record { table = []; budget = y; events = es })) v.spent shown
          ∙ ap (λ (s : State Event). push_all (turn_of (ask_for round c.target)) (run k c) s) (sym whole-state)
          ∙ own_turn (option_of round.options) round.channel k c (sofar i)
          ∙ sym state-next

      pub enough-now : count ≤ length rs → length (sofar used).events ≤ length rs
          → length (ran_state (ask_for round c.target) k c budget (take n now)).events ≤ length now
      enough-now room enough = rw ran (omega (arith, grows (i + 1) used (omega arith), long room enough))

      leaves-next : leaves m u (take (i + 1) table) ≡ done ++ (after k c ∷ [])
      unfolding leaves done
      leaves-next = rw (taken, v.rest) (leaves-append m u (take i table) (c ∷ []))

      pub next : (now' : List Event) → now' ≡ put_first zero_event n (ran_state (ask_for round c.target) k c budget (take n now)).events now
          → (let r = ran_of (ask_for round c.target) k c budget (take n now) in
          Placed (set cycles i r.cycle) r.budget now' r.count (left' - r.made) (i + 1))
      unfolding ran_of
      next now' e =
          let more = behind f (run k c) (sofar i) in
          let grown : (sofar (i + 1)).events ≡ (sofar i).events ++ more.0 = ap (λ (s : State Event). s.events) state-next ∙ more.1 in
          record {
            upto = omega arith;
            places =
                rw parted
                (set_at done c (drop (suc i) table) (after k c) i done-length
                ∙ sym (append_snoc done (after k c) (drop (suc i) table))
                ∙ ap₂ (λ (l x : List Cycle). l ++ x) (sym leaves-next) (rw add-one));
            rest = omega (arith, owed_more u table i d (omega arith), v.rest);
            spent = ap (λ (s : State Event). s.budget) ran;
            counted = ap (λ (s : State Event). length s.events) ran;
            rows =
                e
                ∙ ap (λ (s : State Event). put_first zero_event n s.events now) ran
                ∙ rw (grown, v.counted, v.rows) (put-again zero_event count (sofar i).events more.0 rs);
          }

      -- the same of what the code reads and is handed back
      module _ (x : Cycle) (ask : Ask) (p : x ≡ c) (q : ask ≡ ask_for round x.target) where
        pub ready : ok_cycle c ≡ true → is_time u ≡ true → count ≤ length rs → length (sofar used).events ≤ length rs
            → (ok_cycle x ≡ true) × (is_time ask.until ≡ true) × (n ≤ length now) × (length (ran_state ask (made ask left' x) x budget (take n now)).events ≤ length now)
        ready e t room enough = rw (q, p) (e, t, fitting room enough, enough-now room enough)

        pub step : (r : Ran) (now' : List Event) → r ≡ ran_of ask (made ask left' x) x budget (take n now)
            → now' ≡ put_first zero_event n (ran_state ask (made ask left' x) x budget (take n now)).events now
            → Placed (set cycles i r.cycle) r.budget now' r.count (left' - r.made) (i + 1)
        step r now' e g =
            let e' : r ≡ ran_of (ask_for round c.target) k c budget (take n now) = rw (q, p) at e in
            let g' : now' ≡ put_first zero_event n (ran_state (ask_for round c.target) k c budget (take n now)).events now = rw (q, p) at g in
            rw e' (next now' g')

-- no more writes than were left
pub few-made : (ask : Ask) (left' : ℕ) (x : Cycle) (b : Budget) (es : List Event) (r : Ran) → r ≡ ran_of ask (made ask left' x) x b es → r.made ≤ left'
unfolding ran_of
few-made ask left' x b es r e = rw e (omega arith)

-- a used record passed the test
pub well : (used : ℕ) (table : List Cycle) (i : ℕ) (d : Cycle) → counted used places ok_cycle table ≡ true → length table ≡ places → i < used → ok_cycle (get_or table i d) ≡ true
unfolding counted
well used table i d e l h =
    let few = leb-true used places (left (leb used places) (all ok_cycle (take used table)) e) in
    let t = length-take-le used table (omega arith) in
    sym (ap ok_cycle (get_or-take used table i d h)) ∙ all-at ok_cycle (take used table) i d (omega arith) (right (leb used places) (all ok_cycle (take used table)) e)

pub within : (used : ℕ) (table : List Cycle) → counted used places ok_cycle table ≡ true → used ≤ places
unfolding counted
within used table e = leb-true used places (left (leb used places) (all ok_cycle (take used table)) e)
