-- The pass that tests the events and finds those that are taken out: the events passed may be stored, so that those left decide
-- (laws of Tests); of them `first` stand in front of the first that is taken (laws of Moves), and `taken` are not kept (Compact).
--     Passing, begun                    so far
--     hit, in-front, behind             one event more: taken, or kept before or behind the first taken one
--     further-on                        the three in one
--     refused, unstored, ended          the answer
--     refusing, surveyed                what it says
use mathlib.Core.Bool.{Bool, true, false, not, cond, ◌&&◌}
use mathlib.Core.Path.{◌≡◌, refl, sym, ap, ◌∙◌}
use mathlib.Core.List.{List, [], ◌∷◌}
use Prim.Native.Nat.{ℕ, ◌+◌, ◌-◌, ◌≤◌, ◌<◌}
use native.Mathlib.Nat.{add-zero}
use native.Mathlib.Omega.{arith}
use borrow.Author.Tests.{eqb-true, eqb-false}
use lib.Dec.{eqb}
use mir.Val.{bool_byte}
use lib.ListN.{length, get_or, take, length-append}
use lib.Seq.{length-take-le}
use Rattle.laws.specs.Lists.{all}
use Rattle.laws.specs.Moves.{in_front}
use Rattle.laws.proofs.Bools.{and-off}
use Rattle.laws.proofs.Compact.{kept, kept-drop, kept-keep}
use Rattle.laws.proofs.Leading.{leading_le}
use Rattle.laws.proofs.Moves.{front-past, front-kept-too, front-taken}
use Rattle.laws.proofs.Tests.{Left, passed-of, failed-of, ended_of}
use Rattle.std.specs.Prelude.{Result, Ok, Err}
use Rattle.numbers.specs.declared.refusals.Refusal.{Refusal}
use Rattle.numbers.specs.declared.refusals.Refusal.TheVariants.{OutOfRange}
use Rattle.events.specs.declared.Event.{Event}
use Rattle.events.specs.Events.{ok_event, zero_event}
use Rattle.eventlist.specs.declared.Seen.{Seen}
use Rattle.eventlist.specs.declared.Window.{Window}
use lib.IntN.{ℤ}
use Rattle.eventlist.specs.Rows.{rows_of, events_of}
use Rattle.eventlist.specs.Sound.{ok_events}
use Rattle.eventlist.specs.Windows.{taken_by_any}
use Rattle.eventlist.specs.Clearing.{kept_by_all, Surveyed, survey_of}

pub at_most_one : (t : Bool) {r : ℕ} → r ≡ bool_byte t → r ≤ 1
at_most_one true e = omega arith
at_most_one false e = omega arith

pub record Passing (store : ℕ) (out : Event → Bool) (R : List Event) (count first taken i : ℕ) : Type 0 where
  pub within : i ≤ count
  pub stored : Left (ok_event store) (take count R) i
  pub front : first ≡ in_front out (take i R)
  pub counted : taken + length (kept out zero_event R i) ≡ i

module _ (store : ℕ) (out : Event → Bool) (R : List Event) (count : ℕ) (fit : count ≤ length R) where
  pub begun : Passing store out R count 0 0 0
  begun = record { within = omega arith; stored = refl; front = refl; counted = refl }

  module _ (first taken i : ℕ) (v : Passing store out R count first taken i) where
    pub first-le : first ≤ i
    first-le =
        let w = v.within in
        let f = v.front in
        let l = leading_le (λ x. not (out x)) (take i R) in
        let t = length-take-le i R (omega arith) in
        omega arith

    module _ (inside : i < count) (e : Event) (read : e ≡ get_or R i zero_event) where
      at : i < length R
      at = omega arith

      pub refused : ok_event store e ≡ false → false ≡ all (ok_event store) (take count R)
      refused bad = failed-of (ok_event store) count R i zero_event inside fit (ap (ok_event store) (sym read) ∙ bad) v.stored

      module _ (ok : ok_event store e ≡ true) where
        further : Left (ok_event store) (take count R) (i + 1)
        further = passed-of (ok_event store) count R i zero_event inside fit (ap (ok_event store) (sym read) ∙ ok) v.stored

        hit : out e ≡ true → Passing store out R count first (taken + 1) (i + 1)
        hit t =
            let o : out (get_or R i zero_event) ≡ true = ap out (sym read) ∙ t in
            let c = v.counted in
            let k = ap length (kept-drop out zero_event R i at o) in
            record { within = omega arith; stored = further; front = front-taken out zero_event R i first at v.front o; counted = omega arith }

        module _ (t : out e ≡ false) where
          stays : out (get_or R i zero_event) ≡ false
          stays = ap out (sym read) ∙ t

          more : taken + length (kept out zero_event R (i + 1)) ≡ i + 1
          more =
              let c = v.counted in
              let k = ap length (kept-keep out zero_event R i at stays) ∙ length-append (kept out zero_event R i) (get_or R i zero_event ∷ []) in
              omega arith

          in-front : first ≡ i → Passing store out R count (first + 1) taken (i + 1)
          in-front n = record { within = omega arith; stored = further; front = front-kept-too out zero_event R i first at v.front stays n; counted = more }

          behind : first < i → Passing store out R count first taken (i + 1)
          behind n = record { within = omega arith; stored = further; front = front-past out zero_event R i first at v.front n; counted = more }

        -- as the loop counts them, without a branch
        pub further-on : (t o : Bool) → t ≡ out e → o ≡ (eqb first i && not t) → Passing store out R count (first + bool_byte o) (taken + bool_byte t) (i + 1)
        further-on true o a b = rw (b ∙ and-off (eqb first i), add-zero first) (hit (sym a))
        further-on false o a b = go (eqb first i) refl
          where
            go : (q : Bool) → eqb first i ≡ q → Passing store out R count (first + bool_byte o) (taken + 0) (i + 1)
            go true q = rw (b, q, add-zero taken) (in-front (sym a) (eqb-true first i q))
            go false q = rw (b, q, add-zero first, add-zero taken) (behind (sym a) (let l = first-le in let d = eqb-false first i q in omega arith))

-- the answer
module _ (store : ℕ) (ws : List Window) (l : List ℤ) (count : ℕ) (fit : count ≤ length (rows_of l)) where
  pub unstored : false ≡ ok_events store l count → ◌≡◌ {A = Result Seen Refusal} (Err OutOfRange) (survey_of store ws l count)
  unfolding survey_of
  unstored e = rw (sym e)

  pub ended : (first taken i : ℕ) → Passing store (taken_by_any ws) (rows_of l) count first taken i → count ≤ i
      → ◌≡◌ {A = Result Seen Refusal} (Ok (record { first = first; taken = taken })) (survey_of store ws l count)
  unfolding survey_of ok_events
  ended first taken i v past =
      let all : i ≡ count = omega (arith, v.within) in
      let ok : ok_events store l count ≡ true = sym (ended_of (ok_event store) count (rows_of l) i fit past v.stored) in
      let c : taken + length (kept (taken_by_any ws) zero_event (rows_of l) count) ≡ count = rw all at v.counted in
      let f : first ≡ in_front (taken_by_any ws) (events_of l count) = rw all at v.front in
      let t : taken ≡ count - length (kept_by_all ws l count) = omega arith in
      rw (ok, f, t)

  -- it refuses: some event may not be stored
  pub refusing : (why : Refusal) → Err why ≡ survey_of store ws l count → (why ≡ OutOfRange) × (ok_events store l count ≡ false)
  unfolding survey_of
  refusing why e = go (ok_events store l count) refl e
    where
      go : (t : Bool) → ok_events store l count ≡ t
          → ◌≡◌ {A = Result Seen Refusal} (Err why) (cond t (Ok (record { first = in_front (taken_by_any ws) (events_of l count); taken = count - length (kept_by_all ws l count) })) (Err OutOfRange))
          → (why ≡ OutOfRange) × (t ≡ false)
      go true q e = absurd (cc)
      go false q e = (cc, refl)

  -- it does not: every event may be stored, and it says where the first is taken, and how many are
  pub surveyed : (seen : Seen) → Ok seen ≡ survey_of store ws l count → (ok_events store l count ≡ true) × Surveyed ws l count seen
  unfolding survey_of
  surveyed seen e = go (ok_events store l count) e
    where
      go : (t : Bool)
          → ◌≡◌ {A = Result Seen Refusal} (Ok seen) (cond t (Ok (record { first = in_front (taken_by_any ws) (events_of l count); taken = count - length (kept_by_all ws l count) })) (Err OutOfRange))
          → (t ≡ true) × Surveyed ws l count seen
      go true e =
          let s : seen ≡ record { first = in_front (taken_by_any ws) (events_of l count); taken = count - length (kept_by_all ws l count) } = cc in
          (refl, record { first = ap (λ (x : Seen). x.first) s; taken = ap (λ (x : Seen). x.taken) s })
      go false e = absurd (cc)
