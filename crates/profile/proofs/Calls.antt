-- What a caller sees of `check_profile` and `fit_profile`: code, yes, count, and every number of the list.
--     check-yes, Accepted, check-told   yes is 1 where 1 and 4 pass and the events do, and only there
--     check-no, check-refused           elsewhere it is 0
--     untouched      where fitting is refused the count and every number stay
--     fit-events     where it is not, the events below the count are the fitted ones
--     fit-checks     and the check says yes to them
--     fit_stays      fitting what the check says yes to answers 0 and the same count, and leaves every number
--     fit-twice      fitting again answers the same and leaves every number, of every list and count
--     FitOut, fit-out, call-..   the promises on events, of a call that answered 0
use mathlib.Core.Bool.{Bool, true, false, cond, ◌&&◌}
use mathlib.Core.Path.{◌≡◌, refl, sym, ap, ap₂, ◌∙◌}
use mathlib.Core.List.{List, [], ◌∷◌, ◌++◌}
use Prim.Native.Nat.{ℕ, ◌≤◌}
use native.Mathlib.Omega.{arith}
use borrow.Author.Tests.{eqb-true, ne_eqb}
use lib.Dec.{eqb}
use lib.IntN.{ℤ}
use lib.ListN.{length}
use lib.Seq.{length-take-le}
use Rattle.laws.specs.Integers.{eq_z}
use Rattle.laws.specs.Lists.{any, only}
use Rattle.laws.proofs.Firsts.{put_same}
use Rattle.laws.proofs.Ranges.{left, right}
use Rattle.numbers.specs.Ranges.{is_bend}
use Rattle.events.specs.declared.Event.{Event}
use Rattle.events.specs.Events.{zero_event}
use Rattle.events.specs.Kinds.{control_change, pitch_bend}
use Rattle.eventlist.specs.declared.Taken.{Taken}
use Rattle.eventlist.specs.Rows.{rows_of, events_of}
use Rattle.eventlist.specs.Sound.{is_list, ok_events}
use Rattle.eventlist.proofs.EventRows.{flat-rows_of}
use Rattle.eventlist.proofs.Sound.{list-whole, list-within, passed, left-events}
use Rattle.sorting.specs.Stable.{stable_sort}
use Rattle.sorting.specs.Sorting.{earlier}
use Rattle.profile.specs.declared.ProfileAnswer.{ProfileAnswer}
use Rattle.profile.specs.Profile.{accepts, twins, passes, fitted}
use Rattle.profile.specs.Calls.{FitOut, check_refusal, check_answer, fit_refusal, fit_taken, fit_left}
use Rattle.profile.proofs.Promises.{passing, fitted-passes, passes-stays, is_other, other-kinds, bends-kept, last-kept, nothing-added}
use Rattle.profile.proofs.Refusing.{well, fit-well, fits}
use Rattle.profile.proofs.Sound.{fit-sound}

-- ---- the check
module _ (store : ℕ) (l : List ℤ) (count : ℕ) where
  pub check-yes : is_list l count ≡ true → ok_events store l count ≡ true → passes (events_of l count) ≡ true → check_answer store l count ≡ record { code = 0; yes = 1 }
  check-yes h o p = rw (well store l count h o, p)

  pub record Accepted : Type 0 where
    pub list : is_list l count ≡ true
    pub events : ok_events store l count ≡ true
    pub passing : passes (events_of l count) ≡ true

  pub check-told : (check_answer store l count).yes ≡ 1 → Accepted
  check-told h =
      let both = one (eqb (check_refusal store l count) 0 && passes (events_of l count)) h in
      let nought = eqb-true (check_refusal store l count) 0 (left (eqb (check_refusal store l count) 0) (passes (events_of l count)) both) in
      let p = passed (is_list l count) (ok_events store l count) 0 (unfold check_refusal in nought) in
      record { list = p.list; events = p.numbers; passing = right (eqb (check_refusal store l count) 0) (passes (events_of l count)) both }
    where
      one : (b : Bool) → ◌≡◌ {A = ℕ} (cond b 1 0) 1 → b ≡ true
      one true e = refl
      one false e = absurd (omega arith)

  pub check-no : is_list l count ≡ true → ok_events store l count ≡ true → passes (events_of l count) ≡ false → check_answer store l count ≡ record { code = 0; yes = 0 }
  check-no h o p = rw (well store l count h o, p)

  pub check-refused : (check_refusal store l count ≡ 0 → ⊥) → check_answer store l count ≡ record { code = check_refusal store l count; yes = 0 }
  check-refused h = rw (ne_eqb (check_refusal store l count) 0 h)

  -- ---- fitting
  pub untouched : (fit_refusal store l count ≡ 0 → ⊥) → (fit_taken store l count ≡ record { code = fit_refusal store l count; count = count }) × (fit_left store l count ≡ l)
  untouched h = let n = ne_eqb (fit_refusal store l count) 0 h in (rw n, rw n)

  pub fit-events : fit_refusal store l count ≡ 0 → events_of (fit_left store l count) (fit_taken store l count).count ≡ fitted (events_of l count)
  fit-events e = rw e (left-events l count (fitted (events_of l count)))

  pub fit_stays : check_answer store l count ≡ record { code = 0; yes = 1 } → (fit_taken store l count ≡ record { code = 0; count = count }) × (fit_left store l count ≡ l)
  fit_stays h =
      let a = check-told (ap (λ (r : ProfileAnswer). r.yes) h) in
      let p = passing (events_of l count) a.passing in
      let e = fit-well store l count a.list a.events p.single p.timely in
      let same = passes-stays (events_of l count) a.passing in
      let within = list-within l count a.list in
      (rw (e, same, length-take-le count (rows_of l) within), rw (e, same, put_same zero_event count (rows_of l) within) (flat-rows_of l (list-whole l count a.list)))

module _ (store : ℕ) (l : List ℤ) (count : ℕ) where
  pub fit-checks : fit_refusal store l count ≡ 0 → check_answer store (fit_left store l count) (fit_taken store l count).count ≡ record { code = 0; yes = 1 }
  fit-checks e =
      let s = fit-sound store l count e in
      let f = fits store l count e in
      check-yes store (fit_left store l count) (fit_taken store l count).count s.list s.events
      (ap passes (fit-events store l count e) ∙ fitted-passes (events_of l count) f.single f.timely)

  pub fit-twice : (fit_taken store (fit_left store l count) (fit_taken store l count).count ≡ fit_taken store l count)
      × (fit_left store (fit_left store l count) (fit_taken store l count).count ≡ fit_left store l count)
  fit-twice = go (eqb (fit_refusal store l count) 0) refl
    where
      go : (b : Bool) → eqb (fit_refusal store l count) 0 ≡ b → (fit_taken store (fit_left store l count) (fit_taken store l count).count ≡ fit_taken store l count)
          × (fit_left store (fit_left store l count) (fit_taken store l count).count ≡ fit_left store l count)
      go true h =
          let e = eqb-true (fit_refusal store l count) 0 h in
          let s = fit_stays store (fit_left store l count) (fit_taken store l count).count (fit-checks e) in
          let zero : ◌≡◌ {A = Taken} (record { code = 0; count = (fit_taken store l count).count }) (fit_taken store l count) = rw e in
          (s.0 ∙ zero, s.1)
      go false h =
          let list : fit_left store l count ≡ l = rw h in
          let many : (fit_taken store l count).count ≡ count = rw h in
          (ap₂ (fit_taken store) list many, ap₂ (fit_left store) list many)

-- where the call is not refused, it fits
pub fits_out : (store : ℕ) (l : List ℤ) (count : ℕ) → fit_refusal store l count ≡ 0 → FitOut store l count (length (fitted (events_of l count))) (fit_left store l count)
fits_out store l count e = record { answer = rw e; list = refl }

module _ {store : ℕ} {l : List ℤ} {count n : ℕ} {l' : List ℤ} (k : FitOut store l count n l') where
  pub not-refused : fit_refusal store l count ≡ 0
  not-refused = sym (ap (λ (r : Taken). r.code) k.answer)

  -- the events below the count afterwards
  pub fit-out : events_of l' n ≡ fitted (events_of l count)
  fit-out = ap₂ events_of k.list (ap (λ (r : Taken). r.count) k.answer) ∙ fit-events store l count not-refused

  pub call-checks : check_answer store l' n ≡ record { code = 0; yes = 1 }
  call-checks = ap₂ (check_answer store) k.list (ap (λ (r : Taken). r.count) k.answer) ∙ fit-checks store l count not-refused

  pub call-other-kinds : only is_other (events_of l' n) ≡ only is_other (stable_sort earlier (events_of l count))
  call-other-kinds = ap (only is_other) fit-out ∙ other-kinds (events_of l count)

  pub call-bends : only (λ e. eq_z e.kind pitch_bend) (events_of l' n) ≡ only (λ e. eq_z e.kind pitch_bend && is_bend e.v1) (stable_sort earlier (events_of l count))
  call-bends = ap (only (λ (e : Event). eq_z e.kind pitch_bend)) fit-out ∙ bends-kept (events_of l count)

  pub call-last : (front behind : List Event) (e : Event) → events_of l count ≡ front ++ (e ∷ behind) → accepts e ≡ true → eq_z e.kind control_change ≡ true
      → any (twins e) behind ≡ false → only (twins e) (events_of l' n) ≡ e ∷ []
  call-last front behind e split h c last = ap (only (twins e)) (fit-out ∙ ap fitted split) ∙ last-kept front behind e h c last

  pub call-adds-nothing : (p : Event → Bool) → length (only p (events_of l' n)) ≤ length (only p (events_of l count))
  call-adds-nothing p = rw fit-out (nothing-added p (events_of l count))
