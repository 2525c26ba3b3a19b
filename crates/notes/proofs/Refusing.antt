-- The refusals of a split in their order, and what a split that is not refused may lean on.
use mathlib.Core.Path.{◌≡◌, refl, sym, ◌∙◌}
use mathlib.Core.Bool.{Bool, true, false, cond, ◌&&◌}
use mathlib.Core.List.{List}
use Prim.Native.Nat.{ℕ, ◌/◌, ◌%◌, ◌≤◌, ◌<◌}
use native.Mathlib.Omega.{arith}
use lib.Dec.{eqb, ltb}
use lib.IntN.{ℤ}
use lib.ListN.{length}
use borrow.Author.Tests.{lt-ltb, le-ltb, ltb-false, eqb-true, ne_eqb}
use Rattle.laws.specs.Lists.{all, put_first}
use Rattle.laws.proofs.Ranges.{left, right}
use Rattle.events.specs.Events.{zero_event}
use Rattle.eventlist.specs.Rows.{record_width, rows_of, events_of, Whole}
use Rattle.eventlist.specs.Sound.{is_list, ok_events}
use Rattle.eventlist.specs.declared.Taken.{Taken}
use Rattle.eventlist.proofs.EventRows.{determined, length-rows_of}
use Rattle.notes.specs.Notes.{ok_end, split_notes, split_refusal, split_taken, split_left}

-- a whole number of records
whole_of : (l : List ℤ) → length l % record_width ≡ 0 → Whole l
unfolding Whole
whole_of l z = let r = length-rows_of l in omega arith

module _ (store : ℕ) (l : List ℤ) (count size : ℕ) where
  abbrev pub lists : Bool
  lists = is_list l count && eqb (size % record_width) 0

  abbrev pub most : ℕ
  most = length (split_notes (events_of l count))

  pub no-list : lists ≡ false → 1 ≡ split_refusal store l count size
  unfolding split_refusal
  no-list h = rw h

  module _ (h : lists ≡ true) where
    pub no-events : ok_events store l count ≡ false → 4 ≡ split_refusal store l count size
    unfolding split_refusal
    no-events o = rw (h, o)

    module _ (o : ok_events store l count ≡ true) where
      pub no-ends : all ok_end (events_of l count) ≡ false → 4 ≡ split_refusal store l count size
      unfolding split_refusal
      no-ends e = rw (h, o, e)

      module _ (e : all ok_end (events_of l count) ≡ true) where
        pub no_room : size / record_width < most → 7 ≡ split_refusal store l count size
        unfolding split_refusal
        no_room r = rw (h, o, e, lt-ltb (size / record_width) most r)

        pub well : most ≤ size / record_width → 0 ≡ split_refusal store l count size
        unfolding split_refusal
        well r = rw (h, o, e, le-ltb (size / record_width) most r)

  -- a split that is not refused
  pub record Accepted : Type 0 where
    pub list : is_list l count ≡ true
    pub whole : size % record_width ≡ 0
    pub events : ok_events store l count ≡ true
    pub ends : all ok_end (events_of l count) ≡ true
    pub room : most ≤ size / record_width

  pub accepted : split_refusal store l count size ≡ 0 → Accepted
  unfolding split_refusal
  accepted = go lists (ok_events store l count) (all ok_end (events_of l count)) (ltb (size / record_width) most) refl refl refl refl
    where
      go : (a b d f : Bool) → lists ≡ a → ok_events store l count ≡ b → all ok_end (events_of l count) ≡ d → ltb (size / record_width) most ≡ f → ◌≡◌ {A = ℕ} (cond a (cond b (cond d (cond f 7 0) 4) 4) 1) 0 → Accepted
      go true true true false p q t r e =
          record {
            list = left (is_list l count) (eqb (size % record_width) 0) p;
            whole = eqb-true (size % record_width) 0 (right (is_list l count) (eqb (size % record_width) 0) p);
            events = q;
            ends = t;
            room = ltb-false (size / record_width) most r;
          }
      go true true true true p q t r e = absurd (omega arith)
      go true true false f p q t r e = absurd (omega arith)
      go true false d f p q t r e = absurd (omega arith)
      go false b d f p q t r e = absurd (omega arith)

-- the whole answer: refused, it hands back what it was given; else it is what comes of the list
module _ (store : ℕ) (l : List ℤ) (count : ℕ) (out : List ℤ) (n k : ℕ) (e : k ≡ split_refusal store l count (length out)) where
  pub refused-is : (k ≡ 0 → ⊥) → (◌≡◌ {A = Taken} (record { code = k; count = count }) (split_taken store l count out)) × (out ≡ split_left store l count out n)
  refused-is h = let z = ne_eqb k 0 h in (rw (← e, z), rw (← e, z))

  pub done-is : k ≡ 0 → (m : ℕ) → m ≡ length (split_notes (events_of l count)) → (out' : List ℤ) → length out' ≡ length out
      → rows_of out' ≡ put_first zero_event n (split_notes (events_of l count)) (rows_of out)
      → (◌≡◌ {A = Taken} (record { code = 0; count = m }) (split_taken store l count out)) × (out' ≡ split_left store l count out n)
  done-is z m q out' long r =
      let w : split_refusal store l count (length out) ≡ 0 = sym e ∙ z in
      let a = accepted store l count (length out) w in
      (rw (w, q), rw w (determined out out' _ (whole_of out a.whole) long r))
