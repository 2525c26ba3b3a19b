-- The rule of 02, a), said of the list as it stands (`Counts`), is what counts last in the sorted list.
--     last-counts    what counts is the last in the sorted list,
--     some-counts    and one counts, unless the test holds of none
--     counts-also    and one of a wider test
--     none_between   nothing of which the test holds is later than what counts
use mathlib.Core.Path.{◌≡◌, refl, sym, ap, ◌∙◌}
use mathlib.Core.Bool.{Bool, true, false, cond, not, ◌&&◌, ◌||◌, true≢false}
use mathlib.Core.List.{List, [], ◌∷◌, ◌++◌, append_assoc, append-nil}
use mathlib.Core.Logic.{◌⊎◌, ⊎_elim, inl, inr}
use lib.Signed.{lt_z, le_z}
use Rattle.laws.specs.Lists.{all}
use Rattle.laws.proofs.Bools.{which, and-off}
use Rattle.laws.proofs.Every.{all-imply}
use Rattle.laws.proofs.Order.{lt_not_le, nlt-le, lt-le, le_lt_trans, lt_z-irrefl}
use Rattle.laws.proofs.Parts.{all_append, all-last}
use Rattle.laws.proofs.Ranges.{left, right}
use Rattle.events.specs.declared.Event.{Event}
use Rattle.sorting.specs.Stable.{stable_sort}
use Rattle.sorting.specs.Sorting.{earlier}
use Rattle.sorting.proofs.Sound.{all-sort}
use Rattle.cutting.specs.Choice.{last_of}
use Rattle.cutting.specs.Counting.{Counts}
use Rattle.cutting.proofs.ByTime.{last-map, last-sorted}

-- ---- what counts is the last in the sorted list
-- the one that counts, as a list of at most one, and what is read off it
abbrev only : Event → List Event
only e = e ∷ []

abbrev read_off : {A : Type 0} → (Event → A) → A → List Event → A
read_off f d [] = d
read_off f d (e ∷ es) = f e

module _ (p : Event → Bool) (e : Event) where
  -- where all of which the test holds pass another, so does the last, and none passes it where there is none
  all_pass : (q : Event → Bool) (es : List Event) (b : Bool) → b ≡ true → all (λ x. not (p x) || q x) es ≡ true → last_of p q b es ≡ true
  unfolding all
  all_pass q [] b h y = h
  all_pass q (x ∷ es) b h y = all_pass q es (cond (p x) (q x) b) (go (p x) (left (not (p x) || q x) (all (λ z. not (p z) || q z) es) y)) (right (not (p x) || q x) (all (λ z. not (p z) || q z) es) y)
    where
      go : (t : Bool) → (not t || q x) ≡ true → cond t (q x) b ≡ true
      go true k = k
      go false k = h

  read_off_lem : {A : Type 0} (f : Event → A) (d : A) (es : List Event) → last_of p only [] (stable_sort earlier es) ≡ only e → last_of p f d (stable_sort earlier es) ≡ f e
  read_off_lem f d es h = sym (last-map (read_off f d) p only [] (stable_sort earlier es)) ∙ ap (read_off f d) h

  -- e comes behind others that are not later
  begins : (a : List Event) → p e ≡ true → all (λ x. not (p x) || le_z x.time e.time) a ≡ true → last_of p only [] (stable_sort earlier (a ++ (e ∷ []))) ≡ only e
  begins a h y =
      last-sorted p only a e []
      ∙ rw (h, all_pass (λ x. le_z x.time e.time) (stable_sort earlier a) true refl (all-sort earlier (λ x. not (p x) || le_z x.time e.time) a y))

  -- earlier ones come behind it
  remains : (a b : List Event) → last_of p only [] (stable_sort earlier a) ≡ only e → all (λ x. not (p x) || lt_z x.time e.time) b ≡ true
      → last_of p only [] (stable_sort earlier (a ++ b)) ≡ only e
  unfolding all
  remains a [] h y = rw (append-nil a) h
  remains a (x ∷ b) h y =
      ap (λ (l : List Event). last_of p only [] (stable_sort earlier l)) (sym (append_assoc a (x ∷ []) b))
      ∙ remains (a ++ (x ∷ [])) b (last-sorted p only a x [] ∙ go (p x) refl (left (not (p x) || lt_z x.time e.time) (all (λ z. not (p z) || lt_z z.time e.time) b) y))
      (right (not (p x) || lt_z x.time e.time) (all (λ z. not (p z) || lt_z z.time e.time) b) y)
    where
      later : last_of p (λ z. le_z z.time x.time) true (stable_sort earlier a) ≡ le_z e.time x.time
      later = read_off_lem (λ z. le_z z.time x.time) true a h

      go : (t : Bool) → p x ≡ t → (not t || lt_z x.time e.time) ≡ true
          → cond (p x && last_of p (λ z. le_z z.time x.time) true (stable_sort earlier a)) (only x) (last_of p only [] (stable_sort earlier a)) ≡ only e
      go true q k = rw (later, lt_not_le x.time e.time k, and-off) h
      go false q k = rw q h

pub last-counts : {A : Type 0} (p : Event → Bool) (f : Event → A) (d : A) (es : List Event) (k : Counts p es) → last_of p f d (stable_sort earlier es) ≡ f k.event
last-counts p f d es k =
    rw (k.splits ∙ sym (append_assoc k.front (k.event ∷ []) k.behind))
    (read_off_lem p k.event f d ((k.front ++ (k.event ∷ [])) ++ k.behind)
    (remains p k.event (k.front ++ (k.event ∷ [])) k.behind (begins p k.event k.front k.holds k.none-later) k.all-earlier))

-- ---- one counts
-- what follows of an event of which the test holds
follows : (b q r : Bool) → (q ≡ true → r ≡ true) → (not b || q) ≡ true → (not b || r) ≡ true
follows true q r f h = f h
follows false q r f h = refl

module _ (p : Event → Bool) where
  pub none_between : (es : List Event) (k : Counts p es) → all (λ x. not (p x) || le_z x.time k.event.time) es ≡ true
  unfolding all
  none_between es k =
      let t = k.event.time in
      let itself : (not (p k.event) || le_z t t) ≡ true = rw k.holds (nlt-le t t (lt_z-irrefl t)) in
      let rest = all-imply (λ x. not (p x) || lt_z x.time t) (λ x. not (p x) || le_z x.time t) (λ x. follows (p x) (lt_z x.time t) (le_z x.time t) (lt-le x.time t)) k.behind k.all-earlier in
      rw k.splits (all_append (λ x. not (p x) || le_z x.time t) k.front (k.event ∷ k.behind) k.none-later (rw itself rest))

  none_here : (es : List Event) (q : Event → Bool) → all (λ x. not (p x)) es ≡ true → all (λ x. not (p x) || q x) es ≡ true
  none_here es q = all-imply (λ x. not (p x)) (λ x. not (p x) || q x) (λ x h. rw h) es

  -- one more in front: it counts where it is later than what counts behind it, or where nothing does
  first : (x : Event) (es : List Event) → p x ≡ true → all (λ z. not (p z) || lt_z z.time x.time) es ≡ true → Counts p (x ∷ es)
  unfolding all
  first x es h y = record { front = []; event = x; behind = es; splits = refl; holds = h; none-later = refl; all-earlier = y }

  after : (x : Event) (es : List Event) (k : Counts p es) → (not (p x) || le_z x.time k.event.time) ≡ true → Counts p (x ∷ es)
  unfolding all
  after x es k h =
      record {
        front = x ∷ k.front;
        event = k.event;
        behind = k.behind;
        splits = ap (λ (l : List Event). x ∷ l) k.splits;
        holds = k.holds;
        none-later = rw h k.none-later;
        all-earlier = k.all-earlier;
      }

  one-or-none : (x : Event) (es : List Event) → (all (λ z. not (p z)) es ≡ true) ⊎ Counts p es → (all (λ z. not (p z)) (x ∷ es) ≡ true) ⊎ Counts p (x ∷ es)
  unfolding all
  one-or-none x es (inl none) = ⊎_elim (λ h. inr (first x es h (none_here es (λ z. lt_z z.time x.time) none))) (λ h. inl (rw h none)) (which (p x))
  one-or-none x es (inr k) =
      let t = k.event.time in
      ⊎_elim
      (λ (h : p x ≡ true).
      ⊎_elim
      (λ (q : lt_z t x.time ≡ true).
      inr (first x es h
      (all-imply (λ z. not (p z) || le_z z.time t) (λ z. not (p z) || lt_z z.time x.time)
      (λ z. follows (p z) (le_z z.time t) (lt_z z.time x.time) (λ m. le_lt_trans z.time t x.time m q)) es (none_between es k))))
      (λ (q : lt_z t x.time ≡ false). inr (after x es k (rw h (nlt-le t x.time q))))
      (which (lt_z t x.time)))
      (λ (h : p x ≡ false). inr (after x es k (rw h)))
      (which (p x))

  pub some-counts : (es : List Event) → (all (λ x. not (p x)) es ≡ true) ⊎ Counts p es
  unfolding all
  some-counts [] = inl refl
  some-counts (x ∷ es) = one-or-none x es (some-counts es)

pub counts-also : (p q : Event → Bool) → ((e : Event) → p e ≡ true → q e ≡ true) → (es : List Event) → Counts p es → Counts q es
unfolding all
counts-also p q f es k = ⊎_elim (λ none. absurd (true≢false (sym (here none) ∙ ap not (f k.event k.holds)))) (λ c. c) (some-counts q es)
  where
    here : all (λ x. not (q x)) es ≡ true → not (q k.event) ≡ true
    here none =
        left (not (q k.event)) (all (λ x. not (q x)) k.behind)
        (all-last (λ x. not (q x)) k.front (k.event ∷ k.behind) (rw k.splits at none))
