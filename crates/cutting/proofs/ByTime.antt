-- What counts last in a list sorted by time, after one more event at the end of the list that is not sorted. So a pass over the
-- list as it stands knows it: one more event counts where the test holds of it and what counted so far is not later.
--     last-map       what is read off the event that counts
--     last-sorted, latest-more   what counts after one more event
--     stood-more     what stands after it (`stood`)
--     standing-last  what stands, as it is remembered
use mathlib.Core.Path.{◌≡◌, refl, sym, ap, ap₂, ◌∙◌}
use mathlib.Core.Bool.{Bool, true, false, cond, not, ◌&&◌, ◌||◌}
use mathlib.Core.List.{List, [], ◌∷◌, ◌++◌}
use mathlib.Core.Logic.{⊎_elim}
use Prim.Native.Nat.{ℕ, ◌+◌, ◌<◌}
use native.Mathlib.Numerals.{add-one}
use lib.IntN.{ℤ}
use lib.ListN.{length, get_or, take}
use lib.Seq.{take-suc}
use lib.Signed.{le_z}
use Rattle.laws.proofs.Bools.{which, and-on, and-off}
use Rattle.laws.proofs.Order.{lt_not_le, nlt-le}
use Rattle.events.specs.declared.Event.{Event}
use Rattle.events.specs.Events.{zero_event}
use Rattle.events.specs.Kinds.{pitch_bend, voice}
use Rattle.sorting.specs.Stable.{stable_sort, Sorted}
use Rattle.sorting.specs.Sorting.{earlier}
use Rattle.sorting.proofs.Earlier.{earlier-asym, earlier-trans}
use Rattle.sorting.proofs.Behind.{behind, Before, before-all, sort-more}
use Rattle.sorting.proofs.Promises.{never-falls}
use Rattle.cutting.specs.declared.Latest.{Latest}
use Rattle.cutting.specs.Choice.{last_of}
use Rattle.cutting.specs.Cuts.{folds, tells}
use Rattle.cutting.specs.Passes.{lasts_of}
use Rattle.cutting.specs.ByTime.{latest_of, counts_at, replacing, no_program, standing_at, stood, last_in}

pub last-map : {A B : Type 0} (g : A → B) (p : Event → Bool) (f : Event → A) (d : A) (es : List Event)
    → g (last_of p f d es) ≡ last_of p (λ x. g (f x)) (g d) es
last-map g p f d [] = refl
last-map {A} {B} g p f d (x ∷ es) = last-map g p f (cond (p x) (f x) d) es ∙ ap (λ (y : B). last_of p (λ z. g (f z)) y es) (go (p x))
  where
    go : (t : Bool) → g (cond t (f x) d) ≡ cond t (g (f x)) (g d)
    go true = refl
    go false = refl

module _ {A : Type 0} (p : Event → Bool) (f : Event → A) where
  module _ (e : Event) where
    -- whether what counts is not later than e, or b where nothing does
    abbrev yields : Bool → List Event → Bool
    yields b s = last_of p (λ x. le_z x.time e.time) b s

    -- before later ones e counts only where none of them does
    none_yields : (s : List Event) (b : Bool) → Before earlier e s → b ≡ false → yields b s ≡ false
    none_yields [] b h q = q
    none_yields (x ∷ s) b h q = none_yields s (cond (p x) (le_z x.time e.time) b) h.1 (go (p x))
      where
        go : (t : Bool) → cond t (le_z x.time e.time) b ≡ false
        go true = lt_not_le e.time x.time h.0
        go false = q

    in-front : (s : List Event) (d : A) → Before earlier e s → last_of p f (cond (p e) (f e) d) s ≡ cond (p e && yields true s) (f e) (last_of p f d s)
    in-front [] d h = rw and-on
    in-front (x ∷ s) d h = go (p x) (in-front s d h.1)
      where
        go : (t : Bool) → last_of p f (cond (p e) (f e) d) s ≡ cond (p e && yields true s) (f e) (last_of p f d s)
            → last_of p f (cond t (f x) (cond (p e) (f e) d)) s ≡ cond (p e && yields (cond t (le_z x.time e.time) true) s) (f e) (last_of p f (cond t (f x) d) s)
        go true ih = rw (none_yields s (le_z x.time e.time) h.1 (lt_not_le e.time x.time h.0), and-off)
        go false ih = ih

    last-behind : (s : List Event) (d : A) (b : Bool) → Sorted earlier s → b ≡ true → last_of p f d (behind earlier e s) ≡ cond (p e && yields b s) (f e) (last_of p f d s)
    last-behind [] d b h q = rw (q, and-on)
    last-behind (x ∷ s) d b h q =
        ⊎_elim
        (λ (k : earlier e x ≡ true). rw (k, q) (in-front (x ∷ s) d (k, before-all earlier earlier-asym earlier-trans e x s k h.0)))
        (λ (k : earlier e x ≡ false). rw k (last-behind s (cond (p x) (f x) d) (cond (p x) (le_z x.time e.time) b) h.1 (go (p x) (nlt-le e.time x.time k))))
        (which (earlier e x))
      where
        go : (t : Bool) → le_z x.time e.time ≡ true → cond t (le_z x.time e.time) b ≡ true
        go true k = k
        go false k = q

  pub last-sorted : (es : List Event) (e : Event) (d : A) → last_of p f d (stable_sort earlier (es ++ (e ∷ [])))
      ≡ cond (p e && last_of p (λ x. le_z x.time e.time) true (stable_sort earlier es)) (f e) (last_of p f d (stable_sort earlier es))
  last-sorted es e d = rw (sort-more earlier earlier-asym earlier-trans es e) (last-behind e (stable_sort earlier es) d true (never-falls es) refl)

  pub latest-more : (l : List Event) (i : ℕ) → i < length l → (d : A) → last_of p f d (stable_sort earlier (take (i + 1) l))
      ≡ cond (p (get_or l i zero_event) && last_of p (λ x. le_z x.time (get_or l i zero_event).time) true (stable_sort earlier (take i l)))
      (f (get_or l i zero_event)) (last_of p f d (stable_sort earlier (take i l)))
  latest-more l i h d = rw (add-one, take-suc l i zero_event h) (last-sorted (take i l) (get_or l i zero_event) d)

-- ---- what stands
-- whether an event at t counts, as it is asked
counts-is : (p : Event → Bool) (t : ℤ) (d : Event) (b : Bool) (es : List Event)
    → (not (last_of p (λ x. true) b es) || le_z (last_of p (λ x. x) d es).time t) ≡ last_of p (λ x. le_z x.time t) (not b || le_z d.time t) es
counts-is p t d b [] = refl
counts-is p t d b (x ∷ es) = counts-is p t (cond (p x) x d) (cond (p x) true b) es ∙ ap (λ (y : Bool). last_of p (λ z. le_z z.time t) y es) (go (p x))
  where
    go : (q : Bool) → (not (cond q true b) || le_z (cond q x d).time t) ≡ cond q (le_z x.time t) (not b || le_z d.time t)
    go true = refl
    go false = refl

either : (t : Bool) (e : Event) (l : Latest) → replacing l e t ≡ record { found = cond t true l.found; event = cond t e l.event }
either true e l = refl
either false e l = refl

module _ (l : List Event) (i : ℕ) (h : i < length l) where
  abbrev x : Event
  x = get_or l i zero_event

  replaced-more : (p : Event → Bool) (d : Event)
      → replacing (latest_of p d (stable_sort earlier (take i l))) x (p x && counts_at (latest_of p d (stable_sort earlier (take i l))) x.time) ≡ latest_of p d (stable_sort earlier (take (i + 1) l))
  replaced-more p d =
      let s = stable_sort earlier (take i l) in
      let asked = ap (λ (t : Bool). p x && t) (counts-is p x.time d false s) in
      either (p x && counts_at (latest_of p d s) x.time) x (latest_of p d s)
      ∙ ap₂ (λ (a : Bool) (b : Event). record { found = a; event = b })
      (ap (λ (t : Bool). cond t true (last_of p (λ y. true) false s)) asked ∙ sym (latest-more p (λ y. true) l i h false))
      (ap (λ (t : Bool). cond t x (last_of p (λ y. y) d s)) asked ∙ sym (latest-more p (λ y. y) l i h d))

  pub stood-more : (at : ℤ) → stood at (standing_at at (stable_sort earlier (take i l))) (get_or l i zero_event) ≡ standing_at at (stable_sort earlier (take (i + 1) l))
  unfolding stood
  stood-more at =
      rw (replaced-more (folds voice at) no_program, replaced-more (tells at) zero_event, replaced-more (folds pitch_bend at) zero_event)

pub standing-last : (at : ℤ) (es : List Event) → last_in (standing_at at es) ≡ lasts_of at es
standing-last at es =
    rw (last-map (λ (e : Event). e.v1) (folds voice at) (λ e. e) no_program es, last-map (λ (e : Event). e.channel) (tells at) (λ e. e) zero_event es)
