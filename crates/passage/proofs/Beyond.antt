-- What a player has after what was folded and what the song played from the cut on is what it has after what the song played, as far as
-- that begins with all that stands before the cut. For one thing that a player has, whatever it is: what the last event says of which p
-- holds. It rests on what is folded saying of it what the song's events before the cut say (`inside`).
--     since-cut      what sounds from the cut on says what it says in the song
--     in_parts       in time order the last event is the last since the cut, else the last before it
--     beyond         so the song and the passage agree
use mathlib.Core.Bool.{Bool, true, false, not, ◌&&◌}
use mathlib.Core.Path.{◌≡◌, refl, sym, ap, ◌∙◌, fun_ext}
use mathlib.Core.List.{List, ◌++◌}
use lib.IntN.{ℤ, ◌-ℤ◌}
use lib.Signed.{lt_z, le_z}
use Rattle.laws.specs.Lists.{all, without}
use Rattle.laws.proofs.Bools.{and-off, not-not}
use Rattle.laws.proofs.Every.{all-imply}
use Rattle.laws.proofs.Order.{le_is, le_lt_trans, nlt-le, le_not_lt}
use Rattle.events.specs.declared.Event.{Event}
use Rattle.sorting.specs.Stable.{Sorted}
use Rattle.sorting.specs.Sorting.{earlier}
use Rattle.sorting.proofs.Promises.{never-falls}
use Rattle.sorting.proofs.Thinning.{sorted-first, low_first}
use Rattle.cutting.specs.Choice.{last_of}
use Rattle.cutting.specs.Cuts.{with_time, folded, whole}
use Rattle.cutting.proofs.Lasts.{last-append, last_none, last-without, last-mapped, last-same}
use Rattle.passage.specs.Player.{heard}
use Rattle.passage.specs.Passage.{sounds, less_cut, from_cut}

module _ {A : Type 0} (p : Event → Bool) (f : Event → A) (at : ℤ) where
  -- ---- events in time order
  pub in_parts : (d : A) (s : List Event) → Sorted earlier s
      → last_of p f d s ≡ last_of (λ e. p e && le_z at e.time) f (last_of (λ e. p e && lt_z e.time at) f d s) s
  in_parts d s h =
      let first = without (λ e. not (lt_z e.time at)) s in
      let rest = without (λ e. lt_z e.time at) s in
      ap (last_of p f d) (low_first earlier (λ e. lt_z e.time at) (λ x y k q. le_lt_trans x.time y.time at (nlt-le y.time x.time k) q) s h)
      ∙ last-append p f d first rest
      ∙ ap (λ (x : A). last_of p f x rest)
      (last-without p f (λ e. not (lt_z e.time at)) d s
      ∙ last-same (λ e. p e && not (not (lt_z e.time at))) f (λ e. p e && lt_z e.time at) (λ e. ap (λ (b : Bool). p e && b) (not-not (lt_z e.time at))) d s)
      ∙ last-without p f (λ e. lt_z e.time at) (last_of (λ e. p e && lt_z e.time at) f d s) s
      ∙ last-same (λ e. p e && not (lt_z e.time at)) f (λ e. p e && le_z at e.time) (λ e. ap (λ (b : Bool). p e && b) (sym (le_is at e.time))) (last_of (λ e. p e && lt_z e.time at) f d s) s

  -- ---- the passage
  module _ (audible : (e : Event) → p e ≡ true → sounds e ≡ true)
      (any-time : (u : ℤ) (e : Event) → p (with_time u e) ≡ p e) (says-alike : (u : ℤ) (e : Event) → f (with_time u e) ≡ f e) where
    pub since-cut : (d : A) (s : List Event) → last_of p f d (from_cut at s) ≡ last_of (λ e. p e && le_z at e.time) f d s
    since-cut d s =
        last-mapped p f (less_cut at) d (without (λ e. not (sounds e && le_z at e.time)) s)
        ∙ last-without (λ e. p (less_cut at e)) (λ e. f (less_cut at e)) (λ e. not (sounds e && le_z at e.time)) d s
        ∙ ap (λ (g : Event → A). last_of (λ e. p (less_cut at e) && not (not (sounds e && le_z at e.time))) g d s) (fun_ext (λ (e : Event). says-alike (e.time -ℤ at) e))
        ∙ last-same (λ e. p (less_cut at e) && not (not (sounds e && le_z at e.time))) f (λ e. p e && le_z at e.time) alike d s
      where
        alike : (e : Event) → (p (less_cut at e) && not (not (sounds e && le_z at e.time))) ≡ (p e && le_z at e.time)
        alike e = rw (not-not (sounds e && le_z at e.time), any-time (e.time -ℤ at) e) (go (p e) refl)
          where
            go : (b : Bool) → p e ≡ b → (b && (sounds e && le_z at e.time)) ≡ (b && le_z at e.time)
            go true q = rw (audible e q)
            go false q = refl

    module _ (d : A) (es : List Event) (inside : last_of p f d (folded (whole at) (heard es)) ≡ last_of (λ e. p e && lt_z e.time at) f d (heard es)) where
      pub beyond : (a b : List Event) → heard es ≡ a ++ b → all (λ e. le_z at e.time) b ≡ true
          → last_of p f d (folded (whole at) (heard es) ++ from_cut at a) ≡ last_of p f d a
      beyond a b split late =
          last-append p f d (folded (whole at) (heard es)) (from_cut at a)
          ∙ ap (λ (x : A). last_of p f x (from_cut at a)) (inside ∙ before)
          ∙ since-cut (last_of (λ e. p e && lt_z e.time at) f d a) a
          ∙ sym (in_parts d a (sorted-first earlier a b (rw split at (never-falls es))))
        where
          -- nothing of b stands before the cut
          before : last_of (λ e. p e && lt_z e.time at) f d (heard es) ≡ last_of (λ e. p e && lt_z e.time at) f d a
          before =
              ap (last_of (λ e. p e && lt_z e.time at) f d) split
              ∙ last-append (λ e. p e && lt_z e.time at) f d a b
              ∙ last_none (λ e. p e && lt_z e.time at) f (last_of (λ e. p e && lt_z e.time at) f d a) b
              (all-imply (λ e. le_z at e.time) (λ e. not (p e && lt_z e.time at)) (λ e h. rw (le_not_lt at e.time h, and-off (p e))) b late)
