-- The last event of which a test holds, when a list grows at its end, is thinned, or changed event by event.
--     last-append, last_more   a list of two parts; one more event: it counts where the test holds of it
--     last_less                the same, seen from a list that is searched from its end
--     last_found, last_none    it is the one after which there is none; where there is none, the default
--     last-without, last-unsaid   of what is left of a list; where what went says nothing, of the list; `last-unsaid-in`, asked of that list alone
--     last-any, last-thinned   where there is one the default does not matter; what goes is not missed where another stands behind it
--     last-mapped, last-same, last-alike   of what became of its events, and by what is said alike of each
--     lasts-more               what a cut remembers, after one more event (`noted`)
use mathlib.Core.Path.{◌≡◌, refl, sym, ap, ◌∙◌, fun_ext}
use mathlib.Core.Bool.{Bool, true, false, cond, not, ◌&&◌, ◌||◌, true≢false}
use mathlib.Core.List.{List, [], ◌∷◌, ◌++◌, map}
use Prim.Native.Nat.{ℕ, ◌+◌, ◌-◌, ◌≤◌, ◌<◌}
use native.Mathlib.Numerals.{add-one}
use native.Mathlib.Omega.{arith}
use borrow.Author.Tests.{not-true}
use lib.IntN.{ℤ, pos}
use lib.ListN.{length, get_or, take}
use lib.Seq.{take-suc}
use Rattle.laws.specs.Lists.{all, any, unless, without, thinned}
use Rattle.laws.proofs.Bools.{and-on, and-off}
use Rattle.laws.proofs.Ranges.{left, right}
use Rattle.events.specs.declared.Event.{Event}
use Rattle.events.specs.Events.{zero_event}
use Rattle.events.specs.Kinds.{control_change, pitch_bend, voice}
use Rattle.cutting.specs.Choice.{last_of}
use Rattle.cutting.specs.Cuts.{unset, folds}
use Rattle.cutting.specs.Passes.{noted, lasts_of}

module _ {A : Type 0} (p : Event → Bool) (f : Event → A) where
  pub last-append : (d : A) (a b : List Event) → last_of p f d (a ++ b) ≡ last_of p f (last_of p f d a) b
  last-append d [] b = refl
  last-append d (x ∷ a) b = last-append (cond (p x) (f x) d) a b

  pub last_more : (d : A) (l : List Event) (i : ℕ) (z : Event) → i < length l
      → last_of p f d (take (i + 1) l) ≡ cond (p (get_or l i z)) (f (get_or l i z)) (last_of p f d (take i l))
  last_more d l i z h = rw (add-one, take-suc l i z h) (last-append d (take i l) (get_or l i z ∷ []))

  pub last_less : (d : A) (l : List Event) (i : ℕ) (z : Event) → 0 < i → i ≤ length l
      → last_of p f d (take i l) ≡ cond (p (get_or l (i - 1) z)) (f (get_or l (i - 1) z)) (last_of p f d (take (i - 1) l))
  last_less d l i z h m =
      let q : i ≡ i - 1 + 1 = omega arith in
      ap (λ (n : ℕ). last_of p f d (take n l)) q ∙ last_more d l (i - 1) z (omega arith)

  pub last_none : (d : A) (es : List Event) → all (λ x. not (p x)) es ≡ true → last_of p f d es ≡ d
  unfolding all
  last_none d [] n = refl
  last_none d (e ∷ es) n =
      let here = not-true (p e) (left (not (p e)) (all (λ x. not (p x)) es) n) in
      rw here (last_none d es (right (not (p e)) (all (λ x. not (p x)) es) n))

  pub last_found : (d : A) (a b : List Event) (e : Event) → p e ≡ true → all (λ x. not (p x)) b ≡ true → last_of p f d (a ++ (e ∷ b)) ≡ f e
  last_found d [] b e y n = ap (λ (t : Bool). last_of p f (cond t (f e) d) b) y ∙ last_none (f e) b n
  last_found d (x ∷ a) b e y n = last_found (cond (p x) (f x) d) a b e y n

  -- ---- thinned, changed, alike
  pub last-without : (out : Event → Bool) (d : A) (es : List Event) → last_of p f d (without out es) ≡ last_of (λ e. p e && not (out e)) f d es
  last-without out d [] = refl
  last-without out d (x ∷ es) = go (out x) (last-without out d es) (last-without out (cond (p x) (f x) d) es)
    where
      go : (t : Bool) → last_of p f d (without out es) ≡ last_of (λ e. p e && not (out e)) f d es
          → last_of p f (cond (p x) (f x) d) (without out es) ≡ last_of (λ e. p e && not (out e)) f (cond (p x) (f x) d) es
          → last_of p f d (unless t x (without out es)) ≡ last_of (λ e. p e && not (out e)) f (cond (p x && not t) (f x) d) es
      go true gone stays = gone ∙ rw (and-off (p x))
      go false gone stays = stays ∙ rw (and-on (p x))

  pub last-same : (q : Event → Bool) → ((e : Event) → p e ≡ q e) → (d : A) (es : List Event) → last_of p f d es ≡ last_of q f d es
  last-same q h d es = ap (λ (r : Event → Bool). last_of r f d es) (fun_ext h)

  -- where what is left out says nothing
  pub last-unsaid : (out : Event → Bool) → ((e : Event) → p e ≡ true → out e ≡ false) → (d : A) (es : List Event) → last_of p f d (without out es) ≡ last_of p f d es
  last-unsaid out h d es = last-without out d es ∙ sym (last-same (λ e. p e && not (out e)) (λ e. go e (p e) refl) d es)
    where
      go : (e : Event) (b : Bool) → p e ≡ b → b ≡ (b && not (out e))
      go e true q = rw (h e q)
      go e false q = refl

  pub last-any : (d d' : A) (es : List Event) → any p es ≡ true → last_of p f d es ≡ last_of p f d' es
  unfolding any
  last-any d d' [] h = absurd (true≢false (sym h))
  last-any d d' (x ∷ es) h = go (p x) h (last-any d d' es)
    where
      go : (b : Bool) → (b || any p es) ≡ true → (any p es ≡ true → last_of p f d es ≡ last_of p f d' es) → last_of p f (cond b (f x) d) es ≡ last_of p f (cond b (f x) d') es
      go true k ih = refl
      go false k ih = ih k

  -- where each that counts and goes has one behind it that counts
  pub last-thinned : (out : Event → List Event → Bool) (q : Event → Bool)
      → ((e : Event) (behind : List Event) → q e ≡ true → all q behind ≡ true → p e ≡ true → out e behind ≡ true → any p behind ≡ true)
      → (d : A) (es : List Event) → all q es ≡ true → last_of p f d (thinned out es) ≡ last_of p f d es
  unfolding all
  last-thinned out q h d [] y = refl
  last-thinned out q h d (x ∷ es) y =
      let rest = right (q x) (all q es) y in
      go (out x es) refl (p x) refl (last-thinned out q h d es rest) (last-thinned out q h (cond (p x) (f x) d) es rest)
    where
      go : (t : Bool) → out x es ≡ t → (b : Bool) → p x ≡ b → last_of p f d (thinned out es) ≡ last_of p f d es
          → last_of p f (cond (p x) (f x) d) (thinned out es) ≡ last_of p f (cond (p x) (f x) d) es → last_of p f d (unless t x (thinned out es)) ≡ last_of p f (cond b (f x) d) es
      go true k true c gone stays = gone ∙ last-any d (f x) es (h x es (left (q x) (all q es) y) (right (q x) (all q es) y) c k)
      go true k false c gone stays = gone
      go false k b c gone stays = stays ∙ ap (λ (z : Bool). last_of p f (cond z (f x) d) es) c

  pub last-mapped : (g : Event → Event) (d : A) (es : List Event) → last_of p f d (map g es) ≡ last_of (λ e. p (g e)) (λ e. f (g e)) d es
  last-mapped g d [] = refl
  last-mapped g d (x ∷ es) = last-mapped g (cond (p (g x)) (f (g x)) d) es

  pub last-alike : (q p' : Event → Bool) (f' : Event → A) → ((e : Event) → q e ≡ true → p e ≡ p' e) → ((e : Event) → q e ≡ true → p e ≡ true → f e ≡ f' e)
      → (d : A) (es : List Event) → all q es ≡ true → last_of p f d es ≡ last_of p' f' d es
  unfolding all
  last-alike q p' f' h k d [] y = refl
  last-alike q p' f' h k d (x ∷ es) y =
      let here = left (q x) (all q es) y in
      ap (λ (z : A). last_of p f z es) (go (p x) refl here) ∙ last-alike q p' f' h k (cond (p' x) (f' x) d) es (right (q x) (all q es) y)
    where
      go : (t : Bool) → p x ≡ t → q x ≡ true → cond t (f x) d ≡ cond (p' x) (f' x) d
      go true e here = rw (sym (h x here) ∙ e) (k x here e)
      go false e here = rw (sym (h x here) ∙ e)

  -- where what is left out says nothing in this list
  pub last-unsaid-in : (out : Event → Bool) (d : A) (es : List Event) → all (λ e. not (p e) || not (out e)) es ≡ true → last_of p f d (without out es) ≡ last_of p f d es
  last-unsaid-in out d es h =
      last-without out d es ∙ sym (last-alike (λ e. not (p e) || not (out e)) (λ e. p e && not (out e)) f (λ e. go (p e) (not (out e))) (λ e y k. refl) d es h)
    where
      go : (b c : Bool) → (not b || c) ≡ true → b ≡ (b && c)
      go true c y = sym y
      go false c y = refl

module _ (at : ℤ) (l : List Event) (i : ℕ) (h : i < length l) where
  abbrev e : Event
  e = get_or l i zero_event

  pub lasts-more : noted at (lasts_of at (take i l)) (get_or l i zero_event) ≡ lasts_of at (take (i + 1) l)
  unfolding noted
  lasts-more =
      let program = last_more (folds voice at) (λ x. x.v1) unset l i zero_event h in
      let channel = last_more (λ x. folds voice at x || folds control_change at x) (λ x. x.channel) (pos 0) l i zero_event h in
      let bent = last_more (folds pitch_bend at) (λ x. true) false l i zero_event h in
      let bend = last_more (folds pitch_bend at) (λ x. x) zero_event l i zero_event h in
      cc
