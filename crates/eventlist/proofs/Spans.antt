-- A span that has the times of windows in it.
--     widened-keeps, widened-has   a widened span covers what it covered, and the window
--     outside                      an event out of the span is taken by no window
use mathlib.Core.Path.{◌≡◌, refl, sym, ◌∙◌}
use mathlib.Core.Bool.{Bool, true, false, not, cond, ◌&&◌, ◌||◌, true≢false}
use mathlib.Core.List.{List, [], ◌∷◌}
use lib.IntN.{ℤ}
use lib.Signed.{lt_z, le_z}
use borrow.Author.Tests.{not-true}
use Rattle.laws.specs.Lists.{all, any}
use Rattle.laws.specs.Integers.{eq_z}
use Rattle.laws.proofs.Bools.{and-off}
use Rattle.laws.proofs.Order.{lt_z-asym, nlt_z-trans, lt_z-irrefl, le_not_lt}
use Rattle.laws.proofs.Ranges.{left, right}
use Rattle.events.specs.declared.Event.{Event}
use Rattle.events.specs.Kinds.{control_change}
use Rattle.eventlist.specs.declared.Span.{Span}
use Rattle.eventlist.specs.declared.Window.{Window}
use Rattle.eventlist.specs.Windows.{taken_by, taken_by_any}
use Rattle.eventlist.specs.Clearing.{widened, covers, Covers}

-- ---- the earlier and the later of two times
module _ (a b v : ℤ) where
  earlier-keeps : lt_z v b ≡ false → lt_z v (cond (lt_z a b) a b) ≡ false
  earlier-keeps h = go (lt_z a b) refl
    where
      go : (t : Bool) → lt_z a b ≡ t → lt_z v (cond t a b) ≡ false
      go true e = nlt_z-trans a b v (lt_z-asym a b e) h
      go false e = h

  later-keeps : lt_z a v ≡ false → lt_z (cond (lt_z a b) b a) v ≡ false
  later-keeps h = go (lt_z a b) refl
    where
      go : (t : Bool) → lt_z a b ≡ t → lt_z (cond t b a) v ≡ false
      go true e = nlt_z-trans v a b h (lt_z-asym a b e)
      go false e = h

module _ (a b : ℤ) where
  earlier-has : lt_z a (cond (lt_z a b) a b) ≡ false
  earlier-has = go (lt_z a b) refl
    where
      go : (t : Bool) → lt_z a b ≡ t → lt_z a (cond t a b) ≡ false
      go true e = lt_z-irrefl a
      go false e = e

  later-has : lt_z (cond (lt_z a b) b a) b ≡ false
  later-has = go (lt_z a b) refl
    where
      go : (t : Bool) → lt_z a b ≡ t → lt_z (cond t b a) b ≡ false
      go true e = lt_z-irrefl b
      go false e = e

-- ---- what a span covers, as two tests
module _ (s : Span) (w : Window) (h : covers s w ≡ true) where
  starts-in : lt_z w.start s.start ≡ false
  starts-in = not-true _ (left (not (lt_z w.start s.start)) (not (lt_z s.end w.end)) h)

  ends-in : lt_z s.end w.end ≡ false
  ends-in = not-true _ (right (not (lt_z w.start s.start)) (not (lt_z s.end w.end)) h)

covered : {a b : Bool} → a ≡ false → b ≡ false → (not a && not b) ≡ true
covered p q = rw (p, q)

module _ (s : Span) (w : Window) where
  pub widened-keeps : (v : Window) → covers s v ≡ true → covers (widened s w) v ≡ true
  widened-keeps v h =
      covered
      (earlier-keeps w.start s.start v.start (starts-in s v h))
      (later-keeps s.end w.end v.end (ends-in s v h))

  pub widened-has : covers (widened s w) w ≡ true
  widened-has = covered (earlier-has w.start s.start) (later-has s.end w.end)

-- ---- an event before the span or after it
module _ (s : Span) (e : Event) where
  missed : (w : Window) → covers s w ≡ true → (lt_z e.time s.start || le_z s.end e.time) ≡ true → taken_by w e ≡ false
  unfolding taken_by
  missed w h o =
      go (eq_z e.kind w.kind && (not (eq_z w.kind control_change) || eq_z e.v1 w.number)) (lt_z e.time s.start) refl (le_z w.start e.time) refl o
    where
      go : (k t : Bool) → lt_z e.time s.start ≡ t → (u : Bool) → le_z w.start e.time ≡ u → (t || le_z s.end e.time) ≡ true → (k && u && lt_z e.time w.end) ≡ false
      go k true p false q o = rw (and-off k)
      go k true p true q o =
          absurd (true≢false (sym p ∙ nlt_z-trans s.start w.start e.time (starts-in s w h) (le_not_lt w.start e.time q)))
      go k false p u q o =
          rw (nlt_z-trans w.end s.end e.time (ends-in s w h) (le_not_lt s.end e.time o)) (and-off (k && u))

  pub outside : (ws : List Window) → Covers s ws → (lt_z e.time s.start || le_z s.end e.time) ≡ true → taken_by_any ws e ≡ false
  unfolding all any
  outside [] h o = refl
  outside (w ∷ ws) h o =
      rw (missed w (left (covers s w) (all (covers s) ws) h) o)
      (outside ws (right (covers s w) (all (covers s) ws) h) o)
