-- What an event is to a cut: it is kept, or a controller, program or bend that is folded, or none of these, and never two.
--     folds-kind     an event that is folded has the kind
--     folds-alone    so it is folded as no other kind,
--     control-kept, program-kept, bend-kept   and is not kept
--     folds-early, folds-late   by the time alone: before the cut the kind decides, from it on nothing is folded
--     folds_is       before the cut an event of the kind is folded
use mathlib.Core.Path.{◌≡◌, ◌∙◌}
use mathlib.Core.Bool.{true, false}
use lib.IntN.{ℤ}
use lib.Signed.{lt_z, le_z}
use Rattle.laws.specs.Integers.{eq_z}
use Rattle.laws.proofs.Bits.{eq_z-true, eq_z-refl}
use Rattle.laws.proofs.Bools.{and-on, and-off}
use Rattle.laws.proofs.Order.{lt_not_le}
use Rattle.laws.proofs.Ranges.{left, right}
use Rattle.events.specs.declared.Event.{Event}
use Rattle.events.specs.Kinds.{control_change, pitch_bend, voice}
use Rattle.cutting.specs.declared.Cut.{Cut}
use Rattle.cutting.specs.Cuts.{folds, keeps}

module _ (k at : ℤ) (e : Event) (f : folds k at e ≡ true) where
  pub folds-kind : e.kind ≡ k
  unfolding folds
  folds-kind = eq_z-true e.kind k (left (eq_z e.kind k) (lt_z e.time at) f)

  pub folds-before : le_z at e.time ≡ false
  unfolding folds
  folds-before = lt_not_le e.time at (right (eq_z e.kind k) (lt_z e.time at) f)

  pub folds-alone : (k' : ℤ) → eq_z k k' ≡ false → folds k' at e ≡ false
  unfolding folds
  folds-alone k' n = rw (folds-kind, n)

module _ (k at : ℤ) (e : Event) where
  pub folds-early : lt_z e.time at ≡ true → folds k at e ≡ eq_z e.kind k
  unfolding folds
  folds-early h = rw h (and-on (eq_z e.kind k))

  pub folds_is : lt_z e.time at ≡ true → e.kind ≡ k → folds k at e ≡ true
  folds_is h q = folds-early h ∙ rw q (eq_z-refl k)

  pub folds-late : lt_z e.time at ≡ false → folds k at e ≡ false
  unfolding folds
  folds-late h = rw h (and-off (eq_z e.kind k))

module _ (c : Cut) (e : Event) where
  pub control-kept : folds control_change c.at e ≡ true → keeps c e ≡ false
  unfolding keeps
  control-kept f = rw (folds-kind control_change c.at e f, folds-before control_change c.at e f)

  pub program-kept : folds voice c.at e ≡ true → keeps c e ≡ false
  unfolding keeps
  program-kept f = rw (folds-kind voice c.at e f, folds-before voice c.at e f)

  pub bend-kept : folds pitch_bend c.at e ≡ true → keeps c e ≡ false
  unfolding keeps
  bend-kept f = rw (folds-kind pitch_bend c.at e f, folds-before pitch_bend c.at e f, and-off)
