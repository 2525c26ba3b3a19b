-- 01, "Values per note": a layer's own value.
--     without-a-value   a layer's cycle that has no value at this time gives the layer's own
--     note-stays        what a layer takes of a list is then its own value
use mathlib.Core.Path.{◌≡◌, sym, ap, ◌∙◌}
use mathlib.Core.Bool.{true, false}
use mathlib.Core.List.{[]}
use borrow.Author.Tests.{eq-eqb}
use lib.Dec.{eqb}
use lib.IntN.{ℤ}
use Rattle.reserved.specs.Cycle.{calc_of}
use Rattle.reserved.specs.declared.Taken.{Taken}
use Rattle.reserved.specs.Reserve.{on_note, on_cycle, taken, cycle_of, first_or, timed, noted}
use Rattle.layers.specs.declared.Layer.{Layer}
use Rattle.layers.specs.declared.Heard.{Heard}
use Rattle.layers.specs.Layers.{from_note, from_time, heard_of}

module _ (t : ℤ) (a : Layer) where
  by-note : eqb a.reserve.kind on_note ≡ true → heard_of t a ≡ from_note a (noted a.reserve a.value)
  unfolding heard_of
  by-note n = rw n

  by-time : eqb a.reserve.kind on_note ≡ false → heard_of t a ≡ from_time a (timed a.reserve t a.value)
  unfolding heard_of
  by-time n = rw n

  by-cycle : a.reserve.kind ≡ on_cycle → timed a.reserve t a.value ≡ taken (first_or a.value (calc_of (cycle_of a.reserve) t).values) a.reserve
  unfolding timed
  by-cycle k = rw (eq-eqb a.reserve.kind on_cycle k)

  pub without-a-value : a.reserve.kind ≡ on_cycle → (calc_of (cycle_of a.reserve) t).values ≡ [] → (heard_of t a).value ≡ a.value
  without-a-value k e =
      let n : eqb a.reserve.kind on_note ≡ false = rw k in
      ap (λ (h : Heard). h.value) (by-time n) ∙ ap (λ (x : Taken). x.value) (by-cycle k) ∙ ap (first_or a.value) e

  pub note-stays : a.reserve.kind ≡ on_note → (heard_of t a).layer.value ≡ (heard_of t a).value
  note-stays k =
      let n = by-note (eq-eqb a.reserve.kind on_note k) in
      ap (λ (h : Heard). h.layer.value) n ∙ sym (ap (λ (h : Heard). h.value) n)
