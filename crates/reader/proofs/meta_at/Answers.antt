-- `meta_at` meets its contract, by the type that stands at the place (Places).
use mathlib.Core.Path.{◌≡◌, ap, sym, ◌∙◌}
use Prim.Native.Nat.{ℕ, ◌+◌}
use lib.ListN.{get_or, drop}
use mathlib.Core.List.{List, ◌∷◌}
use Rattle.chunks.specs.Reader.{meta_in}
use Rattle.reader.proofs.Places.{answered, none_left, byte_left, meta-cut, meta-high, meta-end, meta-over}
use Rattle.reader.proofs.meta_at.Goals as goal

-- a byte stands at the place
module _ (c : goal.After-faulty-then-kind-ge-STATUS) where
  abbrev x : ℕ
  x = get_or c.args.s.now (c.args.from + c.args.used) 0

  abbrev l : List ℕ
  l = drop (c.args.from + (c.args.used + 1)) c.args.s.now

  byte : drop (c.args.from + c.args.used) c.args.s.now ≡ x ∷ l
  byte = byte_left c.args.s.now c.args.from c.args.used c.if-s-at.false

-- a byte stands at the place
module _ (c : goal.After-end_at) where
  abbrev x-at-2 : ℕ
  x-at-2 = get_or c.args.s.now (c.args.from + c.args.used) 0

  abbrev l-at-2 : List ℕ
  l-at-2 = drop (c.args.from + (c.args.used + 1)) c.args.s.now

  byte-at-2 : drop (c.args.from + c.args.used) c.args.s.now ≡ x-at-2 ∷ l-at-2
  byte-at-2 = byte_left c.args.s.now c.args.from c.args.used c.if-s-at.false

-- a byte stands at the place
module _ (c : goal.After-step_over) where
  abbrev x-at-3 : ℕ
  x-at-3 = get_or c.args.s.now (c.args.from + c.args.used) 0

  abbrev l-at-3 : List ℕ
  l-at-3 = drop (c.args.from + (c.args.used + 1)) c.args.s.now

  byte-at-3 : drop (c.args.from + c.args.used) c.args.s.now ≡ x-at-3 ∷ l-at-3
  byte-at-3 = byte_left c.args.s.now c.args.from c.args.used c.if-s-at.false

pub returns-then-s-at : goal.returns-then-s-at
returns-then-s-at c =
    let a = c.args in
    answered c.faulty.result c.faulty.ensures
    (λ t. meta-cut a.gap a.used ∙ ap (meta_in a.gap a.used) (sym (none_left a.s.now a.from a.used c.if-s-at.true)))

pub returns-then-kind-ge-STATUS : goal.returns-then-kind-ge-STATUS
returns-then-kind-ge-STATUS c =
    let a = c.args in
    answered c.faulty-then-kind-ge-STATUS.result c.faulty-then-kind-ge-STATUS.ensures (λ t. meta-high a.gap a.used (x c) (l c) c.if-kind-ge-STATUS.true ∙ ap (meta_in a.gap a.used) (sym (byte c)))

pub returns-then-kind-eq-END_OF_TRACK : goal.returns-then-kind-eq-END_OF_TRACK
returns-then-kind-eq-END_OF_TRACK c =
    let a = c.args in
    answered c.end_at.result c.end_at.ensures (λ t. meta-end a.gap a.used (x-at-2 c) (l-at-2 c) c.if-kind-eq-END_OF_TRACK.true ∙ ap (meta_in a.gap a.used) (sym (byte-at-2 c)))

pub returns : goal.returns
returns c =
    let a = c.args in
    answered c.step_over.result c.step_over.ensures
    (λ t. meta-over a.gap a.used (x-at-3 c) (l-at-3 c) c.if-kind-ge-STATUS.false c.if-kind-eq-END_OF_TRACK.false ∙ ap (meta_in a.gap a.used) (sym (byte-at-3 c)))
