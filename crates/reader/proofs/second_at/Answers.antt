-- `second_at` meets its contract, by the byte that stands at the place (Places).
use mathlib.Core.Path.{◌≡◌, ap, sym, ◌∙◌}
use Prim.Native.Nat.{ℕ, ◌+◌}
use lib.ListN.{get_or, drop}
use mathlib.Core.List.{List, ◌∷◌}
use Rattle.chunks.specs.Reader.{Seen, second_in}
use Rattle.events.specs.declared.Event.{Event}
use Rattle.reader.specs.Reading.{kept_in}
use Rattle.reader.specs.Steps.{tells}
use Rattle.reader.proofs.Places.{answered, none_left, byte_left, second-cut, second-high, second-well}
use Rattle.reader.proofs.second_at.Goals as goal

-- a byte stands at the place
module _ (c : goal.After-faulty-then-second-ge-STATUS) where
  abbrev x : ℕ
  x = get_or c.args.s.now (c.args.from + c.args.used) 0

  abbrev l : List ℕ
  l = drop (c.args.from + (c.args.used + 1)) c.args.s.now

  byte : drop (c.args.from + c.args.used) c.args.s.now ≡ x ∷ l
  byte = byte_left c.args.s.now c.args.from c.args.used c.if-s-at.false

-- a byte stands at the place
module _ (c : goal.After-sent) where
  abbrev x-at-2 : ℕ
  x-at-2 = get_or c.args.s.now (c.args.from + c.args.used) 0

  abbrev l-at-2 : List ℕ
  l-at-2 = drop (c.args.from + (c.args.used + 1)) c.args.s.now

  byte-at-2 : drop (c.args.from + c.args.used) c.args.s.now ≡ x-at-2 ∷ l-at-2
  byte-at-2 = byte_left c.args.s.now c.args.from c.args.used c.if-s-at.false

module _ (c : goal.After-faulty) where
  abbrev says : ℕ → List ℕ → Seen Event
  says t k = second_in kept_in c.args.status (t + c.args.gap) c.args.gap c.args.used c.args.first k

module _ (c : goal.After-faulty-then-second-ge-STATUS) where
  abbrev says-at-2 : ℕ → List ℕ → Seen Event
  says-at-2 t k = second_in kept_in c.args.status (t + c.args.gap) c.args.gap c.args.used c.args.first k

module _ (c : goal.After-sent) where
  abbrev says-at-3 : ℕ → List ℕ → Seen Event
  says-at-3 t k = second_in kept_in c.args.status (t + c.args.gap) c.args.gap c.args.used c.args.first k

pub returns-then-s-at : goal.returns-then-s-at
returns-then-s-at c =
    let a = c.args in
    answered c.faulty.result c.faulty.ensures
    (λ t. second-cut kept_in a.status (t + a.gap) a.gap a.used a.first ∙ ap (says c t) (sym (none_left a.s.now a.from a.used c.if-s-at.true)))

pub returns-then-second-ge-STATUS : goal.returns-then-second-ge-STATUS
returns-then-second-ge-STATUS c =
    let a = c.args in
    answered c.faulty-then-second-ge-STATUS.result c.faulty-then-second-ge-STATUS.ensures
    (λ t. second-high kept_in a.status (t + a.gap) a.gap a.used a.first (x c) (l c) c.if-second-ge-STATUS.true ∙ ap (says-at-2 c t) (sym (byte c)))

pub returns : goal.returns
unfolding tells
returns c =
    let a = c.args in
    rw c.sent.ensures
    record { at_each_time = λ t. second-well kept_in a.status (t + a.gap) a.gap a.used a.first (x-at-2 c) (l-at-2 c) c.if-second-ge-STATUS.false ∙ ap (says-at-3 c t) (sym (byte-at-2 c)); gap_lt_quantity_top = c.requires.1 }
