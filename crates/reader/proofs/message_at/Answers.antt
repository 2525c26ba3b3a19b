-- `message_at` meets its contract, by the byte that stands at the place and by whether the status has one (Places).
use mathlib.Core.Path.{◌≡◌, ap, sym, ◌∙◌}
use Prim.Native.Nat.{ℕ, ◌+◌}
use lib.ListN.{get_or, drop}
use mathlib.Core.List.{List, ◌∷◌}
use Rattle.chunks.specs.Reader.{Seen, message_in}
use Rattle.events.specs.declared.Event.{Event}
use Rattle.reader.specs.Reading.{kept_in}
use Rattle.reader.specs.Steps.{tells}
use Rattle.reader.proofs.Places.{answered, none_left, byte_left, message-cut, message-high, message-one, message-two}
use Rattle.reader.proofs.message_at.Goals as goal

-- a byte stands at the place
module _ (c : goal.After-faulty-then-first-ge-STATUS) where
  abbrev x : ℕ
  x = get_or c.args.s.now (c.args.from + c.args.used) 0

  abbrev l : List ℕ
  l = drop (c.args.from + (c.args.used + 1)) c.args.s.now

  byte : drop (c.args.from + c.args.used) c.args.s.now ≡ x ∷ l
  byte = byte_left c.args.s.now c.args.from c.args.used c.if-s-at.false

-- a byte stands at the place
module _ (c : goal.After-sent) where
  abbrev x-at-2 : ℕ
  x-at-2 = get_or c.args.s.now (c.args.from + c.args.used) 0

  abbrev l-at-2 : List ℕ
  l-at-2 = drop (c.args.from + (c.args.used + 1)) c.args.s.now

  byte-at-2 : drop (c.args.from + c.args.used) c.args.s.now ≡ x-at-2 ∷ l-at-2
  byte-at-2 = byte_left c.args.s.now c.args.from c.args.used c.if-s-at.false

-- a byte stands at the place
module _ (c : goal.After-second_at) where
  abbrev x-at-3 : ℕ
  x-at-3 = get_or c.args.s.now (c.args.from + c.args.used) 0

  abbrev l-at-3 : List ℕ
  l-at-3 = drop (c.args.from + (c.args.used + 1)) c.args.s.now

  byte-at-3 : drop (c.args.from + c.args.used) c.args.s.now ≡ x-at-3 ∷ l-at-3
  byte-at-3 = byte_left c.args.s.now c.args.from c.args.used c.if-s-at.false

module _ (c : goal.After-faulty) where
  abbrev says : ℕ → List ℕ → Seen Event
  says t k = message_in kept_in c.args.status (t + c.args.gap) c.args.gap c.args.used k

module _ (c : goal.After-faulty-then-first-ge-STATUS) where
  abbrev says-at-2 : ℕ → List ℕ → Seen Event
  says-at-2 t k = message_in kept_in c.args.status (t + c.args.gap) c.args.gap c.args.used k

module _ (c : goal.After-sent) where
  abbrev says-at-3 : ℕ → List ℕ → Seen Event
  says-at-3 t k = message_in kept_in c.args.status (t + c.args.gap) c.args.gap c.args.used k

module _ (c : goal.After-second_at) where
  abbrev says-at-4 : ℕ → List ℕ → Seen Event
  says-at-4 t k = message_in kept_in c.args.status (t + c.args.gap) c.args.gap c.args.used k

pub returns-then-s-at : goal.returns-then-s-at
returns-then-s-at c =
    let a = c.args in
    answered c.faulty.result c.faulty.ensures
    (λ t. message-cut kept_in a.status (t + a.gap) a.gap a.used ∙ ap (says c t) (sym (none_left a.s.now a.from a.used c.if-s-at.true)))

pub returns-then-first-ge-STATUS : goal.returns-then-first-ge-STATUS
returns-then-first-ge-STATUS c =
    let a = c.args in
    answered c.faulty-then-first-ge-STATUS.result c.faulty-then-first-ge-STATUS.ensures
    (λ t. message-high kept_in a.status (t + a.gap) a.gap a.used (x c) (l c) c.if-first-ge-STATUS.true ∙ ap (says-at-2 c t) (sym (byte c)))

pub returns-then-is_single : goal.returns-then-is_single
unfolding tells
returns-then-is_single c =
    let a = c.args in
    rw c.sent.ensures
    record { at_each_time = λ t. message-one kept_in a.status (t + a.gap) a.gap a.used (x-at-2 c) (l-at-2 c) c.if-first-ge-STATUS.false (sym c.is_single.ensures ∙ c.if-is_single.true) ∙ ap (says-at-3 c t) (sym (byte-at-2 c)); gap_lt_quantity_top = c.requires.1 }

pub returns : goal.returns
returns c =
    let a = c.args in
    answered c.second_at.result c.second_at.ensures
    (λ t. message-two kept_in a.status (t + a.gap) a.gap a.used (x-at-3 c) (l-at-3 c) c.if-first-ge-STATUS.false (sym c.is_single.ensures ∙ c.if-is_single.false) ∙ ap (says-at-4 c t) (sym (byte-at-3 c)))
