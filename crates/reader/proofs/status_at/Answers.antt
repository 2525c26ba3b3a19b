-- `status_at` meets its contract, by the byte that stands at the place (Places).
use mathlib.Core.Path.{◌≡◌, ap, sym, ◌∙◌}
use Prim.Native.Nat.{ℕ, ◌+◌}
use lib.ListN.{get_or, drop}
use mathlib.Core.List.{List, ◌∷◌}
use Rattle.chunks.specs.Reader.{Seen, message_in, status_in}
use Rattle.events.specs.declared.Event.{Event}
use Rattle.reader.specs.Reading.{kept_in}
use Rattle.reader.proofs.Places.{answered, none_left, byte_left, status-cut, no-running, runs, sends, meta-met, over-met, no-status}
use Rattle.reader.proofs.status_at.Goals as goal

-- a byte stands at the place
module _ (c : goal.After-faulty-then-running-eq0) where
  abbrev x : ℕ
  x = get_or c.args.s.now (c.args.from + c.args.used) 0

  abbrev l : List ℕ
  l = drop (c.args.from + (c.args.used + 1)) c.args.s.now

  byte : drop (c.args.from + c.args.used) c.args.s.now ≡ x ∷ l
  byte = byte_left c.args.s.now c.args.from c.args.used c.if-s-at.false

-- a byte stands at the place
module _ (c : goal.After-message_at) where
  abbrev x-at-2 : ℕ
  x-at-2 = get_or c.args.s.now (c.args.from + c.args.used) 0

  abbrev l-at-2 : List ℕ
  l-at-2 = drop (c.args.from + (c.args.used + 1)) c.args.s.now

  byte-at-2 : drop (c.args.from + c.args.used) c.args.s.now ≡ x-at-2 ∷ l-at-2
  byte-at-2 = byte_left c.args.s.now c.args.from c.args.used c.if-s-at.false

-- a byte stands at the place
module _ (c : goal.After-message_at-then-x-lt-SYSTEM) where
  abbrev x-at-3 : ℕ
  x-at-3 = get_or c.args.s.now (c.args.from + c.args.used) 0

  abbrev l-at-3 : List ℕ
  l-at-3 = drop (c.args.from + (c.args.used + 1)) c.args.s.now

  byte-at-3 : drop (c.args.from + c.args.used) c.args.s.now ≡ x-at-3 ∷ l-at-3
  byte-at-3 = byte_left c.args.s.now c.args.from c.args.used c.if-s-at.false

-- a byte stands at the place
module _ (c : goal.After-meta_at) where
  abbrev x-at-4 : ℕ
  x-at-4 = get_or c.args.s.now (c.args.from + c.args.used) 0

  abbrev l-at-4 : List ℕ
  l-at-4 = drop (c.args.from + (c.args.used + 1)) c.args.s.now

  byte-at-4 : drop (c.args.from + c.args.used) c.args.s.now ≡ x-at-4 ∷ l-at-4
  byte-at-4 = byte_left c.args.s.now c.args.from c.args.used c.if-s-at.false

-- a byte stands at the place
module _ (c : goal.After-step_over) where
  abbrev x-at-5 : ℕ
  x-at-5 = get_or c.args.s.now (c.args.from + c.args.used) 0

  abbrev l-at-5 : List ℕ
  l-at-5 = drop (c.args.from + (c.args.used + 1)) c.args.s.now

  byte-at-5 : drop (c.args.from + c.args.used) c.args.s.now ≡ x-at-5 ∷ l-at-5
  byte-at-5 = byte_left c.args.s.now c.args.from c.args.used c.if-s-at.false

-- a byte stands at the place
module _ (c : goal.After-faulty-2) where
  abbrev x-at-6 : ℕ
  x-at-6 = get_or c.args.s.now (c.args.from + c.args.used) 0

  abbrev l-at-6 : List ℕ
  l-at-6 = drop (c.args.from + (c.args.used + 1)) c.args.s.now

  byte-at-6 : drop (c.args.from + c.args.used) c.args.s.now ≡ x-at-6 ∷ l-at-6
  byte-at-6 = byte_left c.args.s.now c.args.from c.args.used c.if-s-at.false

module _ (c : goal.After-faulty) where
  abbrev says : ℕ → List ℕ → Seen Event
  says t k = status_in kept_in c.args.running (t + c.args.gap) c.args.gap c.args.used k

module _ (c : goal.After-faulty-then-running-eq0) where
  abbrev says-at-2 : ℕ → List ℕ → Seen Event
  says-at-2 t k = status_in kept_in c.args.running (t + c.args.gap) c.args.gap c.args.used k

module _ (c : goal.After-message_at) where
  abbrev says-at-3 : ℕ → List ℕ → Seen Event
  says-at-3 t k = status_in kept_in c.args.running (t + c.args.gap) c.args.gap c.args.used k

module _ (c : goal.After-message_at-then-x-lt-SYSTEM) where
  abbrev says-at-4 : ℕ → List ℕ → Seen Event
  says-at-4 t k = status_in kept_in c.args.running (t + c.args.gap) c.args.gap c.args.used k

module _ (c : goal.After-meta_at) where
  abbrev says-at-5 : ℕ → List ℕ → Seen Event
  says-at-5 t k = status_in kept_in c.args.running (t + c.args.gap) c.args.gap c.args.used k

module _ (c : goal.After-step_over) where
  abbrev says-at-6 : ℕ → List ℕ → Seen Event
  says-at-6 t k = status_in kept_in c.args.running (t + c.args.gap) c.args.gap c.args.used k

module _ (c : goal.After-faulty-2) where
  abbrev says-at-7 : ℕ → List ℕ → Seen Event
  says-at-7 t k = status_in kept_in c.args.running (t + c.args.gap) c.args.gap c.args.used k

pub returns-then-s-at : goal.returns-then-s-at
returns-then-s-at c =
    let a = c.args in
    answered c.faulty.result c.faulty.ensures
    (λ t. status-cut kept_in a.running (t + a.gap) a.gap a.used ∙ ap (says c t) (sym (none_left a.s.now a.from a.used c.if-s-at.true)))

pub returns-then-running-eq0 : goal.returns-then-running-eq0
returns-then-running-eq0 c =
    let a = c.args in
    answered c.faulty-then-running-eq0.result c.faulty-then-running-eq0.ensures
    (λ t. no-running kept_in a.running (t + a.gap) a.gap a.used (x c) (l c) c.if-x-lt-STATUS.true c.if-running-eq0.true ∙ ap (says-at-2 c t) (sym (byte c)))

pub returns-then-x-lt-STATUS : goal.returns-then-x-lt-STATUS
returns-then-x-lt-STATUS c =
    let a = c.args in
    answered c.message_at.result c.message_at.ensures
    (λ t.
    ap (message_in kept_in a.running (t + a.gap) a.gap a.used) (byte-at-2 c)
    ∙ runs kept_in a.running (t + a.gap) a.gap a.used (x-at-2 c) (l-at-2 c) c.if-x-lt-STATUS.true c.if-running-eq0.false
    ∙ ap (says-at-3 c t) (sym (byte-at-2 c)))

pub returns-then-x-lt-SYSTEM : goal.returns-then-x-lt-SYSTEM
returns-then-x-lt-SYSTEM c =
    let a = c.args in
    answered c.message_at-then-x-lt-SYSTEM.result c.message_at-then-x-lt-SYSTEM.ensures
    (λ t. sends kept_in a.running (t + a.gap) a.gap a.used (x-at-3 c) (l-at-3 c) c.if-x-lt-STATUS.false c.if-x-lt-SYSTEM.true ∙ ap (says-at-4 c t) (sym (byte-at-3 c)))

pub returns-then-x : goal.returns-then-x
returns-then-x c =
    let a = c.args in
    answered c.meta_at.result c.meta_at.ensures
    (λ t. meta-met kept_in a.running (t + a.gap) a.gap a.used (x-at-4 c) (l-at-4 c) c.if-x.true ∙ ap (says-at-5 c t) (sym (byte-at-4 c)))

pub returns-then-x-2 : goal.returns-then-x-2
returns-then-x-2 c =
    let a = c.args in
    answered c.step_over.result c.step_over.ensures
    (λ t. over-met kept_in a.running (t + a.gap) a.gap a.used (x-at-5 c) (l-at-5 c) c.if-x-lt-SYSTEM.false c.if-x.false c.if-x-2.true ∙ ap (says-at-6 c t) (sym (byte-at-5 c)))

pub returns : goal.returns
returns c =
    let a = c.args in
    answered c.faulty-2.result c.faulty-2.ensures
    (λ t. no-status kept_in a.running (t + a.gap) a.gap a.used (x-at-6 c) (l-at-6 c) c.if-x-lt-SYSTEM.false c.if-x.false c.if-x-2.false ∙ ap (says-at-7 c t) (sym (byte-at-6 c)))
