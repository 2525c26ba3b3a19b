-- `quick_at` meets its contract: behind a gap of one byte, a message under running status or with its own (Places).
use mathlib.Core.Path.{◌≡◌, ap, sym, ◌∙◌}
use mathlib.Core.List.{List, ◌∷◌}
use Prim.Native.Nat.{ℕ, ◌+◌, ◌<◌}
use native.Mathlib.Omega.{arith}
use lib.ListN.{length, get_or, drop}
use Rattle.std.proofs.lemmas.Option.{IfSome_then}
use Rattle.chunks.specs.Reader.{message_in, status_in, seen_in}
use Rattle.reader.specs.Reading.{kept_in}
use Rattle.reader.proofs.Places.{byte_left, message-two, runs, sends, seen-quick}
use Rattle.reader.proofs.quick_at.Goals as goal

-- four bytes stand at the place, the first of them a gap
module _ (c : goal.After-quick_second) where
  abbrev b : List ℕ
  b = c.args.s.now

  abbrev p : ℕ
  p = c.args.from

  four : p + 3 < length b
  four = omega (arith, c.if-s-from-lt4.false)

  abbrev g : ℕ
  g = get_or b p 0

  abbrev x : ℕ
  x = get_or b (p + 1) 0

  -- what stands behind the gap is what stands at the place
  behind-gap : (t : ℕ) → status_in kept_in c.args.running (t + g) g 1 (x ∷ drop (p + 2) b) ≡ seen_in kept_in c.args.running t (drop p b)
  behind-gap t =
      ap (status_in kept_in c.args.running (t + g) g 1) (sym (byte_left b p 1 (omega (arith, four))))
      ∙ seen-quick kept_in c.args.running t b p (omega (arith, four)) c.if-gap-ge-STATUS.false

-- four bytes stand at the place, the first of them a gap
module _ (c : goal.Else-first-ge-STATUS) where
  abbrev p-at-2 : ℕ
  p-at-2 = c.args.from

-- four bytes stand at the place, the first of them a gap
module _ (c : goal.After-quick_second-2) where
  abbrev b-at-3 : List ℕ
  b-at-3 = c.args.s.now

  abbrev p-at-3 : ℕ
  p-at-3 = c.args.from

  four-at-3 : p-at-3 + 3 < length b-at-3
  four-at-3 = omega (arith, c.if-s-from-lt4.false)

  abbrev g-at-3 : ℕ
  g-at-3 = get_or b-at-3 p-at-3 0

  abbrev x-at-3 : ℕ
  x-at-3 = get_or b-at-3 (p-at-3 + 1) 0

  -- what stands behind the gap is what stands at the place
  behind-gap-at-3 : (t : ℕ) → status_in kept_in c.args.running (t + g-at-3) g-at-3 1 (x-at-3 ∷ drop (p-at-3 + 2) b-at-3) ≡ seen_in kept_in c.args.running t (drop p-at-3 b-at-3)
  behind-gap-at-3 t =
      ap (status_in kept_in c.args.running (t + g-at-3) g-at-3 1) (sym (byte_left b-at-3 p-at-3 1 (omega (arith, four-at-3))))
      ∙ seen-quick kept_in c.args.running t b-at-3 p-at-3 (omega (arith, four-at-3)) c.if-gap-ge-STATUS.false

pub returns-then-x-lt-STATUS : goal.returns-then-x-lt-STATUS
returns-then-x-lt-STATUS c =
    let r = c.args.running in
    IfSome_then c.quick_second.result c.quick_second.ensures
    (λ f q.
    let d = q.2 in (
      q.0,
      q.1,
      q.3,
      λ t.
          q.4 t
          ∙ message-two kept_in r (t + g c) (g c) 1 (x c) (drop (p c + 2) (b c)) c.if-x-lt-STATUS.true d.double
          ∙ runs kept_in r (t + g c) (g c) 1 (x c) (drop (p c + 2) (b c)) c.if-x-lt-STATUS.true (λ (h : r ≡ 0). absurd (omega (arith, h, d.low)))
          ∙ behind-gap c t,
    ))

pub overflow_cast-x : goal.overflow_cast-x
overflow_cast-x c = omega (arith, c.shared_slice_known-2-1.given (p-at-2 c + 1))

pub returns : goal.returns
returns c =
    let r = c.args.running in
    let a = get_or (b-at-3 c) (p-at-3 c + 2) 0 in
    IfSome_then c.quick_second-2.result c.quick_second-2.ensures
    (λ f q.
    let d = q.2 in (
      q.0,
      q.1,
      q.3,
      λ t.
          q.4 t
          ∙ message-two kept_in (x-at-3 c) (t + g-at-3 c) (g-at-3 c) 2 a (drop (p-at-3 c + 3) (b-at-3 c)) c.if-first-ge-STATUS.false d.double
          ∙ ap (message_in kept_in (x-at-3 c) (t + g-at-3 c) (g-at-3 c) 2) (sym (byte_left (b-at-3 c) (p-at-3 c) 2 (omega (arith, four-at-3 c))))
          ∙ sends kept_in r (t + g-at-3 c) (g-at-3 c) 1 (x-at-3 c) (drop (p-at-3 c + 2) (b-at-3 c)) d.low d.high
          ∙ behind-gap-at-3 c t,
    ))
