-- 02, b): "Two lists that differ in any event give different chunks, apart from what the chunk has no place for." What is read of a chunk is
-- the list without that (`reads-told`), so that chunks that are equal come of lists that agree but for it (`tells-apart`); and what a chunk is
-- made of does not look at it (`same-chunk`). The chunk's length says how many bytes follow (`length-says`).
use mathlib.Core.Bool.{Bool, true, false, cond}
use mathlib.Core.Path.{◌≡◌, refl, sym, ap, ap₂, subst, ◌∙◌}
use mathlib.Core.List.{List, [], ◌∷◌, ◌++◌, map}
use Prim.Native.Nat.{ℕ, ◌+◌, ◌*◌, ◌/◌, ◌%◌, ◌<◌}
use native.Mathlib.Omega.{arith}
use lib.IntN.{ℤ, pos}
use lib.ListN.{length, drop, length-append}
use Rattle.laws.specs.Integers.{eq_z, cut}
use Rattle.laws.specs.Lists.{all}
use Rattle.laws.specs.Rows.{flat}
use Rattle.laws.proofs.Bits.{eq_z-true}
use Rattle.laws.proofs.Ranges.{left, right}
use Rattle.numbers.specs.Ranges.{is_channel, is_bend}
use Rattle.events.specs.declared.Event.{Event}
use Rattle.events.specs.Kinds.{note_on, note_off, control_change, pitch_bend, voice, has_data}
use Rattle.events.specs.Events.{plain_event, ok_data, ok_event}
use Rattle.events.proofs.Stored.{Storable, storable}
use Rattle.quantities.specs.Quantities.{quantity_of}
use Rattle.quantities.proofs.Groups.{quantity-size}
use Rattle.chunks.specs.Chunks.{message_of, gap_after, written_after, body_from, body_of, big_endian, length_top, chunk_of}
use Rattle.chunks.specs.Writing.{is_data, fits, head_bytes}
use Rattle.chunks.specs.Steps.{Ready}
use Rattle.chunks.specs.Reader.{Whole, read_body, big_endian_in}
use Rattle.chunks.specs.Told.{Writes, told, event_in}
use Rattle.chunks.proofs.Sending.{Kinded, sounds, ends, controls, chooses, bends, kinded, inside-cut, says_is, channel-is, low-channel}
use Rattle.chunks.proofs.Readiness.{time-is, first-follows, first_fits, others, ready}
use Rattle.chunks.proofs.ReadBack.{made, read-body}

-- ---- what a message tells
data_is : (z : ℤ) → is_data z ≡ true → pos (cut z) ≡ z
unfolding is_data
data_is z h = sym (inside-cut 127 z h)

bend-is : (z : ℤ) → is_bend z ≡ true → pos (cut z % 128 + 128 * (cut z / 128)) ≡ z
unfolding is_bend
bend-is z h = ap pos (omega arith) ∙ sym (inside-cut 16383 z h)

on-is : (z : ℤ) → is_channel z ≡ true → pos (cut z) ≡ z
unfolding is_channel
on-is z h = sym (inside-cut 15 z h)

-- a kind without data has none
module _ (store : ℕ) (e : Event) (s : ok_data store e ≡ true) where
  no-offset : has_data e.kind ≡ false → e.offset ≡ pos 0
  unfolding ok_data
  no-offset k = eq_z-true e.offset (pos 0) (left (eq_z e.offset (pos 0)) (eq_z e.len (pos 0)) (rw k at s))

  no_bytes : has_data e.kind ≡ false → e.len ≡ pos 0
  unfolding ok_data
  no_bytes k = eq_z-true e.len (pos 0) (right (eq_z e.offset (pos 0)) (eq_z e.len (pos 0)) (rw k at s))

-- an event of a status, by what that says
module _ (c t a b : ℕ) (p : c < 16) where
  abbrev at : ℕ → ℕ
  at says = 16 * says + c

  on-said : event_in (at 9) t a b ≡ plain_event note_on (pos t) (pos c) (pos a) (pos 0) (pos b) ∷ []
  unfolding event_in
  on-said = rw (says_is 9 c p, channel-is 9 c p)

  off-said : event_in (at 8) t a b ≡ plain_event note_off (pos t) (pos c) (pos a) (pos 0) (pos 0) ∷ []
  unfolding event_in
  off-said = rw (says_is 8 c p, channel-is 8 c p)

  control-said : event_in (at 11) t a b ≡ plain_event control_change (pos t) (pos c) (pos a) (pos b) (pos 0) ∷ []
  unfolding event_in
  control-said = rw (says_is 11 c p, channel-is 11 c p)

  voice-said : event_in (at 12) t a b ≡ plain_event voice (pos t) (pos c) (pos a) (pos 0) (pos 0) ∷ []
  unfolding event_in
  voice-said = rw (says_is 12 c p, channel-is 12 c p)

  bend-said : event_in (at 14) t a b ≡ plain_event pitch_bend (pos t) (pos c) (pos (a + 128 * b)) (pos 0) (pos 0) ∷ []
  unfolding event_in
  bend-said = rw (says_is 14 c p, channel-is 14 c p)

-- events of equal fields are equal
alike : (k : ℤ) {t t' c c' a a' b b' d d' o n : ℤ} → t ≡ t' → c ≡ c' → a ≡ a' → b ≡ b' → d ≡ d' → o ≡ pos 0 → n ≡ pos 0
    → ◌≡◌ {A = List Event} (plain_event k t c a b d ∷ []) (record { kind = k; time = t'; channel = c'; v1 = a'; v2 = b'; v3 = d'; offset = o; len = n } ∷ [])
alike k t c a b d o n = cc

module _ (store : ℕ) (e : Event) (s : ok_event store e ≡ true) (f : fits e ≡ true) (late : pos (cut e.time) ≡ e.time) where
  abbrev parts : Storable store e
  parts = storable store e s

  abbrev c : ℕ
  c = cut e.channel

  abbrev t : ℕ
  t = cut e.time

  low : c < 16
  low = low-channel e parts.channel

  on : pos c ≡ e.channel
  on = on-is e.channel parts.channel

  -- what is heard of an event's message is the event without what a chunk has no place for
  pub told_back : made event_in e ≡ told e ∷ []
  unfolding message_of told has_data
  told_back = go (kinded e f)
    where
      none : (k : ℤ) → e.kind ≡ k → has_data k ≡ false → (e.offset ≡ pos 0) × (e.len ≡ pos 0)
      none k i h = let d = ap has_data i ∙ h in (no-offset store e parts.bytes d, no_bytes store e parts.bytes d)

      go : Kinded e → made event_in e ≡ told e ∷ []
      go (sounds k a b) =
          let n = none note_on k refl in
          rw k (on-said c t (cut e.v1) (cut e.v3) low ∙ alike note_on late on (data_is e.v1 a) refl (data_is e.v3 b) n.0 n.1)
      go (ends k a) =
          let n = none note_off k refl in
          rw k (off-said c t (cut e.v1) 0 low ∙ alike note_off late on (data_is e.v1 a) refl refl n.0 n.1)
      go (controls k a b) =
          let n = none control_change k refl in
          rw k (control-said c t (cut e.v1) (cut e.v2) low ∙ alike control_change late on (data_is e.v1 a) (data_is e.v2 b) refl n.0 n.1)
      go (chooses k a) =
          let n = none voice k refl in
          rw k (voice-said c t (cut e.v1) 0 low ∙ alike voice late on (data_is e.v1 a) refl refl n.0 n.1)
      go (bends k a) =
          let n = none pitch_bend k refl in
          rw k (bend-said c t (cut e.v1 % 128) (cut e.v1 / 128) low ∙ alike pitch_bend late on (bend-is e.v1 a) refl refl n.0 n.1)

-- ---- the list
-- each event has a byte at least, and so has the end of track
longer : (t : ℤ) (es : List Event) → length es < length (body_from t es)
unfolding body_from written_after quantity_of
longer t [] = omega arith
longer t (e ∷ es) =
    let q = quantity_of (gap_after t e) in
    let n = length-append (q ++ message_of e) (body_from e.time es) in
    let m = length-append q (message_of e) in
    let o = (quantity-size (gap_after t e)).0 in
    let h = longer e.time es in
    omega arith

-- of each event its message tells what there is to tell
all_told : (store t : ℕ) (es : List Event) → all (ok_event store) es ≡ true → Ready (pos t) es → flat (made event_in) es ≡ map told es
unfolding all
all_told store t [] s r = refl
all_told store t (e ∷ es) s r =
    let f = first-follows (pos t) e es r in
    let time = time-is t e f in
    let late : pos (cut e.time) ≡ e.time = ap (λ (z : ℤ). pos (cut z)) time ∙ sym time in
    let there = subst (λ (z : ℤ). Ready z es) time (others (pos t) e es r) in
    ap₂ ◌++◌ (told_back store e (left (ok_event store e) (all (ok_event store) es) s) (first_fits (pos t) e es r) late)
    (all_told store (t + gap_after (pos t) e) es (right (ok_event store e) (all (ok_event store) es) s) there)

-- what is written of it is read as the list without what a chunk has no place for
pub reads-told : (store : ℕ) (es : List Event) → Writes store es → read_body event_in (body_of es) ≡ record { code = 0; kept = map told es }
reads-told store es w =
    let r = ready store es w in
    read-body event_in (length (body_of es)) 0 0 es r (longer (pos 0) es) ∙ ap (λ (l : List Event). record { code = 0; kept = l }) (all_told store 0 es w.stored r)

-- ---- two lists
pub body-of : (es : List Event) → drop head_bytes (chunk_of es) ≡ body_of es
unfolding chunk_of big_endian
body-of es = refl

module _ {store stock : ℕ} (es fs : List Event) where
  pub tells-apart : Writes store es → Writes stock fs → chunk_of es ≡ chunk_of fs → map told es ≡ map told fs
  tells-apart w v same =
      let bodies = sym (body-of es) ∙ ap (drop head_bytes) same ∙ body-of fs in
      ap (λ (r : Whole Event). r.kept) (sym (reads-told store es w) ∙ ap (read_body event_in) bodies ∙ reads-told stock fs v)

-- a message does not look at what it does not tell
message-told : (e : Event) → message_of (told e) ≡ message_of e
unfolding message_of told
message-told e = go (eq_z e.kind note_on) (eq_z e.kind note_off) (eq_z e.kind control_change) _ _ _ _
  where
    go : (n o c : Bool) (x y : ℕ) (l m : List ℕ)
        → cond n (x ∷ cut e.v1 ∷ cut (cond n e.v3 (pos 0)) ∷ []) (cond o l (cond c (y ∷ cut e.v1 ∷ cut (cond c e.v2 (pos 0)) ∷ []) m))
        ≡ cond n (x ∷ cut e.v1 ∷ cut e.v3 ∷ []) (cond o l (cond c (y ∷ cut e.v1 ∷ cut e.v2 ∷ []) m))
    go true o c x y l m = refl
    go false true c x y l m = refl
    go false false true x y l m = refl
    go false false false x y l m = refl

body-told : (t : ℤ) (es : List Event) → body_from t (map told es) ≡ body_from t es
unfolding body_from written_after told
body-told t [] = refl
body-told t (e ∷ es) = ap₂ (λ (m b : List ℕ). (quantity_of (gap_after t e) ++ m) ++ b) (message-told e) (body-told e.time es)

pub chunk-told : (es : List Event) → chunk_of (map told es) ≡ chunk_of es
unfolding chunk_of
chunk-told es = rw (body-told (pos 0) es)

pub same-chunk : (es fs : List Event) → map told es ≡ map told fs → chunk_of es ≡ chunk_of fs
same-chunk es fs same = sym (chunk-told es) ∙ ap chunk_of same ∙ chunk-told fs

-- ---- the length
four_bytes : (n : ℕ) (l : List ℕ) → n < length_top → big_endian_in (big_endian n ++ l) ≡ n
unfolding big_endian
four_bytes n l g =
    let h : n < 4294967296 = g in
    let a : n / 16777216 % 256 ≡ n / 16777216 = omega arith in
    let b : n / 65536 ≡ n / 16777216 * 256 + n / 65536 % 256 = omega arith in
    let c : n / 256 ≡ n / 65536 * 256 + n / 256 % 256 = omega arith in
    let d : n ≡ n / 256 * 256 + n % 256 = omega arith in
    omega arith

pub length-says : (es : List Event) → length (body_of es) < length_top → big_endian_in (drop 4 (chunk_of es)) ≡ length (drop head_bytes (chunk_of es))
unfolding chunk_of
length-says es h = four_bytes (length (body_of es)) (body_of es) h ∙ ap length (sym (body-of es))
