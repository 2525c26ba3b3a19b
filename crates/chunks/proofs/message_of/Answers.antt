-- `message_of` meets its contract: in each arm, what fits is what the definition lays, and the last kind that fits is Voice.
use mathlib.Core.Path.{◌≡◌, refl, sym, ap, ◌∙◌}
use mathlib.Core.Bool.{Bool, true, false, ◌||◌, true≢false}
use mathlib.Core.List.{[], ◌∷◌}
use mathlib.Core.Logic.{⊎_elim}
use Prim.Native.Nat.{ℕ, ◌+◌, ◌/◌, ◌%◌}
use lib.Dec.{lit<}
use lib.IntN.{ℤ}
use mir.Syntax.{w64}
use mir.Val.{SFits, to_z, of_z}
use mir.Facts.{to_z-of_z}
use Rattle.laws.specs.Integers.{eq_z, cut}
use Rattle.laws.proofs.Bits.{eq_z-true}
use Rattle.laws.proofs.Bools.{which}
use Rattle.laws.proofs.Ranges.{left, right}
use Rattle.numbers.specs.Ranges.{is_bend}
use Rattle.events.specs.declared.Event.{Event}
use Rattle.events.specs.Kinds.{note_on, note_off, control_change, pitch_bend, voice}
use Rattle.chunks.specs.Chunks.{message_of}
use Rattle.chunks.specs.Writing.{is_data, fits}
use Rattle.chunks.proofs.Leaves.{is-kind, not-kind}
use Rattle.chunks.proofs.message_of.Goals as goal

-- a number that was handed over as bits, read back
read : {z : ℤ} {r : ℕ} (f : ℤ → ℕ) → SFits w64 z → r ≡ f (to_z w64 (of_z w64 z)) → r ≡ f z
read f p e = e ∙ ap f (to_z-of_z p)

asked : {z : ℤ} (f : ℤ → Bool) → SFits w64 z → f z ≡ true → f (to_z w64 (of_z w64 z)) ≡ true
asked f p e = ap f (to_z-of_z p) ∙ e

three : {a b c x y z : ℕ} → a ≡ x → b ≡ y → c ≡ z → a ∷ b ∷ c ∷ [] ≡ x ∷ y ∷ z ∷ []
three p q r = rw (p, q, r)

two : {a b x y : ℕ} → a ≡ x → b ≡ y → a ∷ b ∷ [] ≡ x ∷ y ∷ []
two p q = rw (p, q)

-- ---- what fits, by the kind
alone : (b : Bool) → (b || false) ≡ true → b ≡ true
alone true h = refl
alone false h = h

module _ (e : Event) (h : fits e ≡ true) where
  on : e.kind ≡ note_on → (is_data e.v1 ≡ true) × (is_data e.v3 ≡ true)
  unfolding fits
  on k = let b = alone _ (alone _ (alone _ (alone _ (rw k at h)))) in (left (is_data e.v1) (is_data e.v3) b, right (is_data e.v1) (is_data e.v3) b)

  off : e.kind ≡ note_off → is_data e.v1 ≡ true
  unfolding fits
  off k = alone _ (alone _ (alone _ (rw k at h)))

  control : e.kind ≡ control_change → (is_data e.v1 ≡ true) × (is_data e.v2 ≡ true)
  unfolding fits
  control k = let b = alone _ (alone _ (rw k at h)) in (left (is_data e.v1) (is_data e.v2) b, right (is_data e.v1) (is_data e.v2) b)

  bend : e.kind ≡ pitch_bend → is_bend e.v1 ≡ true
  unfolding fits
  bend k = rw k at h

  program : e.kind ≡ voice → is_data e.v1 ≡ true
  unfolding fits
  program k = alone _ (rw k at h)

  -- none of the four others
  is-voice : eq_z e.kind note_on ≡ false → eq_z e.kind note_off ≡ false → eq_z e.kind control_change ≡ false → eq_z e.kind pitch_bend ≡ false → e.kind ≡ voice
  unfolding fits
  is-voice a b c d = ⊎_elim (λ t. eq_z-true e.kind voice t) (λ (t : eq_z e.kind voice ≡ false). absurd (true≢false (sym (rw (a, b, c, t, d) at h)))) (which (eq_z e.kind voice))

-- ---- the event as it is handed over
module _ (c : goal.After-struct_told-in-0-2-1) where
  abbrev event : Event
  event = c.args.e

  ok : fits event ≡ true
  ok = c.requires.0

  kind_fits : SFits w64 event.kind
  kind_fits = record { sfits = c.struct_told-1.given.0.1 }

  v1-fits : SFits w64 event.v1
  v1-fits = record { sfits = c.struct_told-1.given.1.1.1.0.1 }

-- ---- the event as it is handed over
module _ (c : goal.After-struct_told-in-0-3-1) where
  abbrev event-at-2 : Event
  event-at-2 = c.args.e

  ok-at-2 : fits event-at-2 ≡ true
  ok-at-2 = c.requires.0

  kind_fits-at-2 : SFits w64 event-at-2.kind
  kind_fits-at-2 = record { sfits = c.struct_told-1.given.0.1 }

  v3-fits-at-2 : SFits w64 event-at-2.v3
  v3-fits-at-2 = record { sfits = c.struct_told-1.given.1.1.1.1.1.0.1 }

-- ---- the event as it is handed over
module _ (c : goal.After-struct_told-in-1-2-1) where
  abbrev event-at-3 : Event
  event-at-3 = c.args.e

  ok-at-3 : fits event-at-3 ≡ true
  ok-at-3 = c.requires.0

  kind_fits-at-3 : SFits w64 event-at-3.kind
  kind_fits-at-3 = record { sfits = c.struct_told-1.given.0.1 }

  v1-fits-at-3 : SFits w64 event-at-3.v1
  v1-fits-at-3 = record { sfits = c.struct_told-1.given.1.1.1.0.1 }

-- ---- the event as it is handed over
module _ (c : goal.After-struct_told-in-2-2-1) where
  abbrev event-at-4 : Event
  event-at-4 = c.args.e

  ok-at-4 : fits event-at-4 ≡ true
  ok-at-4 = c.requires.0

  kind_fits-at-4 : SFits w64 event-at-4.kind
  kind_fits-at-4 = record { sfits = c.struct_told-1.given.0.1 }

  v1-fits-at-4 : SFits w64 event-at-4.v1
  v1-fits-at-4 = record { sfits = c.struct_told-1.given.1.1.1.0.1 }

-- ---- the event as it is handed over
module _ (c : goal.After-struct_told-in-2-3-1) where
  abbrev event-at-5 : Event
  event-at-5 = c.args.e

  ok-at-5 : fits event-at-5 ≡ true
  ok-at-5 = c.requires.0

  kind_fits-at-5 : SFits w64 event-at-5.kind
  kind_fits-at-5 = record { sfits = c.struct_told-1.given.0.1 }

  v2-fits-at-5 : SFits w64 event-at-5.v2
  v2-fits-at-5 = record { sfits = c.struct_told-1.given.1.1.1.1.0.1 }

-- ---- the event as it is handed over
module _ (c : goal.After-struct_told-in-3-2-1) where
  abbrev event-at-6 : Event
  event-at-6 = c.args.e

  ok-at-6 : fits event-at-6 ≡ true
  ok-at-6 = c.requires.0

  kind_fits-at-6 : SFits w64 event-at-6.kind
  kind_fits-at-6 = record { sfits = c.struct_told-1.given.0.1 }

  v1-fits-at-6 : SFits w64 event-at-6.v1
  v1-fits-at-6 = record { sfits = c.struct_told-1.given.1.1.1.0.1 }

-- ---- the event as it is handed over
module _ (c : goal.After-struct_told-in-3-3-1) where
  abbrev event-at-7 : Event
  event-at-7 = c.args.e

  ok-at-7 : fits event-at-7 ≡ true
  ok-at-7 = c.requires.0

  kind_fits-at-7 : SFits w64 event-at-7.kind
  kind_fits-at-7 = record { sfits = c.struct_told-1.given.0.1 }

  v1-fits-at-7 : SFits w64 event-at-7.v1
  v1-fits-at-7 = record { sfits = c.struct_told-1.given.1.1.1.0.1 }

-- ---- the event as it is handed over
module _ (c : goal.After-struct_told-in_default-2-1) where
  abbrev event-at-8 : Event
  event-at-8 = c.args.e

  ok-at-8 : fits event-at-8 ≡ true
  ok-at-8 = c.requires.0

  kind_fits-at-8 : SFits w64 event-at-8.kind
  kind_fits-at-8 = record { sfits = c.struct_told-1.given.0.1 }

  v1-fits-at-8 : SFits w64 event-at-8.v1
  v1-fits-at-8 = record { sfits = c.struct_told-1.given.1.1.1.0.1 }

-- ---- the event as it is handed over
module _ (c : goal.After-long) where
  abbrev event-at-9 : Event
  event-at-9 = c.args.e

  kind_fits-at-9 : SFits w64 event-at-9.kind
  kind_fits-at-9 = record { sfits = c.struct_told-1.given.0.1 }

  channel-fits-at-9 : SFits w64 event-at-9.channel
  channel-fits-at-9 = record { sfits = c.struct_told-1.given.1.1.0.1 }

  v1-fits-at-9 : SFits w64 event-at-9.v1
  v1-fits-at-9 = record { sfits = c.struct_told-1.given.1.1.1.0.1 }

  v3-fits-at-9 : SFits w64 event-at-9.v3
  v3-fits-at-9 = record { sfits = c.struct_told-1.given.1.1.1.1.1.0.1 }

-- ---- the event as it is handed over
module _ (c : goal.After-long-in-1) where
  abbrev event-at-10 : Event
  event-at-10 = c.args.e

  kind_fits-at-10 : SFits w64 event-at-10.kind
  kind_fits-at-10 = record { sfits = c.struct_told-1.given.0.1 }

  channel-fits-at-10 : SFits w64 event-at-10.channel
  channel-fits-at-10 = record { sfits = c.struct_told-1.given.1.1.0.1 }

  v1-fits-at-10 : SFits w64 event-at-10.v1
  v1-fits-at-10 = record { sfits = c.struct_told-1.given.1.1.1.0.1 }

-- ---- the event as it is handed over
module _ (c : goal.After-long-in-2) where
  abbrev event-at-11 : Event
  event-at-11 = c.args.e

  kind_fits-at-11 : SFits w64 event-at-11.kind
  kind_fits-at-11 = record { sfits = c.struct_told-1.given.0.1 }

  channel-fits-at-11 : SFits w64 event-at-11.channel
  channel-fits-at-11 = record { sfits = c.struct_told-1.given.1.1.0.1 }

  v1-fits-at-11 : SFits w64 event-at-11.v1
  v1-fits-at-11 = record { sfits = c.struct_told-1.given.1.1.1.0.1 }

  v2-fits-at-11 : SFits w64 event-at-11.v2
  v2-fits-at-11 = record { sfits = c.struct_told-1.given.1.1.1.1.0.1 }

-- ---- the event as it is handed over
module _ (c : goal.After-long-in-3) where
  abbrev event-at-12 : Event
  event-at-12 = c.args.e

  kind_fits-at-12 : SFits w64 event-at-12.kind
  kind_fits-at-12 = record { sfits = c.struct_told-1.given.0.1 }

  channel-fits-at-12 : SFits w64 event-at-12.channel
  channel-fits-at-12 = record { sfits = c.struct_told-1.given.1.1.0.1 }

  v1-fits-at-12 : SFits w64 event-at-12.v1
  v1-fits-at-12 = record { sfits = c.struct_told-1.given.1.1.1.0.1 }

-- ---- the event as it is handed over
module _ (c : goal.After-short) where
  abbrev event-at-13 : Event
  event-at-13 = c.args.e

  ok-at-13 : fits event-at-13 ≡ true
  ok-at-13 = c.requires.0

  kind_fits-at-13 : SFits w64 event-at-13.kind
  kind_fits-at-13 = record { sfits = c.struct_told-1.given.0.1 }

  channel-fits-at-13 : SFits w64 event-at-13.channel
  channel-fits-at-13 = record { sfits = c.struct_told-1.given.1.1.0.1 }

  v1-fits-at-13 : SFits w64 event-at-13.v1
  v1-fits-at-13 = record { sfits = c.struct_told-1.given.1.1.1.0.1 }

is-on : (c : goal.After-struct_told-in-0-2-1) → (event c).kind ≡ note_on
is-on c = is-kind (kind_fits c) 0 (lit< tt) c.in-0.in-0-own.keys1

is-on-at-2 : (c : goal.After-struct_told-in-0-3-1) → (event-at-2 c).kind ≡ note_on
is-on-at-2 c = is-kind (kind_fits-at-2 c) 0 (lit< tt) c.in-0.in-0-own.keys1

is-on-at-3 : (c : goal.After-long) → (event-at-9 c).kind ≡ note_on
is-on-at-3 c = is-kind (kind_fits-at-9 c) 0 (lit< tt) c.in-0.in-0-own.keys1

is-off : (c : goal.After-struct_told-in-1-2-1) → (event-at-3 c).kind ≡ note_off
is-off c = is-kind (kind_fits-at-3 c) 1 (lit< tt) c.in-1.in-1-own.keys2

is-off-at-2 : (c : goal.After-long-in-1) → (event-at-10 c).kind ≡ note_off
is-off-at-2 c = is-kind (kind_fits-at-10 c) 1 (lit< tt) c.in-1.in-1-own.keys2

is_control : (c : goal.After-struct_told-in-2-2-1) → (event-at-4 c).kind ≡ control_change
is_control c = is-kind (kind_fits-at-4 c) 2 (lit< tt) c.in-2.in-2-own.keys3

is_control-at-2 : (c : goal.After-struct_told-in-2-3-1) → (event-at-5 c).kind ≡ control_change
is_control-at-2 c = is-kind (kind_fits-at-5 c) 2 (lit< tt) c.in-2.in-2-own.keys3

is_control-at-3 : (c : goal.After-long-in-2) → (event-at-11 c).kind ≡ control_change
is_control-at-3 c = is-kind (kind_fits-at-11 c) 2 (lit< tt) c.in-2.in-2-own.keys3

is-bend : (c : goal.After-struct_told-in-3-2-1) → (event-at-6 c).kind ≡ pitch_bend
is-bend c = is-kind (kind_fits-at-6 c) 3 (lit< tt) c.in-3.in-3-own.keys4

is-bend-at-2 : (c : goal.After-struct_told-in-3-3-1) → (event-at-7 c).kind ≡ pitch_bend
is-bend-at-2 c = is-kind (kind_fits-at-7 c) 3 (lit< tt) c.in-3.in-3-own.keys4

is-bend-at-3 : (c : goal.After-long-in-3) → (event-at-12 c).kind ≡ pitch_bend
is-bend-at-3 c = is-kind (kind_fits-at-12 c) 3 (lit< tt) c.in-3.in-3-own.keys4

is-program : (c : goal.After-struct_told-in_default-2-1) → (event-at-8 c).kind ≡ voice
is-program c =
    let f = kind_fits-at-8 c in
    let r = c.in_default.in_default-own.rest in
    is-voice (event-at-8 c) (ok-at-8 c) (not-kind f 0 (lit< tt) r.0.0.0.1) (not-kind f 1 (lit< tt) r.0.0.1) (not-kind f 2 (lit< tt) r.0.1) (not-kind f 3 (lit< tt) r.1)

is-program-at-2 : (c : goal.After-short) → (event-at-13 c).kind ≡ voice
is-program-at-2 c =
    let f = kind_fits-at-13 c in
    let r = c.in_default.in_default-own.rest in
    is-voice (event-at-13 c) (ok-at-13 c) (not-kind f 0 (lit< tt) r.0.0.0.1) (not-kind f 1 (lit< tt) r.0.0.1) (not-kind f 2 (lit< tt) r.0.1) (not-kind f 3 (lit< tt) r.1)

pub data-requires : goal.data-requires
data-requires c =
    asked is_data (v1-fits c) (on (event c) (ok c) (is-on c)).0

pub data-requires-in-0 : goal.data-requires-in-0
data-requires-in-0 c =
    asked is_data (v3-fits-at-2 c) (on (event-at-2 c) (ok-at-2 c) (is-on-at-2 c)).1

pub data-requires-in-1 : goal.data-requires-in-1
data-requires-in-1 c =
    asked is_data (v1-fits-at-3 c) (off (event-at-3 c) (ok-at-3 c) (is-off c))

pub data-requires-in-2 : goal.data-requires-in-2
data-requires-in-2 c =
    asked is_data (v1-fits-at-4 c) (control (event-at-4 c) (ok-at-4 c) (is_control c)).0

pub data-requires-in-2-2 : goal.data-requires-in-2-2
data-requires-in-2-2 c =
    asked is_data (v2-fits-at-5 c) (control (event-at-5 c) (ok-at-5 c) (is_control-at-2 c)).1

pub low-requires : goal.low-requires
low-requires c =
    asked is_bend (v1-fits-at-6 c) (bend (event-at-6 c) (ok-at-6 c) (is-bend c))

pub high-requires : goal.high-requires
high-requires c =
    asked is_bend (v1-fits-at-7 c) (bend (event-at-7 c) (ok-at-7 c) (is-bend-at-2 c))

pub data-requires-in_default : goal.data-requires-in_default
data-requires-in_default c =
    asked is_data (v1-fits-at-8 c) (program (event-at-8 c) (ok-at-8 c) (is-program c))

pub returns-in-0 : goal.returns-in-0
unfolding message_of
returns-in-0 c =
    rw (is-on-at-3 c) (c.long.ensures ∙ three (read (λ z. 144 + cut z) (channel-fits-at-9 c) c.status.ensures) (read cut (v1-fits-at-9 c) c.data.ensures) (read cut (v3-fits-at-9 c) c.data-in-0.ensures))

pub returns-in-1 : goal.returns-in-1
unfolding message_of
returns-in-1 c =
    rw (is-off-at-2 c) (c.long-in-1.ensures ∙ three (read (λ z. 128 + cut z) (channel-fits-at-10 c) c.status-in-1.ensures) (read cut (v1-fits-at-10 c) c.data-in-1.ensures) refl)

pub returns-in-2 : goal.returns-in-2
unfolding message_of
returns-in-2 c =
    rw (is_control-at-3 c) (c.long-in-2.ensures ∙ three (read (λ z. 176 + cut z) (channel-fits-at-11 c) c.status-in-2.ensures) (read cut (v1-fits-at-11 c) c.data-in-2.ensures) (read cut (v2-fits-at-11 c) c.data-in-2-2.ensures))

pub returns-in-3 : goal.returns-in-3
unfolding message_of
returns-in-3 c =
    rw (is-bend-at-3 c) (c.long-in-3.ensures ∙ three (read (λ z. 224 + cut z) (channel-fits-at-12 c) c.status-in-3.ensures) (read (λ z. cut z % 128) (v1-fits-at-12 c) c.low.ensures) (read (λ z. cut z / 128) (v1-fits-at-12 c) c.high.ensures))

pub returns-in_default : goal.returns-in_default
unfolding message_of
returns-in_default c =
    rw (is-program-at-2 c) (c.short.ensures ∙ two (read (λ z. 192 + cut z) (channel-fits-at-13 c) c.status-in_default.ensures) (read cut (v1-fits-at-13 c) c.data-in_default.ensures))
