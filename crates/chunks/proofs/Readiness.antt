-- A list that is ready to be written behind a time: its first event is, and the others are behind it.
--     time-is, gap-small                                             the time and the gap of what follows a time
--     first-channel, first-time, first-follows, first_fits, others   the parts of a list that is ready
--     first-writable                                                 its first event can be written
--     ready                                                          a list that can be written is ready from time 0 on
use mathlib.Core.Bool.{Bool, true, ◌&&◌}
use mathlib.Core.Path.{◌≡◌, sym, ap, ◌∙◌}
use mathlib.Core.List.{List, ◌∷◌}
use Prim.Native.Nat.{ℕ, ◌+◌, ◌<◌}
use native.Mathlib.Omega.{arith}
use lib.IntN.{ℤ, pos, ◌+ℤ◌, ◌-ℤ◌, -ℤ-+ℤ_cancel}
use Rattle.laws.specs.Lists.{all}
use Rattle.laws.proofs.Every.{all-imply}
use Rattle.laws.proofs.Ranges.{left, right}
use Rattle.numbers.specs.Ranges.{is_event_time, is_channel, is_word}
use Rattle.events.specs.declared.Event.{Event}
use Rattle.events.specs.Kinds.{is_kind}
use Rattle.events.specs.Events.{ok_numbered, ok_data, ok_plain, ok_event}
use Rattle.quantities.specs.Quantities.{quantity_top}
use Rattle.chunks.specs.Chunks.{gap_after}
use Rattle.chunks.specs.Writing.{longest_gap, follows, fits, gapped}
use Rattle.chunks.specs.Steps.{Writable, Ready}
use Rattle.chunks.specs.Told.{Writes}
use Rattle.chunks.proofs.Leaves.{cut_most}
use Rattle.chunks.proofs.Sending.{inside-cut}

-- ---- an event
module _ (e : Event) (p : ok_plain e ≡ true) where
  abbrev two : Bool
  two = is_kind e.kind && is_event_time e.time

  abbrev three : Bool
  three = two && is_channel e.channel

  abbrev four : Bool
  four = three && is_word e.v1

  abbrev five : Bool
  five = four && is_word e.v2

  to-three : three ≡ true
  to-three = left three (is_word e.v1) (left four (is_word e.v2) (left five (is_word e.v3) (left (five && is_word e.v3) (ok_numbered e) p)))

  channel-of : is_channel e.channel ≡ true
  channel-of = right two (is_channel e.channel) to-three

  time-of : is_event_time e.time ≡ true
  time-of = right (is_kind e.kind) (is_event_time e.time) (left two (is_channel e.channel) to-three)

-- ---- what follows a time
module _ (t : ℕ) (e : Event) (f : follows (pos t) e ≡ true) where
  pub time-is : e.time ≡ pos (t + gap_after (pos t) e)
  time-is =
      let w = inside-cut longest_gap (e.time -ℤ pos t) f in
      sym (-ℤ-+ℤ_cancel e.time (pos t)) ∙ ap (λ (z : ℤ). z +ℤ pos t) w ∙ ap pos (omega arith)

  pub gap-small : gap_after (pos t) e < quantity_top
  gap-small = let m = cut_most longest_gap (e.time -ℤ pos t) f in let h : gap_after (pos t) e < 268435456 = omega arith in h

-- ---- a list
module _ (t : ℤ) (e : Event) (es : List Event) (r : Ready t (e ∷ es)) where
  plain-first : ok_plain e ≡ true
  unfolding all
  plain-first = left (ok_plain e) (all ok_plain es) r.plain

  pub first-follows : follows t e ≡ true
  unfolding gapped
  first-follows = left (follows t e) (gapped e.time es) r.gaps

  pub first_fits : fits e ≡ true
  unfolding all
  first_fits = left (fits e) (all fits es) r.fields

  pub first-channel : is_channel e.channel ≡ true
  first-channel = channel-of e plain-first

  pub first-time : is_event_time e.time ≡ true
  first-time = time-of e plain-first

  pub others : Ready e.time es
  unfolding all gapped
  others =
      record {
        plain = right (ok_plain e) (all ok_plain es) r.plain;
        gaps = right (follows t e) (gapped e.time es) r.gaps;
        fields = right (fits e) (all fits es) r.fields;
      }

  pub first-writable : is_event_time t ≡ true → Writable t e
  first-writable h = record { before = h; time = first-time; channel = first-channel; follows = first-follows; fits = first_fits }

-- ---- a list that can be written is ready from time 0 on
stored-plain : (store : ℕ) (e : Event) → ok_event store e ≡ true → ok_plain e ≡ true
unfolding ok_event
stored-plain store e h = left (ok_plain e) (ok_data store e) h

pub ready : (store : ℕ) (es : List Event) → Writes store es → Ready (pos 0) es
ready store es w = record { plain = all-imply (ok_event store) ok_plain (stored-plain store) es w.stored; gaps = w.gaps; fields = w.fields }
