-- What `split_note_off` and `normalize` leave passes the tests of the next call: a note's end has the note's numbers, and its time
-- was asked for.
use mathlib.Core.Path.{◌≡◌, refl}
use mathlib.Core.Bool.{Bool, true, false, cond}
use mathlib.Core.List.{List, [], ◌∷◌}
use Prim.Native.Nat.{ℕ, ◌/◌, ◌%◌}
use native.Mathlib.Omega.{arith}
use borrow.Author.Tests.{eq-eqb, le-leb}
use lib.IntN.{ℤ}
use lib.ListN.{length}
use Rattle.laws.specs.Integers.{inside}
use Rattle.laws.specs.Lists.{all}
use Rattle.laws.proofs.Bits.{eq_z-true}
use Rattle.laws.proofs.Ranges.{left, right}
use Rattle.laws.proofs.Tests.{both}
use Rattle.laws.proofs.Parts.{all_append}
use Rattle.numbers.specs.Ranges.{is_event_time}
use Rattle.events.specs.declared.Event.{Event}
use Rattle.events.specs.Events.{ok_numbered, ok_data, ok_event}
use Rattle.events.specs.Kinds.{note_on, is_kind, has_data}
use Rattle.events.proofs.Stored.{storable, storable-ok}
use Rattle.eventlist.specs.Rows.{record_width, events_of}
use Rattle.eventlist.specs.Sound.{is_list, ok_events}
use Rattle.eventlist.proofs.EventRows.{length-rows_of}
use Rattle.eventlist.proofs.Sound.{SoundList, left-sound}
use Rattle.notes.specs.Notes.{is_note, off_of, with_off, split_notes, ok_end, split_refusal, split_taken, split_left}
use Rattle.notes.proofs.Refusing.{accepted}

-- ---- the end of a note
note-kind : (e : Event) → is_note e ≡ true → e.kind ≡ note_on
unfolding is_note
note-kind e h = eq_z-true e.kind note_on h

end-time : (e : Event) → is_note e ≡ true → ok_end e ≡ true → is_event_time (off_of e).time ≡ true
unfolding ok_end
end-time e h y = rw h at y

-- a note has no data, and so its end has none
end-bytes : (store : ℕ) (e : Event) → e.kind ≡ note_on → ok_data store e ≡ true → ok_data store (off_of e) ≡ true
unfolding ok_data has_data
end-bytes store e h y = rw h at y

module _ (store : ℕ) where
  end-stored : (e : Event) → is_note e ≡ true → ok_end e ≡ true → ok_event store e ≡ true → ok_event store (off_of e) ≡ true
  unfolding is_kind inside ok_numbered
  end-stored e h t y =
      let s = storable store e y in
      storable-ok store (off_of e)
      (record {
        kind = refl;
        time = end-time e h t;
        channel = s.channel;
        v1 = s.v1;
        v2 = s.v2;
        v3 = s.v3;
        numbered = refl;
        bytes = end-bytes store e (note-kind e h) s.bytes;
      })

  with-stored : (e : Event) → ok_end e ≡ true → ok_event store e ≡ true → all (ok_event store) (with_off e) ≡ true
  unfolding all
  with-stored e t y = go (is_note e) refl
    where
      go : (n : Bool) → is_note e ≡ n → all (ok_event store) (cond n (e ∷ off_of e ∷ []) (e ∷ [])) ≡ true
      go true h = rw (y, end-stored e h t y)
      go false h = rw y

  split-stored : (es : List Event) → all ok_end es ≡ true → all (ok_event store) es ≡ true → all (ok_event store) (split_notes es) ≡ true
  unfolding all split_notes
  split-stored [] t y = refl
  split-stored (e ∷ es) t y =
      all_append (ok_event store) (with_off e) (split_notes es)
      (with-stored e (left (ok_end e) (all ok_end es) t) (left (ok_event store e) (all (ok_event store) es) y))
      (split-stored es (right (ok_end e) (all ok_end es) t) (right (ok_event store e) (all (ok_event store) es) y))

-- ---- the calls
-- whole records, of which none counts
none-counted : (l : List ℤ) → length l % record_width ≡ 0 → is_list l 0 ≡ true
unfolding is_list
none-counted l z = both (eq-eqb (length l % record_width) 0 z) (le-leb 0 (length l / record_width) (omega arith))

module _ (store : ℕ) (l : List ℤ) (count : ℕ) where
  split-sound : (out : List ℤ) (n : ℕ) → split_refusal store l count (length out) ≡ 0 → is_list out n ≡ true → SoundList store (split_left store l count out n) (split_taken store l count out).count
  unfolding ok_events
  split-sound out n e h =
      let a = accepted store l count (length out) e in
      rw e
      (left-sound out n (split_notes (events_of l count)) h (omega (arith, a.room, length-rows_of out)) store (split-stored store (events_of l count) a.ends a.events))

  -- the list that is left at the front of `out`
  pub split-note-off-sound : (out : List ℤ) → split_refusal store l count (length out) ≡ 0 → SoundList store (split_left store l count out 0) (split_taken store l count out).count
  split-note-off-sound out e = split-sound out 0 e (none-counted out (accepted store l count (length out) e).whole)

  pub normalize-sound : split_refusal store l count (length l) ≡ 0 → SoundList store (split_left store l count l count) (split_taken store l count l).count
  normalize-sound e = split-sound l count e (accepted store l count (length l) e).list
