-- What is proved of reading, of the call `read_chunk` wherever it answers 0, and of `write_chunk` before it and behind it.
--     accepted-call                        the call answers 0 wherever it is not refused, so that what follows is said of something
--     read_count, read-events              the count and the events below it afterwards are the chunk's
--     call-sound, read-sound               what is left passes 1 and 4 of every other call, whatever the store
--     call-rising, call_settled            times never fall, so that sorting changes nothing
--     call-late                            and none is below 0
--     call-writable                        `write_chunk` refuses it for a gap that is too long, with 10, or for room, with 12, and for nothing else
--     call-read-back, call-back-events     what `write_chunk` wrote is read back, without the fields that it drops, into every list with room
--     call-read-again, call-again-events   what was read, and written again, is read as the same list
use mathlib.Core.Bool.{Bool, true, false, cond, ◌&&◌}
use mathlib.Core.Path.{◌≡◌, refl, sym, ap, ap₂, subst, ◌∙◌}
use mathlib.Core.List.{List, map}
use Prim.Native.Nat.{ℕ, ◌≤◌}
use lib.IntN.{ℤ, pos}
use lib.ListN.{length, take, drop, length-map}
use lib.Seq.{length-take-le}
use lib.Signed.{le_z}
use Rattle.laws.specs.Integers.{eq_z}
use Rattle.laws.specs.Lists.{all, put_first}
use Rattle.laws.specs.Rows.{flat}
use Rattle.laws.proofs.Parts.{all_map}
use Rattle.events.specs.declared.Event.{Event}
use Rattle.events.specs.Kinds.{note_on, note_off}
use Rattle.events.specs.Events.{zero_event, plain_event, ok_event}
use Rattle.events.proofs.Stored.{storable}
use Rattle.eventlist.specs.declared.Taken.{Taken}
use Rattle.eventlist.specs.Rows.{numbers_of, rows_of, events_of}
use Rattle.eventlist.specs.Sound.{is_list}
use Rattle.eventlist.proofs.Sound.{list-within, SoundList, left-events, left-sound}
use Rattle.sorting.specs.Stable.{stable_sort, rising}
use Rattle.sorting.specs.Sorting.{earlier}
use Rattle.sorting.proofs.Rising.{settled}
use Rattle.sorting.proofs.Earlier.{earlier-trans}
use Rattle.chunks.specs.declared.Chunk.{Chunk}
use Rattle.chunks.specs.Chunks.{body_of}
use Rattle.chunks.specs.Writing.{gapped, fits, room_for, head_bytes, chunk_refusal}
use Rattle.chunks.specs.Reader.{Whole}
use Rattle.chunks.specs.Told.{Writes, told, WrittenOut}
use Rattle.chunks.proofs.Refusing as written
use Rattle.chunks.proofs.Calls.{chunk_out}
use Rattle.reader.specs.Reading.{ended, is_chunk, read_of, events_in, timely, read_refusal, read_taken, read_left}
use Rattle.reader.specs.Rereading.{back, ReadIn}
use Rattle.reader.proofs.Refusing.{Accepted, accepted, accepts}
use Rattle.reader.proofs.Sound.{near, read_fits, read-stored, read_same, read-rising, read-late, read-gaps}
use Rattle.reader.proofs.Back.{reads-back}

-- ---- a chunk that is not refused
module _ (c : List ℕ) (l : List ℤ) (count : ℕ) where
  pub accepted-call : read_refusal c l count ≡ 0 → ReadIn c l count (length (events_in c)) (flat numbers_of (put_first zero_event count (events_in c) (rows_of l)))
  accepted-call y = record { answer = rw y; list = rw y }

-- ---- the events of a chunk
module _ (c : List ℕ) where
  abbrev body : List ℕ
  body = drop head_bytes c

  events-fit : all fits (events_in c) ≡ true
  unfolding read_of
  events-fit = read_fits (length body) 0 0 body

  events-stored : (store : ℕ) → all timely (events_in c) ≡ true → all (ok_event store) (events_in c) ≡ true
  unfolding read_of
  events-stored = read-stored (length body) 0 0 body

  events-same : map back (events_in c) ≡ events_in c
  unfolding read_of
  events-same = read_same (length body) 0 0 body

  events-gaps : gapped (pos 0) (events_in c) ≡ near (pos 0) (events_in c)
  unfolding read_of
  events-gaps = read-gaps (length body) 0 0 body (pos 0) refl

  events-late : all (λ e. le_z (pos 0) e.time) (events_in c) ≡ true
  unfolding read_of
  events-late = read-late (length body) 0 0 body

  events-rising : rising earlier (events_in c) ≡ true
  unfolding read_of
  events-rising = read-rising (length body) 0 0 body

-- ---- a call that answered 0
module _ {c : List ℕ} {l : List ℤ} {count n : ℕ} {l' : List ℤ} (k : ReadIn c l count n l') where
  code : read_refusal c l count ≡ 0
  code = sym (ap (λ (r : Taken). r.code) k.answer)

  asked : Accepted c l count
  asked = accepted c l count code

  pub read_count : n ≡ length (events_in c)
  read_count = ap (λ (r : Taken). r.count) k.answer ∙ rw code

  put : l' ≡ flat numbers_of (put_first zero_event count (events_in c) (rows_of l))
  put = k.list ∙ rw code

  pub read-events : events_of l' n ≡ events_in c
  read-events = ap₂ events_of put read_count ∙ left-events l count (events_in c)

  pub call-sound : (store : ℕ) → SoundList store l' n
  call-sound store =
      rw (put, read_count) (left-sound l count (events_in c) asked.list asked.room store (events-stored c store asked.times))

  pub call-rising : rising earlier (events_of l' n) ≡ true
  call-rising = ap (rising earlier) read-events ∙ events-rising c

  pub call-late : all (λ e. le_z (pos 0) e.time) (events_of l' n) ≡ true
  call-late = ap (all (λ e. le_z (pos 0) e.time)) read-events ∙ events-late c

  pub call_settled : stable_sort earlier (events_of l' n) ≡ events_of l' n
  call_settled = settled earlier earlier-trans (events_of l' n) call-rising

  -- no other number than 10, for a gap that is too long, and 12
  pub call-writable : (store room : ℕ)
      → chunk_refusal store l' n room ≡ cond (near (pos 0) (events_of l' n)) (cond (room_for (length (body_of (events_of l' n))) room) 0 12) 10
  unfolding chunk_refusal
  call-writable store room =
      let s = call-sound store in
      let f : all fits (events_of l' n) ≡ true = ap (all fits) read-events ∙ events-fit c in
      let g : gapped (pos 0) (events_of l' n) ≡ near (pos 0) (events_of l' n) = rw read-events (events-gaps c) in
      rw (s.list, s.events, f, g)

  -- what was read has no field that b) drops
  call_same : map back (events_of l' n) ≡ events_of l' n
  call_same = ap (map back) read-events ∙ events-same c ∙ sym read-events

-- the same of whatever the call leaves where it is not refused
pub read-sound : (store : ℕ) (c : List ℕ) (l : List ℤ) (count : ℕ) → read_refusal c l count ≡ 0 → SoundList store (read_left c l count) (read_taken c l count).count
read-sound store c l count y =
    let k : ReadIn c l count (read_taken c l count).count (read_left c l count) = record { answer = ap (λ (n : ℕ). record { code = n; count = (read_taken c l count).count }) (sym y); list = refl } in
    call-sound k store

-- ---- behind `write_chunk`
-- what comes back is at its time
back-time : (e : Event) → (back e).time ≡ e.time
unfolding ended told
back-time e = go (eq_z e.kind note_on && eq_z (told e).v3 (pos 0))
  where
    go : (t : Bool) → (cond t (plain_event note_off (told e).time (told e).channel (told e).v1 (pos 0) (pos 0)) (told e)).time ≡ e.time
    go true = refl
    go false = refl

back-timely : (store : ℕ) (e : Event) → ok_event store e ≡ true → timely (back e) ≡ true
back-timely store e h = rw (back-time e) (storable store e h).time

module _ {store : ℕ} {l : List ℤ} {count : ℕ} {out : List ℕ} {bytes : ℕ} {out' : List ℕ} (k : WrittenOut store l count out bytes out') where
  abbrev es : List Event
  es = events_of l count

  passed : written.Accepted store l count (length out)
  passed = written.accepted store l count (length out) (sym (ap (λ (r : Chunk). r.code) k.answer))

  writes : Writes store es
  writes = written.accepted-writes store l count (length out) passed

  found : (is_chunk (take bytes out') ≡ true) × (read_of (take bytes out') ≡ record { code = 0; kept = map back es })
  found = rw (chunk_out k) (reads-back store es writes (written.room-length (length (body_of es)) (length out) passed.room))

  pub back-events : events_in (take bytes out') ≡ map back (events_of l count)
  back-events = ap (λ (r : Whole Event). r.kept) found.1

  many : length (map back es) ≡ count
  many = length-map es back ∙ length-take-le count (rows_of l) (list-within l count passed.list)

  pub call-read-back : (m : List ℤ) (i : ℕ) → is_list m i ≡ true → count ≤ length (rows_of m)
      → ReadIn (take bytes out') m i count (flat numbers_of (put_first zero_event i (map back (events_of l count)) (rows_of m)))
  call-read-back m i listed room =
      let c = take bytes out' in
      let well : Accepted c m i =
      record {
        list = listed;
        chunk = found.0;
        whole = ap (λ (r : Whole Event). r.code) found.1;
        room = rw (back-events, many) room;
        times = ap (all timely) back-events ∙ all_map (ok_event store) timely back (back-timely store) es writes.stored;
      } in
      let call = accepted-call c m i (accepts c m i well) in
      let told = subst (λ (es : List Event). ReadIn c m i (length es) (flat numbers_of (put_first zero_event i es (rows_of m)))) back-events call in
      subst (λ (n : ℕ). ReadIn c m i n (flat numbers_of (put_first zero_event i (map back es) (rows_of m)))) many told

  pub call-back-events : {m m' : List ℤ} {i n : ℕ} → ReadIn (take bytes out') m i n m' → (n ≡ count) × (events_of m' n ≡ map back (events_of l count))
  call-back-events r = (read_count r ∙ ap length back-events ∙ many, read-events r ∙ back-events)

-- ---- read, written again, read again
module _ {c : List ℕ} {l l' : List ℤ} {count n : ℕ} {store : ℕ} {out out' : List ℕ} {bytes : ℕ} (r : ReadIn c l count n l')
    (w : WrittenOut store l' n out bytes out') where
  pub call-read-again : (m : List ℤ) (i : ℕ) → is_list m i ≡ true → n ≤ length (rows_of m)
      → ReadIn (take bytes out') m i n (flat numbers_of (put_first zero_event i (events_of l' n) (rows_of m)))
  call-read-again m i listed room =
      subst (λ (es : List Event). ReadIn (take bytes out') m i n (flat numbers_of (put_first zero_event i es (rows_of m)))) (call_same r) (call-read-back w m i listed room)

  pub call-again-events : {m m' : List ℤ} {i u : ℕ} → ReadIn (take bytes out') m i u m' → (u ≡ n) × (events_of m' u ≡ events_of l' n)
  call-again-events a = let b = call-back-events w a in (b.0, b.1 ∙ call_same r)
