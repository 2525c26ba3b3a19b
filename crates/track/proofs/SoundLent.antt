-- 01, "Numbers that come back": what a call leaves passes the tests of 1 and 4 again (Sound), here of the calls that are lent a list, a budget or a table,
-- under each call's name. A call that is refused leaves what it was given, so each is said of both.
--     of-list        the event list's calls
--     of-writes      curves, sines, notes, waves and cycles: the list with its count, its events, the budget, track and table
--     of-reserving   the setters of a reservation: the track with its cycle table, which stays of sixteen
--     of-lent        the same calls as they are lent budget and table: of whatever satisfies the call's contract
use mathlib.Core.Path.{◌≡◌, refl, sym, ap, subst, ◌∙◌}
use mathlib.Core.Bool.{Bool, true, false, cond, ◌&&◌, ◌||◌}
use mathlib.Core.List.{List, [], ◌∷◌, ◌++◌}
use Prim.Native.Nat.{ℕ, ◌+◌, ◌≤◌}
use native.Mathlib.Omega.{arith}
use borrow.Author.Tests.{eqb-true, eqb-false, ltb-true}
use lib.Dec.{eqb}
use lib.IntN.{ℤ, pos}
use lib.ListN.{length, take, drop, length-append, length-take, length-drop}
use Rattle.laws.specs.Rows.{flat}
use Rattle.laws.proofs.Firsts.{length-put_first}
use Rattle.laws.proofs.Compact.{length_without}
use Rattle.numbers.specs.Limits.{places}
use Rattle.counted.specs.Numbers.{numbers, ok_numbers}
use Rattle.numbers.specs.Ranges.{is_target, is_length}
use Rattle.budget.specs.declared.Budget.{Budget}
use Rattle.budget.specs.Budgets.{ok_budget}
use Rattle.eventlist.specs.declared.Taken.{Taken}
use Rattle.eventlist.specs.Rows.{events_of, numbers_of}
use Rattle.eventlist.specs.Sound.{is_list, ok_events}
use Rattle.eventlist.specs.Bends.{bends_refusal, bends_taken, bends_left}
use Rattle.eventlist.proofs.Sound.{SoundList}
use Rattle.eventlist.proofs.Leaving.{bends-sound}
use Rattle.sorting.specs.Sorting.{sorted_rows, sort_refusal, sort_left}
use Rattle.sorting.proofs.Sound.{sort-sound}
use Rattle.notes.specs.Notes.{split_refusal, split_taken, split_left}
use Rattle.notes.proofs.Sound.{split-note-off-sound, normalize-sound}
use Rattle.reader.specs.Reading.{read_refusal, read_taken, read_left}
use Rattle.reader.proofs.Calls.{read-sound}
use Rattle.profile.specs.Calls.{fit_refusal, fit_taken, fit_left}
use Rattle.profile.proofs.Sound.{fit-sound}
use Rattle.cutting.specs.Cuts.{plain, whole, cut_refusal, cut_taken, cut_left}
use Rattle.cutting.proofs.Sound.{cut-sound}
use Rattle.layers.specs.declared.Layers.{Layers}
use Rattle.cycles.specs.declared.Cycle.{Cycle}
use Rattle.cycles.specs.Due.{key}
use Rattle.cycles.specs.Rules.{no_cycle}
use Rattle.tables.specs.declared.OnNoteSine.{OnNoteSine}
use Rattle.tables.specs.declared.NoteTable.{NoteTable}
use Rattle.tables.specs.Reservations.{ok_values, ok_wave, ok_sine}
use Rattle.tables.specs.Tables.{cycle_at, cycles_left, cycles_without, cycles_with}
use Rattle.writing.specs.declared.Outcome.{Outcome}
use Rattle.state.specs.declared.Track.{Track}
use Rattle.state.specs.declared.TrackAnswer.{TrackAnswer}
use Rattle.state.specs.Track.{cycles_of}
use Rattle.state.specs.Tests.{ok_track, ok_lent}
use Rattle.state.proofs.Lent.{cycles-few}
use Rattle.drawing.specs.Calls.{Draw, draw_refusal, draw_answer, draw_left, on_time, cc_target, pb_target, sine_for, on_sine}
use Rattle.drawing.proofs.Promises as draws
use Rattle.drawing.proofs.Leaving.{list-passes, budget-passes, curve-passes, sine-passes}
use Rattle.noting.specs.declared.Noted.{Noted}
use Rattle.noting.specs.Runs.{kept, notes_put}
use Rattle.noting.specs.Calls as noting
use Rattle.noting.specs.Calls.{noted, list_left}
use Rattle.noting.proofs.Promises as notings
use Rattle.noting.proofs.Sound.{note-sound}
use Rattle.waving.specs.Calls.{note_refusal, note_written, note_left}
use Rattle.waving.proofs.Sound.{wave-sound}
use Rattle.cycling.specs.declared.Cycled.{Cycled}
use Rattle.cycling.specs.Calls.{used_of, left_by, cycle_refusal, cycled_of, cycled_list}
use Rattle.cycling.specs.Series.{Lent, answer_to}
use Rattle.cycling.proofs.Calling as calling
use Rattle.cycling.proofs.Refusing as cycling
use Rattle.cycling.proofs.Sound.{cycle-sound}
use Rattle.reserving.specs.declared.Kept.{Kept}
use Rattle.reserving.specs.Clearing.{answer, left, refusal, cleared, reserving}
use Rattle.reserving.specs.Setting.{is_short, repeat_of, note_of, wave_of, cycle_of, note_room, wave_room, sine_room, cycle_room, with_note, with_wave, with_sine, with_cycle, only_removes, remove_reserve, set_on_note, set_on_note_wave, set_on_note_sine, set_on_cycle}
use Rattle.reserving.specs.Old.{normal, remove_cc_on, set_cc_on_note, set_cc_on_note_wave, set_pb_on_note_wave, remove_pb_on_note_wave}
use Rattle.reserving.proofs.Promises as reservings
use Rattle.lending.specs.declared.Answer.{Answer}
use Rattle.lending.specs.Writing.{answer_of}
use Rattle.loans.specs.declared.NoteAnswer.{NoteAnswer}
use Rattle.loans.specs.Lent.{Written, NoteWritten, Reserved}
use Rattle.track.proofs.Filled.{Filled}
use Rattle.track.proofs.RefusedLent.{CycleContract}
use Rattle.track.proofs.Sound.{Follows, as-given}

-- ---- what 1 and 4 ask of a track and the table that is lent with it, and that the layers fill their array
pub record Lendable (a : Track) (cs : List Cycle) : Type 0 where
  pub lent : ok_lent a cs ≡ true
  pub sixteen : length cs ≡ places
  pub filled : Filled a.layers

-- ---- of a list and of the budget
pub record Spendable (store : ℕ) (l : List ℤ) (count : ℕ) (b : Budget) : Type 0 where
  pub list : SoundList store l count
  pub budget : ok_budget b ≡ true

-- ---- the event list
module _ (store : ℕ) (l : List ℤ) (count : ℕ) (s : SoundList store l count) where
  -- by the number n the list m with count k is left, or what was given
  by_number : (n : ℕ) (m : List ℤ) (k : ℕ) → (n ≡ 0 → SoundList store (cond (eqb n 0) m l) (cond (eqb n 0) k count)) → SoundList store (cond (eqb n 0) m l) (cond (eqb n 0) k count)
  by_number n m k f = go (eqb n 0) refl
    where
      go : (t : Bool) → eqb n 0 ≡ t → SoundList store (cond t m l) (cond t k count)
      go true q = subst (λ (t : Bool). SoundList store (cond t m l) (cond t k count)) q (f (eqb-true n 0 q))
      go false q = s

  sorted-sound : SoundList store (sort_left store l count) count
  sorted-sound = go (eqb (sort_refusal store l count) 0) refl
    where
      go : (t : Bool) → eqb (sort_refusal store l count) 0 ≡ t → SoundList store (sort_left store l count) count
      go true q = sort-sound store l count (eqb-true _ 0 q)
      go false q = subst (λ (t : Bool). SoundList store (cond t (flat numbers_of (sorted_rows l count)) l) count) (sym q) s

pub record OfList (store : ℕ) (l : List ℤ) (count : ℕ) : Type 0 where
  pub remove-pitch-bend-in-range : (start end : ℤ) → SoundList store (bends_left store l count start end) (bends_taken store l count start end).count
  pub events-sort : SoundList store (sort_left store l count) count
  pub split-note-off : (out : List ℤ) → (split_taken store l count out).code ≡ 0 → SoundList store (split_left store l count out 0) (split_taken store l count out).count
  pub normalize : SoundList store (split_left store l count l count) (split_taken store l count l).count
  pub play-from : (cut : ℤ) → SoundList store (cut_left store l count (plain cut)) (cut_taken store l count (plain cut)).count
  pub full-cut : (cut : ℤ) → SoundList store (cut_left store l count (whole cut)) (cut_taken store l count (whole cut)).count
  pub fit-profile : SoundList store (fit_left store l count) (fit_taken store l count).count
  pub read-chunk : (c : List ℕ) → SoundList store (read_left c l count) (read_taken c l count).count

pub of-list : (store : ℕ) (l : List ℤ) (count : ℕ) → SoundList store l count → OfList store l count
of-list store l count s =
    record {
      remove-pitch-bend-in-range = λ start end. by_number store l count s (bends_refusal store l count start end) _ _ (bends-sound store l count start end);
      events-sort = sorted-sound store l count s;
      split-note-off = split-note-off-sound store l count;
      normalize = by_number store l count s (split_refusal store l count (length l)) _ _ (normalize-sound store l count);
      play-from = λ cut. by_number store l count s (cut_refusal store l count (plain cut)) _ _ (cut-sound store l count (plain cut));
      full-cut = λ cut. by_number store l count s (cut_refusal store l count (whole cut)) _ _ (cut-sound store l count (whole cut));
      fit-profile = by_number store l count s (fit_refusal store l count) _ _ (fit-sound store l count);
      read-chunk = λ c. by_number store l count s (read_refusal c l count) _ _ (read-sound store c l count);
    }

-- ---- the writes
abbrev pub WriteSound : ℕ → Outcome → List ℤ → Type 0
WriteSound store o m = Spendable store m o.count o.budget

module _ (d : Draw) (s : Spendable d.store d.events d.count d.budget) where
  draw-sound : (draw_refusal d ≡ 0 → ok_events d.store (draw_left d) (draw_answer d).count ≡ true) → WriteSound d.store (draw_answer d) (draw_left d)
  draw-sound f = go (eqb (draw_refusal d) 0) refl
    where
      go : (t : Bool) → eqb (draw_refusal d) 0 ≡ t → WriteSound d.store (draw_answer d) (draw_left d)
      go true q =
          let e = eqb-true (draw_refusal d) 0 q in
          record { list = record { list = list-passes d e; events = f e }; budget = budget-passes d e }
      go false q = let n = eqb-false (draw_refusal d) 0 q in rw (draws.refused_as d n, draws.refused-left d n) s

-- a track besides
pub record NotedSound (store : ℕ) (a : Track) (r : Noted) (m : List ℤ) : Type 0 where
  pub left : Spendable store m r.count r.budget
  pub track : Follows a r.track

-- a table besides
pub record CycledSound (store : ℕ) (a : Track) (r : Cycled) (m : List ℤ) : Type 0 where
  pub left : Spendable store m r.count r.budget
  pub table : Lendable a r.cycles

module _ (a : Track) (m : Filled a.layers) (b : Budget) (l : List ℤ) (count store : ℕ) (s : Spendable store l count b) where
  noted-filled : (start : ℤ) → Filled (noted a start b l count).track.layers
  unfolding noted
  noted-filled start =
      let r = noting.run_of a start b in
      go (eqb (noting.refusal a start b l count) 0) (noting.refusal a start b l count) (length (noting.list_after (events_of l count) r)) r.budget (notes_put a.notes (kept r))
    where
      go : (t : Bool) (n k : ℕ) (c : Budget) (x : NoteTable) → Filled (cond {A = Noted} t (noting.answer 0 k c (noting.with_notes a x)) (noting.answer n count b a)).track.layers
      go true n k c x = m
      go false n k c x = m

  note-left : (start : ℤ) → NotedSound store a (noted a start b l count) (list_left a start b l count)
  note-left start = go (eqb (noting.refusal a start b l count) 0) refl
    where
      go : (t : Bool) → eqb (noting.refusal a start b l count) 0 ≡ t → NotedSound store a (noted a start b l count) (list_left a start b l count)
      go true q =
          let w = note-sound a start b l count (eqb-true _ 0 q) in
          record {
            left = record { list = record { list = w.list; events = w.events store s.list.events }; budget = w.budget };
            track = record { alone = λ e. w.track; lent = w.lent; filled = noted-filled start };
          }
      go false q = let n = notings.refused a start b l count (eqb-false _ 0 q) in rw (n.0, n.1) (record { left = s; track = as-given a m })

  wave-left : (start : ℤ) → WriteSound store (note_written store a start b l count) (note_left store a start b l count)
  wave-left start = go (eqb (note_refusal store a start b l count) 0) refl
    where
      go : (t : Bool) → eqb (note_refusal store a start b l count) 0 ≡ t → WriteSound store (note_written store a start b l count) (note_left store a start b l count)
      go true q =
          let w = wave-sound store a start b l count (eqb-true _ 0 q) in
          record { list = record { list = w.list; events = w.events }; budget = w.budget }
      go false q = rw q s

  module _ (cs : List Cycle) (h : Lendable a cs) where
    table-long : (until : ℤ) (size : ℕ) → cycle_refusal a size cs until b l count ≡ 0 → length (cycled_of a size cs until b l count).cycles ≡ places
    table-long until size e =
        let n = cycling.sixteen a size cs until b l count e in
        let x : Lent = record { cycles = cs; budget = b; list = l; count = count } in
        let z : (answer_to a until x).code ≡ 0 = calling.code_is a until x ∙ subst (λ (k : ℕ). cycle_refusal a k cs until b l count ≡ 0) n e in
        let d = drop a.cycles cs in
        let f = cycles-few a cs h.lent in
        ap (λ (r : Cycled). length r.cycles) (cycling.answer a size cs until b l count e)
        ∙ length-append (left_by a cs until b (events_of l count)).table d
        ∙ omega (arith, calling.left-long a until x z, length-take a.cycles cs, length-drop a.cycles cs, h.sixteen)

    cycle-left : (size : ℕ) (until : ℤ) → CycledSound store a (cycled_of a size cs until b l count) (cycled_list a size cs until b l count)
    cycle-left size until = go (eqb (cycle_refusal a size cs until b l count) 0) refl
      where
        go : (t : Bool) → eqb (cycle_refusal a size cs until b l count) 0 ≡ t → CycledSound store a (cycled_of a size cs until b l count) (cycled_list a size cs until b l count)
        go true q =
            let e = eqb-true _ 0 q in
            let w = cycle-sound a cs until b l count size e in
            record {
              left = record { list = record { list = w.list; events = w.events store s.list.events }; budget = w.budget };
              table = record { lent = w.lent; sixteen = table-long until size e; filled = m };
            }
        go false q =
            let n = cycling.refused a size cs until b l count (eqb-false _ 0 q) in
            rw (← n.0, ← n.1) (record { left = s; table = h })

pub record OfWrites (a : Track) (b : Budget) (l : List ℤ) (count store : ℕ) : Type 0 where
  pub write-on-time : (target : ℤ) (v : List ℤ) → (let d = on_time a target v b l count store in WriteSound store (draw_answer d) (draw_left d))
  pub write-cc-on-time : (number : ℤ) (v : List ℤ) → (let d = on_time a (cc_target number) v b l count store in WriteSound store (draw_answer d) (draw_left d))
  pub write-pb-on-time : (big : ℤ) (v : List ℤ) → (let d = on_time a (pb_target big) v b l count store in WriteSound store (draw_answer d) (draw_left d))
  pub write-sine : (target : ℤ) (shape : ℕ) (low high len times : ℤ)
      → (let d = on_sine a (sine_for target shape low high len times) b l count store in WriteSound store (draw_answer d) (draw_left d))
  pub write-cc-on-note : (start : ℤ) → NotedSound store a (noted a start b l count) (list_left a start b l count)
  pub write-cc-on-note-wave : (start : ℤ) → WriteSound store (note_written store a start b l count) (note_left store a start b l count)
  pub write-cc-on-cycle : (size : ℕ) (cs : List Cycle) (until : ℤ) → Lendable a cs
      → CycledSound store a (cycled_of a size cs until b l count) (cycled_list a size cs until b l count)

pub of-writes : (a : Track) (b : Budget) (l : List ℤ) (count store : ℕ) → Filled a.layers → Spendable store l count b → OfWrites a b l count store
of-writes a b l count store m s =
    record {
      write-on-time = λ target v. draw-sound (on_time a target v b l count store) s (curve-passes a b l count store target v);
      write-cc-on-time = λ number v. draw-sound (on_time a (cc_target number) v b l count store) s (curve-passes a b l count store (cc_target number) v);
      write-pb-on-time = λ big v. draw-sound (on_time a (pb_target big) v b l count store) s (curve-passes a b l count store (pb_target big) v);
      write-sine =
          λ target shape low high len times.
          let x = sine_for target shape low high len times in
          draw-sound (on_sine a x b l count store) s (sine-passes a b l count store x);
      write-cc-on-note = note-left a m b l count store s;
      write-cc-on-note-wave = wave-left a m b l count store s;
      write-cc-on-cycle = λ size cs until h. cycle-left a m b l count store s cs h size until;
    }

-- ---- the reservations
abbrev pub KeptSound : Kept → Type 0
KeptSound k = Lendable k.track k.cycles

-- the sixteen records and the sixteen layers
record Sized (k : Kept) : Type 0 where
  sixteen : length k.cycles ≡ places
  filled : Filled k.track.layers

module _ (a : Track) (cs : List Cycle) (h : Lendable a cs) where
  few : a.cycles ≤ length cs
  few = let f = cycles-few a cs h.lent in let s = h.sixteen in omega arith

  module _ (k : ℕ) where
    short : length (cycles_left (cycles_of a cs) k) ≤ a.cycles
    short = let w = length_without (cycle_at k) (take a.cycles cs) in let t = length-take a.cycles cs in omega arith

    cleared-sized : Sized (cleared a cs k)
    unfolding cleared
    cleared-sized =
        let f = few in
        let s = short in
        record { sixteen = length-put_first no_cycle a.cycles (cycles_left (cycles_of a cs) k) cs f (omega arith) ∙ h.sixteen; filled = h.filled }

    -- one more record, where there is a place
    cycle-sized : (e : Cycle) → cycle_room (cleared a cs k) ≡ true → Sized (with_cycle e (cleared a cs k))
    unfolding cleared
    cycle-sized e r =
        let t = cycles_without (cycles_of a cs) k in
        let n = ltb-true t.count places r in
        let c = cleared-sized.sixteen in
        let p = length-append (take t.count t.items) (e ∷ []) in
        let q = length-take t.count t.items in
        record { sixteen = length-put_first no_cycle t.count (take t.count t.items ++ (e ∷ [])) t.items (omega arith) (omega arith) ∙ c; filled = h.filled }

  -- what a setter leaves, by its number
  sized-by : (n : ℕ) (k : Kept) → (n ≡ 0 → Sized k) → Sized (left n a cs k)
  unfolding left
  sized-by n k f = go (eqb n 0) refl
    where
      go : (t : Bool) → eqb n 0 ≡ t → Sized (cond t k (answer n a cs))
      go true q = f (eqb-true n 0 q)
      go false q = record { sixteen = h.sixteen; filled = h.filled }

  has_room : (s t l o r : Bool) → ◌≡◌ {A = ℕ} (cond s (cond t (cond l (cond o (cond r 0 6) 4) 3) 2) 1) 0 → r ≡ true
  has_room true true true true true e = refl
  has_room true true true true false e = absurd (omega arith)
  has_room true true true false r e = absurd (omega arith)
  has_room true true false o r e = absurd (omega arith)
  has_room true false l o r e = absurd (omega arith)
  has_room false t l o r e = absurd (omega arith)

  module _ (size : ℕ) (target : ℤ) where
    abbrev f : Kept
    f = cleared a cs (key target)

    placed : (short ok room : Bool) → refusal a size cs target short ok room ≡ 0 → room ≡ true
    unfolding refusal
    placed short ok room e = has_room (eqb size places) (is_target target) short (ok_lent a cs && ok) room e

    reserving-sized : (short ok : Bool) (room : Kept → Bool) (put : Kept → Kept) → (room f ≡ true → Sized (put f)) → Sized (reserving a size cs target short ok room put)
    unfolding reserving
    reserving-sized short ok room put g = sized-by (refusal a size cs target short ok (room f)) (put f) (λ z. g (placed short ok (room f) z))

    -- the table and the layers are those of the cleared track
    beside : (k : Kept) → k.cycles ≡ f.cycles → k.track.layers ≡ f.track.layers → Sized k
    beside k p q = record { sixteen = ap length p ∙ (cleared-sized (key target)).sixteen; filled = ap (λ (l : Layers). length l.items) q ∙ (cleared-sized (key target)).filled }

    removed-sized : Sized (remove_reserve a size cs target)
    unfolding remove_reserve
    removed-sized = reserving-sized true true (λ (k : Kept). true) (λ (k : Kept). k) (λ r. cleared-sized (key target))

    note-sized : (v : List ℤ) → Sized (set_on_note a size cs target v)
    unfolding set_on_note
    note-sized v = let e = note_of target (repeat_of a target) (numbers v) in reserving-sized (is_short v) (ok_values e) note_room (with_note e) (λ r. beside _ refl refl)

    wave-sized : (mode : ℕ) (v : List ℤ) → Sized (set_on_note_wave a size cs target mode v)
    unfolding set_on_note_wave
    wave-sized mode v = let e = wave_of target mode (numbers v) in reserving-sized (is_short v) (ok_wave e) wave_room (with_wave e) (λ r. beside _ refl refl)

    sine-sized : (e : OnNoteSine) → Sized (set_on_note_sine a size cs target e)
    unfolding set_on_note_sine
    sine-sized e = reserving-sized true (ok_sine e && eqb (key e.target) (key target)) sine_room (with_sine e) (λ r. beside _ refl refl)

    cycle-set-sized : (n : ℤ) (v : List ℤ) → Sized (set_on_cycle a size cs target n v)
    unfolding set_on_cycle
    cycle-set-sized n v =
        let e = cycle_of target n a.timepos (numbers v) in
        let gone = only_removes n (numbers v) in
        reserving-sized (is_short v) (is_length n && ok_numbers (numbers v)) (λ (k : Kept). gone || cycle_room k) (λ (k : Kept). cond gone k (with_cycle e k)) (put e gone)
      where
        put : (e : Cycle) (gone : Bool) → (gone || cycle_room f) ≡ true → Sized (cond gone f (with_cycle e f))
        put e true r = cleared-sized (key target)
        put e false r = cycle-sized (key target) e r

  -- what is accepted passes, what is refused was given
  settled : (k : Kept) → (k.code ≡ 0 → ok_lent k.track k.cycles ≡ true) → ((k.code ≡ 0 → ⊥) → k ≡ answer k.code a cs) → Sized k → KeptSound k
  settled k f r z = go (eqb k.code 0) refl
    where
      go : (t : Bool) → eqb k.code 0 ≡ t → KeptSound k
      go true q = record { lent = f (eqb-true k.code 0 q); sixteen = z.sixteen; filled = z.filled }
      go false q = subst KeptSound (sym (r (eqb-false k.code 0 q))) h

  module _ (size : ℕ) where
    remove-sound : (target : ℤ) → KeptSound (remove_reserve a size cs target)
    remove-sound target = settled _ (reservings.remove-passes a size cs target) (reservings.remove-refused a size cs target) (removed-sized size target)

    note-set-sound : (target : ℤ) (v : List ℤ) → KeptSound (set_on_note a size cs target v)
    note-set-sound target v = settled _ (reservings.note-passes a size cs target v) (reservings.note-refused a size cs target v) (note-sized size target v)

    wave-set-sound : (target : ℤ) (mode : ℕ) (v : List ℤ) → KeptSound (set_on_note_wave a size cs target mode v)
    wave-set-sound target mode v = settled _ (reservings.wave-passes a size cs target mode v) (reservings.wave-refused a size cs target mode v) (wave-sized size target mode v)

    sine-set-sound : (target : ℤ) (e : OnNoteSine) → KeptSound (set_on_note_sine a size cs target e)
    sine-set-sound target e = settled _ (reservings.sine-passes a size cs target e) (reservings.sine-refused a size cs target e) (sine-sized size target e)

    cycle-set-sound : (target n : ℤ) (v : List ℤ) → KeptSound (set_on_cycle a size cs target n v)
    cycle-set-sound target n v = settled _ (reservings.cycle-passes a size cs target n v) (reservings.cycle-refused a size cs target n v) (cycle-set-sized size target n v)

pub record OfReserving (a : Track) (size : ℕ) (cs : List Cycle) : Type 0 where
  pub remove-reserve : (target : ℤ) → KeptSound (remove_reserve a size cs target)
  pub set-on-note : (target : ℤ) (v : List ℤ) → KeptSound (set_on_note a size cs target v)
  pub set-on-note-wave : (target : ℤ) (mode : ℕ) (v : List ℤ) → KeptSound (set_on_note_wave a size cs target mode v)
  pub set-on-note-sine : (target : ℤ) (sine : OnNoteSine) → KeptSound (set_on_note_sine a size cs target sine)
  pub set-on-cycle : (target len : ℤ) (v : List ℤ) → KeptSound (set_on_cycle a size cs target len v)
  pub remove-cc-on : (number : ℤ) → KeptSound (remove_cc_on a size cs number)
  pub set-cc-on-note : (number : ℤ) (v : List ℤ) → KeptSound (set_cc_on_note a size cs number v)
  pub set-cc-on-note-wave : (number : ℤ) (v : List ℤ) → KeptSound (set_cc_on_note_wave a size cs number v)
  pub set-pb-on-note-wave : (big : ℤ) (v : List ℤ) → KeptSound (set_pb_on_note_wave a size cs big v)
  pub remove-pb-on-note-wave : KeptSound (remove_pb_on_note_wave a size cs)

pub of-reserving : (a : Track) (size : ℕ) (cs : List Cycle) → Lendable a cs → OfReserving a size cs
of-reserving a size cs h =
    record {
      remove-reserve = remove-sound a cs h size;
      set-on-note = note-set-sound a cs h size;
      set-on-note-wave = wave-set-sound a cs h size;
      set-on-note-sine = sine-set-sound a cs h size;
      set-on-cycle = cycle-set-sound a cs h size;
      remove-cc-on = λ number. remove-sound a cs h size (cc_target number);
      set-cc-on-note = λ number v. note-set-sound a cs h size (cc_target number) v;
      set-cc-on-note-wave = λ number v. wave-set-sound a cs h size (cc_target number) normal v;
      set-pb-on-note-wave = λ big v. wave-set-sound a cs h size (pb_target big) normal v;
      remove-pb-on-note-wave = remove-sound a cs h size (pos 129);
    }

-- ---- budget and table lent: what a call leaves of them, whatever its outcome is, so long as the contract is kept
abbrev pub WrittenSound : ℕ → Outcome → List ℤ → Type 0
WrittenSound store o x = (r : Answer) (b : Budget) (m : List ℤ) → Written o x r b m → Spendable store m r.count b

written-sound : (store : ℕ) (o : Outcome) (x : List ℤ) → WriteSound store o x → WrittenSound store o x
written-sound store o x s r b m w =
    let c : r.count ≡ o.count = ap (λ (y : Answer). y.count) w.answer in
    rw (c, w.spent, w.left) s

pub record NoteWrittenSound (store : ℕ) (a : Track) (r : NoteAnswer) (b : Budget) (m : List ℤ) : Type 0 where
  pub left : Spendable store m r.count b
  pub track : Follows a r.track

note-written-sound : (store : ℕ) (a : Track) (o : Noted) (x : List ℤ) → NotedSound store a o x → (r : NoteAnswer) (b : Budget) (m : List ℤ) → NoteWritten o x r b m → NoteWrittenSound store a r b m
note-written-sound store a o x s r b m w =
    let c : r.count ≡ o.count = ap (λ (y : NoteAnswer). y.count) w.answer in
    let t : r.track ≡ o.track = ap (λ (y : NoteAnswer). y.track) w.answer in
    record { left = rw (c, w.spent, w.left) s.left; track = rw t s.track }

abbrev pub ReservedSound : Kept → Type 0
ReservedSound k = (r : TrackAnswer) (cs : List Cycle) → Reserved k r cs → Lendable r.track cs

reserved-sound : (k : Kept) → KeptSound k → ReservedSound k
reserved-sound k s r cs w =
    let t : r.track ≡ k.track = ap (λ (y : TrackAnswer). y.track) w.answer in
    rw (t, w.left) s

pub record CycleLentSound (store : ℕ) (a : Track) (r : Answer) (cs : List Cycle) (b : Budget) (m : List ℤ) : Type 0 where
  pub left : Spendable store m r.count b
  pub table : Lendable a cs

cycle-lent-sound : (store : ℕ) (a : Track) (cs : List Cycle) (b : Budget) (l : List ℤ) (count : ℕ) (until : ℤ)
    → CycledSound store a (cycled_of a (length cs) cs until b l count) (cycled_list a (length cs) cs until b l count)
    → (r : Answer) (cs' : List Cycle) (b' : Budget) (m : List ℤ) → CycleContract a cs until b l count r cs' b' m → CycleLentSound store a r cs' b' m
cycle-lent-sound store a cs b l count until s r cs' b' m w =
    let c : r.count ≡ (cycled_of a (length cs) cs until b l count).count = ap (λ (y : Answer). y.count) w.0 in
    record { left = rw (c, w.2, w.3) s.left; table = rw w.1 s.table }

pub record OfLent (a : Track) (cs : List Cycle) (b : Budget) (l : List ℤ) (count store : ℕ) : Type 0 where
  pub write-on-time : (target : ℤ) (v : List ℤ) → (let d = on_time a target v b l count store in WrittenSound store (draw_answer d) (draw_left d))
  pub write-cc-on-time : (number : ℤ) (v : List ℤ) → (let d = on_time a (cc_target number) v b l count store in WrittenSound store (draw_answer d) (draw_left d))
  pub write-pb-on-time : (big : ℤ) (v : List ℤ) → (let d = on_time a (pb_target big) v b l count store in WrittenSound store (draw_answer d) (draw_left d))
  pub write-sine : (target : ℤ) (shape : ℕ) (low high len times : ℤ)
      → (let d = on_sine a (sine_for target shape low high len times) b l count store in WrittenSound store (draw_answer d) (draw_left d))
  pub write-cc-on-note : (start : ℤ) (r : NoteAnswer) (b' : Budget) (m : List ℤ) → NoteWritten (noted a start b l count) (list_left a start b l count) r b' m
      → NoteWrittenSound store a r b' m
  pub write-cc-on-note-wave : (start : ℤ) → WrittenSound store (note_written store a start b l count) (note_left store a start b l count)
  pub write-cc-on-cycle : (until : ℤ) (r : Answer) (cs' : List Cycle) (b' : Budget) (m : List ℤ) → CycleContract a cs until b l count r cs' b' m
      → CycleLentSound store a r cs' b' m
  pub remove-reserve : (target : ℤ) → ReservedSound (remove_reserve a (length cs) cs target)
  pub set-on-note : (target : ℤ) (v : List ℤ) → ReservedSound (set_on_note a (length cs) cs target v)
  pub set-on-note-wave : (target : ℤ) (mode : ℕ) (v : List ℤ) → ReservedSound (set_on_note_wave a (length cs) cs target mode v)
  pub set-on-note-sine : (target : ℤ) (sine : OnNoteSine) → ReservedSound (set_on_note_sine a (length cs) cs target sine)
  pub set-on-cycle : (target len : ℤ) (v : List ℤ) → ReservedSound (set_on_cycle a (length cs) cs target len v)

pub of-lent : (a : Track) (cs : List Cycle) (b : Budget) (l : List ℤ) (count store : ℕ) → Lendable a cs → Spendable store l count b → OfLent a cs b l count store
of-lent a cs b l count store h s =
    let w = of-writes a b l count store h.filled s in
    let k = of-reserving a (length cs) cs h in
    record {
      write-on-time = λ target v. written-sound store _ _ (w.write-on-time target v);
      write-cc-on-time = λ number v. written-sound store _ _ (w.write-cc-on-time number v);
      write-pb-on-time = λ big v. written-sound store _ _ (w.write-pb-on-time big v);
      write-sine = λ target shape low high len times. written-sound store _ _ (w.write-sine target shape low high len times);
      write-cc-on-note = λ start. note-written-sound store a _ _ (w.write-cc-on-note start);
      write-cc-on-note-wave = λ start. written-sound store _ _ (w.write-cc-on-note-wave start);
      write-cc-on-cycle = λ until. cycle-lent-sound store a cs b l count until (w.write-cc-on-cycle (length cs) cs until h);
      remove-reserve = λ target. reserved-sound _ (k.remove-reserve target);
      set-on-note = λ target v. reserved-sound _ (k.set-on-note target v);
      set-on-note-wave = λ target mode v. reserved-sound _ (k.set-on-note-wave target mode v);
      set-on-note-sine = λ target sine. reserved-sound _ (k.set-on-note-sine target sine);
      set-on-cycle = λ target len v. reserved-sound _ (k.set-on-cycle target len v);
    }
