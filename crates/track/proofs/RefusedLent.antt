-- 01, "Numbers that come back": "1 to 7 return the given state and change nothing". Refused says it of what is handed by value; here it
-- is said, under each call's name, of the calls that are lent a list, an output, a budget or a table: every number of the list,
-- every byte of the output, every record of the table and the budget are as they were.
--     of-list        the event list's calls
--     of-writes      curves, sines, notes, waves and cycles, the budget and the table handed by value
--     of-reserving   the setters of a reservation, the cycle table handed by value
--     of-lent        the same calls as they are lent budget and table: of whatever satisfies the call's contract
-- The answer and the list are chosen by one refusal, so that both are refused together (`together`).
use mathlib.Core.Path.{◌≡◌, refl, sym, ap, ◌∙◌}
use mathlib.Core.Bool.{Bool, true, false, cond}
use mathlib.Core.List.{List}
use Prim.Native.Nat.{ℕ}
use borrow.Author.Tests.{ne_eqb}
use lib.Dec.{eqb}
use lib.IntN.{ℤ, pos}
use lib.ListN.{length}
use Rattle.budget.specs.declared.Budget.{Budget}
use Rattle.eventlist.specs.declared.Taken.{Taken}
use Rattle.eventlist.specs.Bends.{bends_taken, bends_left}
use Rattle.sorting.specs.Sorting.{sort_refusal, sort_left}
use Rattle.chunks.specs.declared.Chunk.{Chunk}
use Rattle.chunks.specs.Writing.{chunk_refusal, refused_chunk, chunk_written, chunk_left}
use Rattle.reader.specs.Reading.{read_taken, read_left}
use Rattle.profile.specs.declared.ProfileAnswer.{ProfileAnswer}
use Rattle.profile.specs.Calls.{check_answer, fit_taken, fit_left}
use Rattle.notes.specs.Notes.{split_taken, split_left}
use Rattle.cutting.specs.declared.CcValue.{CcValue}
use Rattle.cutting.specs.Cuts.{plain, whole, cut_taken, cut_left}
use Rattle.cycles.specs.declared.Cycle.{Cycle}
use Rattle.tables.specs.declared.OnNoteSine.{OnNoteSine}
use Rattle.writing.specs.declared.Outcome.{Outcome}
use Rattle.state.specs.declared.Track.{Track}
use Rattle.state.specs.declared.TrackAnswer.{TrackAnswer}
use Rattle.drawing.specs.Calls.{Draw, draw_refusal, draw_answer, draw_left, on_time, cc_target, pb_target, sine_for, on_sine}
use Rattle.drawing.proofs.Promises as draws
use Rattle.noting.specs.declared.Noted.{Noted}
use Rattle.noting.specs.Calls as noting
use Rattle.noting.specs.Calls.{noted, list_left}
use Rattle.waving.specs.Calls.{note_refusal, note_written, note_left}
use Rattle.cycling.specs.declared.Cycled.{Cycled}
use Rattle.cycling.specs.Calls.{cycle_refusal, cycled_of, cycled_list}
use Rattle.reserving.specs.declared.Kept.{Kept}
use Rattle.reserving.specs.Clearing as reserving
use Rattle.reserving.specs.Setting.{remove_reserve, set_on_note, set_on_note_wave, set_on_note_sine, set_on_cycle}
use Rattle.reserving.specs.Old.{normal, remove_cc_on, set_cc_on_note, set_cc_on_note_wave, set_pb_on_note_wave, remove_pb_on_note_wave}
use Rattle.reserving.proofs.Promises.{remove-refused, note-refused, wave-refused, sine-refused, cycle-refused}
use Rattle.lending.specs.declared.Answer.{Answer}
use Rattle.lending.specs.Writing.{answer_of}
use Rattle.loans.specs.declared.NoteAnswer.{NoteAnswer}
use Rattle.loans.specs.Lent.{Written, NoteWritten, Reserved}
use Rattle.track.specs.Reading.{cc_of_track}
use Rattle.track.proofs.Refused.{Unchanged}

-- ---- the law, of any answer with a number and a list that is lent
-- the answer r is r', the list's numbers m are l
pub record Left {R B : Type 0} (r r' : R) (m l : List B) : Type 0 where
  pub answer : r ≡ r'
  pub list : m ≡ l

module _ {R B : Type 0} (code : R → ℕ) (back : ℕ → R) (l : List B) where
  abbrev pub BothUnchanged : R → List B → Type 0
  BothUnchanged r m = (code r ≡ 0 → ⊥) → Left r (back (code r)) m l

  pub together : (t : Bool) (n : ℕ) (r : R) (m : List B) → code r ≡ 0 → code (back n) ≡ n → BothUnchanged (cond t r (back n)) (cond t m l)
  together true n r m z e h = absurd (h z)
  together false n r m z e h = record { answer = ap back (sym e); list = refl }

-- ---- each kind of answer: what is handed back with its number
module _ (count : ℕ) (l : List ℤ) where
  abbrev pub TakenKept : Taken → List ℤ → Type 0
  TakenKept = BothUnchanged (λ (r : Taken). r.code) (λ n. record { code = n; count = count }) l

  abbrev pub OutcomeKept : Budget → Outcome → List ℤ → Type 0
  OutcomeKept b = BothUnchanged (λ (r : Outcome). r.code) (λ n. record { code = n; count = count; budget = b }) l

  abbrev pub NotedKept : Budget → Track → Noted → List ℤ → Type 0
  NotedKept b a = BothUnchanged (λ (r : Noted). r.code) (λ n. record { code = n; count = count; budget = b; track = a }) l

  abbrev pub CycledKept : Budget → List Cycle → Cycled → List ℤ → Type 0
  CycledKept b cs = BothUnchanged (λ (r : Cycled). r.code) (λ n. record { code = n; count = count; budget = b; cycles = cs }) l

abbrev pub AllKept : Track → List Cycle → Kept → Type 0
AllKept a cs = Unchanged (λ (r : Kept). r.code) (λ n. reserving.answer n a cs)

abbrev pub ChunkKept : List ℕ → Chunk → List ℕ → Type 0
ChunkKept out = BothUnchanged (λ (r : Chunk). r.code) refused_chunk out

abbrev pub NoValue : CcValue → Type 0
NoValue = Unchanged (λ (r : CcValue). r.code) (λ n. record { code = n; value = pos 0 })

abbrev pub NoYes : ProfileAnswer → Type 0
NoYes = Unchanged (λ (r : ProfileAnswer). r.code) (λ n. record { code = n; yes = 0 })

-- ---- the event list
taken-kept : (n k count : ℕ) (m l : List ℤ) → TakenKept count l (record { code = n; count = cond (eqb n 0) k count }) (cond (eqb n 0) m l)
taken-kept n k count m l h = let e = ne_eqb n 0 h in record { answer = rw e; list = rw e }

pub record OfList (store : ℕ) (l : List ℤ) (count : ℕ) : Type 0 where
  pub remove-pitch-bend-in-range : (start end : ℤ) → TakenKept count l (bends_taken store l count start end) (bends_left store l count start end)
  pub events-sort : (sort_refusal store l count ≡ 0 → ⊥) → sort_left store l count ≡ l
  pub split-note-off : (out : List ℤ) → TakenKept count out (split_taken store l count out) (split_left store l count out 0)
  pub normalize : TakenKept count l (split_taken store l count l) (split_left store l count l count)
  pub play-from : (cut : ℤ) → TakenKept count l (cut_taken store l count (plain cut)) (cut_left store l count (plain cut))
  pub full-cut : (cut : ℤ) → TakenKept count l (cut_taken store l count (whole cut)) (cut_left store l count (whole cut))
  pub current-cc-value : (a : Track) (number : ℤ) → NoValue (cc_of_track store a number l count)
  pub check-profile : NoYes (check_answer store l count)
  pub fit-profile : TakenKept count l (fit_taken store l count) (fit_left store l count)
  pub read-chunk : (c : List ℕ) → TakenKept count l (read_taken c l count) (read_left c l count)
  pub write-chunk : (out : List ℕ) → ChunkKept out (chunk_written store l count (length out)) (chunk_left store l count out)

pub of-list : (store : ℕ) (l : List ℤ) (count : ℕ) → OfList store l count
unfolding cc_of_track
of-list store l count =
    record {
      remove-pitch-bend-in-range = λ start end. taken-kept _ _ count _ l;
      events-sort = λ h. rw (ne_eqb (sort_refusal store l count) 0 h);
      split-note-off = λ out. taken-kept _ _ count _ out;
      normalize = taken-kept _ _ count _ l;
      play-from = λ cut. taken-kept _ _ count _ l;
      full-cut = λ cut. taken-kept _ _ count _ l;
      current-cc-value = λ a number h. rw (ne_eqb _ 0 h);
      check-profile = λ h. rw (ne_eqb _ 0 h);
      fit-profile = taken-kept _ _ count _ l;
      read-chunk = λ c. taken-kept _ _ count _ l;
      write-chunk = λ out h. let e = ne_eqb (chunk_refusal store l count (length out)) 0 h in record { answer = rw e; list = rw e };
    }

-- ---- the writes
module _ (d : Draw) where
  draw-kept : OutcomeKept d.count d.events d.budget (draw_answer d) (draw_left d)
  draw-kept h =
      let n : draw_refusal d ≡ 0 → ⊥ = λ z. h (draws.code_is d ∙ z) in
      record { answer = draws.refused_as d n ∙ ap (λ (k : ℕ). record { code = k; count = d.count; budget = d.budget }) (sym (draws.code_is d)); list = draws.refused-left d n }

module _ (a : Track) (b : Budget) (l : List ℤ) (count : ℕ) where
  on-note-kept : (start : ℤ) → NotedKept count l b a (noted a start b l count) (list_left a start b l count)
  unfolding noted list_left
  on-note-kept start =
      together (λ (r : Noted). r.code) (λ n. record { code = n; count = count; budget = b; track = a }) l (eqb (noting.refusal a start b l count) 0)
      (noting.refusal a start b l count) _ _ refl refl

  on-wave-kept : (store : ℕ) (start : ℤ) → OutcomeKept count l b (note_written store a start b l count) (note_left store a start b l count)
  on-wave-kept store start =
      together (λ (r : Outcome). r.code) (λ n. record { code = n; count = count; budget = b }) l (eqb (note_refusal store a start b l count) 0)
      (note_refusal store a start b l count) _ _ refl refl

  on-cycle-kept : (size : ℕ) (cs : List Cycle) (until : ℤ) → CycledKept count l b cs (cycled_of a size cs until b l count) (cycled_list a size cs until b l count)
  unfolding cycled_of cycled_list
  on-cycle-kept size cs until =
      together (λ (r : Cycled). r.code) (λ n. record { code = n; count = count; budget = b; cycles = cs }) l (eqb (cycle_refusal a size cs until b l count) 0)
      (cycle_refusal a size cs until b l count) _ _ refl refl

pub record OfWrites (a : Track) (b : Budget) (l : List ℤ) (count store : ℕ) : Type 0 where
  pub write-on-time : (target : ℤ) (v : List ℤ) → (let d = on_time a target v b l count store in OutcomeKept count l b (draw_answer d) (draw_left d))
  pub write-cc-on-time : (number : ℤ) (v : List ℤ) → (let d = on_time a (cc_target number) v b l count store in OutcomeKept count l b (draw_answer d) (draw_left d))
  pub write-pb-on-time : (big : ℤ) (v : List ℤ) → (let d = on_time a (pb_target big) v b l count store in OutcomeKept count l b (draw_answer d) (draw_left d))
  pub write-sine : (target : ℤ) (shape : ℕ) (low high len times : ℤ)
      → (let d = on_sine a (sine_for target shape low high len times) b l count store in OutcomeKept count l b (draw_answer d) (draw_left d))
  pub write-cc-on-note : (start : ℤ) → NotedKept count l b a (noted a start b l count) (list_left a start b l count)
  pub write-cc-on-note-wave : (start : ℤ) → OutcomeKept count l b (note_written store a start b l count) (note_left store a start b l count)
  pub write-cc-on-cycle : (size : ℕ) (cs : List Cycle) (until : ℤ)
      → CycledKept count l b cs (cycled_of a size cs until b l count) (cycled_list a size cs until b l count)

pub of-writes : (a : Track) (b : Budget) (l : List ℤ) (count store : ℕ) → OfWrites a b l count store
of-writes a b l count store =
    record {
      write-on-time = λ target v. draw-kept (on_time a target v b l count store);
      write-cc-on-time = λ number v. draw-kept (on_time a (cc_target number) v b l count store);
      write-pb-on-time = λ big v. draw-kept (on_time a (pb_target big) v b l count store);
      write-sine = λ target shape low high len times. draw-kept (on_sine a (sine_for target shape low high len times) b l count store);
      write-cc-on-note = on-note-kept a b l count;
      write-cc-on-note-wave = on-wave-kept a b l count store;
      write-cc-on-cycle = on-cycle-kept a b l count;
    }

-- ---- the reservations
pub record OfReserving (a : Track) (size : ℕ) (cs : List Cycle) : Type 0 where
  pub remove-reserve : (target : ℤ) → AllKept a cs (remove_reserve a size cs target)
  pub set-on-note : (target : ℤ) (v : List ℤ) → AllKept a cs (set_on_note a size cs target v)
  pub set-on-note-wave : (target : ℤ) (mode : ℕ) (v : List ℤ) → AllKept a cs (set_on_note_wave a size cs target mode v)
  pub set-on-note-sine : (target : ℤ) (sine : OnNoteSine) → AllKept a cs (set_on_note_sine a size cs target sine)
  pub set-on-cycle : (target len : ℤ) (v : List ℤ) → AllKept a cs (set_on_cycle a size cs target len v)
  pub remove-cc-on : (number : ℤ) → AllKept a cs (remove_cc_on a size cs number)
  pub set-cc-on-note : (number : ℤ) (v : List ℤ) → AllKept a cs (set_cc_on_note a size cs number v)
  pub set-cc-on-note-wave : (number : ℤ) (v : List ℤ) → AllKept a cs (set_cc_on_note_wave a size cs number v)
  pub set-pb-on-note-wave : (big : ℤ) (v : List ℤ) → AllKept a cs (set_pb_on_note_wave a size cs big v)
  pub remove-pb-on-note-wave : AllKept a cs (remove_pb_on_note_wave a size cs)

pub of-reserving : (a : Track) (size : ℕ) (cs : List Cycle) → OfReserving a size cs
of-reserving a size cs =
    record {
      remove-reserve = remove-refused a size cs;
      set-on-note = note-refused a size cs;
      set-on-note-wave = wave-refused a size cs;
      set-on-note-sine = sine-refused a size cs;
      set-on-cycle = cycle-refused a size cs;
      remove-cc-on = λ number. remove-refused a size cs (cc_target number);
      set-cc-on-note = λ number v. note-refused a size cs (cc_target number) v;
      set-cc-on-note-wave = λ number v. wave-refused a size cs (cc_target number) normal v;
      set-pb-on-note-wave = λ big v. wave-refused a size cs (pb_target big) normal v;
      remove-pb-on-note-wave = remove-refused a size cs (pos 129);
    }

-- ---- budget and table lent: what a call leaves of them, whatever its outcome is, so long as the contract is kept
pub record WriteLeft (count : ℕ) (b : Budget) (l : List ℤ) (r : Answer) (b' : Budget) (m : List ℤ) : Type 0 where
  pub answer : r ≡ record { code = r.code; count = count }
  pub budget : b' ≡ b
  pub list : m ≡ l

pub record NoteLeft (a : Track) (count : ℕ) (b : Budget) (l : List ℤ) (r : NoteAnswer) (b' : Budget) (m : List ℤ) : Type 0 where
  pub answer : r ≡ record { code = r.code; count = count; track = a }
  pub budget : b' ≡ b
  pub list : m ≡ l

pub record TableLeft (a : Track) (cs : List Cycle) (r : TrackAnswer) (cs' : List Cycle) : Type 0 where
  pub answer : r ≡ record { code = r.code; track = a }
  pub table : cs' ≡ cs

pub record CycleLeft (count : ℕ) (cs : List Cycle) (b : Budget) (l : List ℤ) (r : Answer) (cs' : List Cycle) (b' : Budget) (m : List ℤ) : Type 0 where
  pub answer : r ≡ record { code = r.code; count = count }
  pub table : cs' ≡ cs
  pub budget : b' ≡ b
  pub list : m ≡ l

module _ (count : ℕ) (b : Budget) (l : List ℤ) where
  abbrev pub WriteKept : Outcome → List ℤ → Type 0
  WriteKept o x = (r : Answer) (b' : Budget) (m : List ℤ) → Written o x r b' m → (r.code ≡ 0 → ⊥) → WriteLeft count b l r b' m

  abbrev pub NoteKept : Track → Noted → List ℤ → Type 0
  NoteKept a o x = (r : NoteAnswer) (b' : Budget) (m : List ℤ) → NoteWritten o x r b' m → (r.code ≡ 0 → ⊥) → NoteLeft a count b l r b' m

  written-kept : (o : Outcome) (x : List ℤ) → OutcomeKept count l b o x → WriteKept o x
  written-kept o x u r b' m w h =
      let c = ap (λ (y : Answer). y.code) w.answer in
      let k = u (λ z. h (c ∙ z)) in
      record {
        answer = w.answer ∙ ap (λ (y : Outcome). record { code = y.code; count = y.count }) k.answer ∙ ap (λ (n : ℕ). record { code = n; count = count }) (sym c);
        budget = w.spent ∙ ap (λ (y : Outcome). y.budget) k.answer;
        list = w.left ∙ k.list;
      }

  note-kept : (a : Track) (o : Noted) (x : List ℤ) → NotedKept count l b a o x → NoteKept a o x
  note-kept a o x u r b' m w h =
      let c = ap (λ (y : NoteAnswer). y.code) w.answer in
      let k = u (λ z. h (c ∙ z)) in
      record {
        answer = w.answer ∙ ap (λ (y : Noted). record { code = y.code; count = y.count; track = y.track }) k.answer
            ∙ ap (λ (n : ℕ). record { code = n; count = count; track = a }) (sym c);
        budget = w.spent ∙ ap (λ (y : Noted). y.budget) k.answer;
        list = w.left ∙ k.list;
      }

module _ (a : Track) (cs : List Cycle) where
  abbrev pub ReservedKept : Kept → Type 0
  ReservedKept k = (r : TrackAnswer) (cs' : List Cycle) → Reserved k r cs' → (r.code ≡ 0 → ⊥) → TableLeft a cs r cs'

  reserved-kept : (k : Kept) → AllKept a cs k → ReservedKept k
  reserved-kept k u r cs' w h =
      let c = ap (λ (y : TrackAnswer). y.code) w.answer in
      let e = u (λ z. h (c ∙ z)) in
      record {
        answer = w.answer ∙ ap (λ (y : Kept). record { code = y.code; track = y.track }) e ∙ ap (λ (n : ℕ). record { code = n; track = a }) (sym c);
        table = w.left ∙ ap (λ (y : Kept). y.cycles) e;
      }

-- the four equations of the cycle call's contract
abbrev pub CycleContract : Track → List Cycle → ℤ → Budget → List ℤ → ℕ → Answer → List Cycle → Budget → List ℤ → Type 0
CycleContract a cs until b l count r cs' b' m =
    (r ≡ answer_of (cycled_of a (length cs) cs until b l count)) × (cs' ≡ (cycled_of a (length cs) cs until b l count).cycles)
    × (b' ≡ (cycled_of a (length cs) cs until b l count).budget) × (m ≡ cycled_list a (length cs) cs until b l count)

module _ (a : Track) (cs : List Cycle) (b : Budget) (l : List ℤ) (count : ℕ) where
  cycle-kept : (until : ℤ) (r : Answer) (cs' : List Cycle) (b' : Budget) (m : List ℤ) → CycleContract a cs until b l count r cs' b' m → (r.code ≡ 0 → ⊥)
      → CycleLeft count cs b l r cs' b' m
  cycle-kept until r cs' b' m w h =
      let c = ap (λ (y : Answer). y.code) w.0 in
      let k = on-cycle-kept a b l count (length cs) cs until (λ z. h (c ∙ z)) in
      record {
        answer = w.0 ∙ ap (λ (y : Cycled). record { code = y.code; count = y.count }) k.answer ∙ ap (λ (n : ℕ). record { code = n; count = count }) (sym c);
        table = w.1 ∙ ap (λ (y : Cycled). y.cycles) k.answer;
        budget = w.2 ∙ ap (λ (y : Cycled). y.budget) k.answer;
        list = w.3 ∙ k.list;
      }

pub record OfLent (a : Track) (cs : List Cycle) (b : Budget) (l : List ℤ) (count store : ℕ) : Type 0 where
  pub write-on-time : (target : ℤ) (v : List ℤ) → (let d = on_time a target v b l count store in WriteKept count b l (draw_answer d) (draw_left d))
  pub write-cc-on-time : (number : ℤ) (v : List ℤ) → (let d = on_time a (cc_target number) v b l count store in WriteKept count b l (draw_answer d) (draw_left d))
  pub write-pb-on-time : (big : ℤ) (v : List ℤ) → (let d = on_time a (pb_target big) v b l count store in WriteKept count b l (draw_answer d) (draw_left d))
  pub write-sine : (target : ℤ) (shape : ℕ) (low high len times : ℤ)
      → (let d = on_sine a (sine_for target shape low high len times) b l count store in WriteKept count b l (draw_answer d) (draw_left d))
  pub write-cc-on-note : (start : ℤ) → NoteKept count b l a (noted a start b l count) (list_left a start b l count)
  pub write-cc-on-note-wave : (start : ℤ) → WriteKept count b l (note_written store a start b l count) (note_left store a start b l count)
  pub write-cc-on-cycle : (until : ℤ) (r : Answer) (cs' : List Cycle) (b' : Budget) (m : List ℤ) → CycleContract a cs until b l count r cs' b' m
      → (r.code ≡ 0 → ⊥) → CycleLeft count cs b l r cs' b' m
  pub remove-reserve : (target : ℤ) → ReservedKept a cs (remove_reserve a (length cs) cs target)
  pub set-on-note : (target : ℤ) (v : List ℤ) → ReservedKept a cs (set_on_note a (length cs) cs target v)
  pub set-on-note-wave : (target : ℤ) (mode : ℕ) (v : List ℤ) → ReservedKept a cs (set_on_note_wave a (length cs) cs target mode v)
  pub set-on-note-sine : (target : ℤ) (sine : OnNoteSine) → ReservedKept a cs (set_on_note_sine a (length cs) cs target sine)
  pub set-on-cycle : (target len : ℤ) (v : List ℤ) → ReservedKept a cs (set_on_cycle a (length cs) cs target len v)

pub of-lent : (a : Track) (cs : List Cycle) (b : Budget) (l : List ℤ) (count store : ℕ) → OfLent a cs b l count store
of-lent a cs b l count store =
    let w = of-writes a b l count store in
    let s = of-reserving a (length cs) cs in
    record {
      write-on-time = λ target v. written-kept count b l _ _ (w.write-on-time target v);
      write-cc-on-time = λ number v. written-kept count b l _ _ (w.write-cc-on-time number v);
      write-pb-on-time = λ big v. written-kept count b l _ _ (w.write-pb-on-time big v);
      write-sine = λ target shape low high len times. written-kept count b l _ _ (w.write-sine target shape low high len times);
      write-cc-on-note = λ start. note-kept count b l a _ _ (w.write-cc-on-note start);
      write-cc-on-note-wave = λ start. written-kept count b l _ _ (w.write-cc-on-note-wave start);
      write-cc-on-cycle = cycle-kept a cs b l count;
      remove-reserve = λ target. reserved-kept a cs _ (s.remove-reserve target);
      set-on-note = λ target v. reserved-kept a cs _ (s.set-on-note target v);
      set-on-note-wave = λ target mode v. reserved-kept a cs _ (s.set-on-note-wave target mode v);
      set-on-note-sine = λ target sine. reserved-kept a cs _ (s.set-on-note-sine target sine);
      set-on-cycle = λ target len v. reserved-kept a cs _ (s.set-on-cycle target len v);
    }
