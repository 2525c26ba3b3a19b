-- What a caller may lean on, of every setter of a reservation.
--     ..-refused   a call that is refused leaves everything
--     ..-passes    an accepted one leaves a track and a table that the next call takes
--     ..-last      an accepted setter's reservation stands behind those of the other targets
--     ..-again     a target that has a reservation of the kind is never refused with 6
--     ..-there     it has one after an accepted set
--     removed      after `remove_reserve` no table has the target
--     cycle-removes   a cycle that only removes is `remove_reserve`
use mathlib.Core.Path.{◌≡◌, refl, sym, ap, ◌∙◌}
use mathlib.Core.Bool.{Bool, true, false, cond, ◌&&◌, ◌||◌, true≢false}
use mathlib.Core.List.{List, [], ◌∷◌, ◌++◌}
use Prim.Native.Nat.{ℕ}
use borrow.Author.Tests.{eqb-true, ltb-true}
use lib.Dec.{eqb}
use lib.IntN.{ℤ}
use lib.ListN.{take}
use Rattle.laws.specs.Keys.{absent}
use Rattle.laws.proofs.Ranges.{left, right}
use Rattle.numbers.specs.Ranges.{is_length}
use Rattle.counted.specs.Numbers.{numbers, ok_numbers}
use Rattle.cycles.specs.declared.Cycle.{Cycle}
use Rattle.cycles.specs.Due.{key}
use Rattle.cycles.specs.Rules.{no_cycle}
use Rattle.tables.specs.declared.OnNoteValues.{OnNoteValues}
use Rattle.tables.specs.declared.OnNoteWave.{OnNoteWave}
use Rattle.tables.specs.declared.OnNoteSine.{OnNoteSine}
use Rattle.tables.specs.Reservations.{ok_values, ok_wave, ok_sine}
use Rattle.tables.specs.Sixteen.{keyed}
use Rattle.tables.specs.Tables.{no_note, no_wave, no_sine, notes_left, waves_left, sines_left, cycles_left, note_keys, wave_keys, sine_keys, cycle_keys}
use Rattle.state.specs.declared.Track.{Track}
use Rattle.state.specs.Track.{cycles_of}
use Rattle.state.proofs.Parts.{track-play}
use Rattle.state.proofs.Play.{play-time}
use Rattle.state.proofs.Lent.{lent-track, notes-few, waves-few, sines-few, cycles-few}
use Rattle.reserving.specs.declared.Kept.{Kept}
use Rattle.reserving.specs.Clearing.{answer, cleared, reserving}
use Rattle.reserving.specs.Setting.{is_short, repeat_of, note_of, wave_of, cycle_of, note_room, wave_room, sine_room, cycle_room, with_note, with_wave, with_sine, with_cycle, only_removes, remove_reserve, set_on_note, set_on_note_wave, set_on_note_sine, set_on_cycle}
use Rattle.reserving.proofs.Answering.{accepted, left-put, refused, placeless, passing, last, there, again}
use Rattle.reserving.proofs.Refusing.{allowed}
use Rattle.reserving.proofs.Keeping.{Passes, cleared-kept, note-kept, wave-kept, sine-kept, cycle-kept, cycle-storable}
use Rattle.reserving.proofs.Tables.{gone, at-the-end}

-- ---- no table has the target of key k
pub record Gone (k : ℕ) (r : Kept) : Type 0 where
  pub notes : absent k (note_keys r.track.notes) ≡ true
  pub waves : absent k (wave_keys r.track.waves) ≡ true
  pub sines : absent k (sine_keys r.track.sines) ≡ true
  pub cycles : absent k (cycle_keys (cycles_of r.track r.cycles)) ≡ true

cleared-gone : (a : Track) (cs : List Cycle) (k : ℕ) → Gone k (cleared a cs k)
unfolding cleared keyed
cleared-gone a cs k =
    record {
      notes = gone (λ (x : OnNoteValues). key x.target) k no_note a.notes.count a.notes.items;
      waves = gone (λ (x : OnNoteWave). key x.target) k no_wave a.waves.count a.waves.items;
      sines = gone (λ (x : OnNoteSine). key x.target) k no_sine a.sines.count a.sines.items;
      cycles = gone (λ (x : Cycle). key x.target) k no_cycle a.cycles cs;
    }

-- ---- each call
module _ (a : Track) (size : ℕ) (cs : List Cycle) (target : ℤ) where
  -- ---- `remove_reserve`
  cleared-code : (cleared a cs (key target)).code ≡ 0
  unfolding cleared
  cleared-code = refl

  pub remove-refused : ((remove_reserve a size cs target).code ≡ 0 → ⊥) → remove_reserve a size cs target ≡ answer (remove_reserve a size cs target).code a cs
  unfolding remove_reserve
  remove-refused h = refused a size cs target true true (λ (f : Kept). true) (λ (f : Kept). f) cleared-code h

  module _ (e : (remove_reserve a size cs target).code ≡ 0) where
    pub remove-passes : Passes (remove_reserve a size cs target)
    unfolding remove_reserve
    remove-passes = passing a size cs target true true (λ (f : Kept). true) (λ (f : Kept). f) (λ t m o h. cleared-kept a cs (key target) m) e

    pub removed : Gone (key target) (remove_reserve a size cs target)
    unfolding remove_reserve
    removed = rw (left-put a size cs target true true (λ (f : Kept). true) (λ (f : Kept). f) e) (cleared-gone a cs (key target))

  -- ---- `set_on_note`
  module _ (v : List ℤ) where
    abbrev note : OnNoteValues
    note = note_of target (repeat_of a target) (numbers v)

    abbrev notes : Kept → List OnNoteValues
    notes r = take r.track.notes.count r.track.notes.items

    pub note-refused : ((set_on_note a size cs target v).code ≡ 0 → ⊥) → set_on_note a size cs target v ≡ answer (set_on_note a size cs target v).code a cs
    unfolding set_on_note
    note-refused h = refused a size cs target (is_short v) (ok_values note) note_room (with_note note) refl h

    pub note-passes : (set_on_note a size cs target v).code ≡ 0 → Passes (set_on_note a size cs target v)
    unfolding set_on_note cleared
    note-passes e = passing a size cs target (is_short v) (ok_values note) note_room (with_note note) (λ t m o h. note-kept a cs (key target) m note o refl (ltb-true _ _ h)) e

    note-end : notes (with_note note (cleared a cs (key target))) ≡ notes_left a.notes (key target) ++ (note ∷ [])
    unfolding cleared keyed
    note-end = at-the-end (λ (x : OnNoteValues). key x.target) (key target) no_note a.notes.count a.notes.items note

    pub note-last : (set_on_note a size cs target v).code ≡ 0 → notes (set_on_note a size cs target v) ≡ notes_left a.notes (key target) ++ (note ∷ [])
    unfolding set_on_note keyed
    note-last e = last a size cs target (is_short v) (ok_values note) note_room (with_note note) (λ (x : OnNoteValues). key x.target) a.notes.count a.notes.items note notes note-end e

    pub note-there : (set_on_note a size cs target v).code ≡ 0 → absent (key target) (note_keys (set_on_note a size cs target v).track.notes) ≡ false
    unfolding set_on_note keyed
    note-there e = there a size cs target (is_short v) (ok_values note) note_room (with_note note) (λ (x : OnNoteValues). key x.target) a.notes.count a.notes.items note notes note-end e refl

    pub note-again : absent (key target) (note_keys a.notes) ≡ false → (set_on_note a size cs target v).code ≡ 6 → ⊥
    unfolding set_on_note cleared keyed
    note-again q e = again a size cs target (is_short v) (ok_values note) note_room (with_note note) (λ (x : OnNoteValues). key x.target) a.notes.count a.notes.items refl refl (notes-few a cs) q e

  -- ---- `set_on_note_wave`
  module _ (mode : ℕ) (v : List ℤ) where
    abbrev wave : OnNoteWave
    wave = wave_of target mode (numbers v)

    abbrev waves : Kept → List OnNoteWave
    waves r = take r.track.waves.count r.track.waves.items

    pub wave-refused : ((set_on_note_wave a size cs target mode v).code ≡ 0 → ⊥) → set_on_note_wave a size cs target mode v ≡ answer (set_on_note_wave a size cs target mode v).code a cs
    unfolding set_on_note_wave
    wave-refused h = refused a size cs target (is_short v) (ok_wave wave) wave_room (with_wave wave) refl h

    pub wave-passes : (set_on_note_wave a size cs target mode v).code ≡ 0 → Passes (set_on_note_wave a size cs target mode v)
    unfolding set_on_note_wave cleared
    wave-passes e = passing a size cs target (is_short v) (ok_wave wave) wave_room (with_wave wave) (λ t m o h. wave-kept a cs (key target) m wave o refl (ltb-true _ _ h)) e

    wave-end : waves (with_wave wave (cleared a cs (key target))) ≡ waves_left a.waves (key target) ++ (wave ∷ [])
    unfolding cleared keyed
    wave-end = at-the-end (λ (x : OnNoteWave). key x.target) (key target) no_wave a.waves.count a.waves.items wave

    pub wave-last : (set_on_note_wave a size cs target mode v).code ≡ 0 → waves (set_on_note_wave a size cs target mode v) ≡ waves_left a.waves (key target) ++ (wave ∷ [])
    unfolding set_on_note_wave keyed
    wave-last e = last a size cs target (is_short v) (ok_wave wave) wave_room (with_wave wave) (λ (x : OnNoteWave). key x.target) a.waves.count a.waves.items wave waves wave-end e

    pub wave-there : (set_on_note_wave a size cs target mode v).code ≡ 0 → absent (key target) (wave_keys (set_on_note_wave a size cs target mode v).track.waves) ≡ false
    unfolding set_on_note_wave keyed
    wave-there e = there a size cs target (is_short v) (ok_wave wave) wave_room (with_wave wave) (λ (x : OnNoteWave). key x.target) a.waves.count a.waves.items wave waves wave-end e refl

    pub wave-again : absent (key target) (wave_keys a.waves) ≡ false → (set_on_note_wave a size cs target mode v).code ≡ 6 → ⊥
    unfolding set_on_note_wave cleared keyed
    wave-again q e = again a size cs target (is_short v) (ok_wave wave) wave_room (with_wave wave) (λ (x : OnNoteWave). key x.target) a.waves.count a.waves.items refl refl (waves-few a cs) q e

  -- ---- `set_on_note_sine`
  module _ (sine : OnNoteSine) where
    abbrev named : Bool
    named = eqb (key sine.target) (key target)

    abbrev sines : Kept → List OnNoteSine
    sines r = take r.track.sines.count r.track.sines.items

    pub sine-refused : ((set_on_note_sine a size cs target sine).code ≡ 0 → ⊥) → set_on_note_sine a size cs target sine ≡ answer (set_on_note_sine a size cs target sine).code a cs
    unfolding set_on_note_sine
    sine-refused h = refused a size cs target true (ok_sine sine && named) sine_room (with_sine sine) refl h

    pub sine-passes : (set_on_note_sine a size cs target sine).code ≡ 0 → Passes (set_on_note_sine a size cs target sine)
    unfolding set_on_note_sine cleared
    sine-passes e = passing a size cs target true (ok_sine sine && named) sine_room (with_sine sine) (λ t m o h. sine-kept a cs (key target) m sine (left (ok_sine sine) named o) (eqb-true _ _ (right (ok_sine sine) named o)) (ltb-true _ _ h)) e

    sine-end : sines (with_sine sine (cleared a cs (key target))) ≡ sines_left a.sines (key target) ++ (sine ∷ [])
    unfolding cleared keyed
    sine-end = at-the-end (λ (x : OnNoteSine). key x.target) (key target) no_sine a.sines.count a.sines.items sine

    pub sine-last : (set_on_note_sine a size cs target sine).code ≡ 0 → sines (set_on_note_sine a size cs target sine) ≡ sines_left a.sines (key target) ++ (sine ∷ [])
    unfolding set_on_note_sine keyed
    sine-last e = last a size cs target true (ok_sine sine && named) sine_room (with_sine sine) (λ (x : OnNoteSine). key x.target) a.sines.count a.sines.items sine sines sine-end e

    pub sine-there : (set_on_note_sine a size cs target sine).code ≡ 0 → absent (key target) (sine_keys (set_on_note_sine a size cs target sine).track.sines) ≡ false
    unfolding set_on_note_sine keyed
    sine-there e = let o = allowed a size cs target _ _ _ (accepted a size cs target true (ok_sine sine && named) sine_room (with_sine sine) e) in
        there a size cs target true (ok_sine sine && named) sine_room (with_sine sine) (λ (x : OnNoteSine). key x.target) a.sines.count a.sines.items sine sines sine-end e (eqb-true _ _ (right (ok_sine sine) named o))

    pub sine-again : absent (key target) (sine_keys a.sines) ≡ false → (set_on_note_sine a size cs target sine).code ≡ 6 → ⊥
    unfolding set_on_note_sine cleared keyed
    sine-again q e = again a size cs target true (ok_sine sine && named) sine_room (with_sine sine) (λ (x : OnNoteSine). key x.target) a.sines.count a.sines.items refl refl (sines-few a cs) q e

  -- ---- `set_on_cycle`
  module _ (n : ℤ) (v : List ℤ) where
    abbrev cycle : Cycle
    cycle = cycle_of target n a.timepos (numbers v)

    abbrev okay : Bool
    okay = is_length n && ok_numbers (numbers v)

    -- what is left, by whether the call only removes
    abbrev room_by : Bool → Kept → Bool
    room_by b f = b || cycle_room f

    abbrev put_by : Bool → Kept → Kept
    put_by b f = cond b f (with_cycle cycle f)

    put-code : (b : Bool) → (put_by b (cleared a cs (key target))).code ≡ 0
    unfolding cleared
    put-code true = refl
    put-code false = refl

    abbrev by : Bool → Kept
    by b = reserving a size cs target (is_short v) okay (room_by b) (put_by b)

    pub cycle-refused : ((set_on_cycle a size cs target n v).code ≡ 0 → ⊥) → set_on_cycle a size cs target n v ≡ answer (set_on_cycle a size cs target n v).code a cs
    unfolding set_on_cycle
    cycle-refused h =
        let b = only_removes n (numbers v) in
        refused a size cs target (is_short v) okay (room_by b) (put_by b) (put-code b) h

    -- "length 0 or less, or no data, only removes it", and needs no place
    module _ (b : only_removes n (numbers v) ≡ true) where
      pub cycle-removes : is_short v ≡ true → okay ≡ true → set_on_cycle a size cs target n v ≡ remove_reserve a size cs target
      unfolding set_on_cycle remove_reserve
      cycle-removes l o =
          ap by b
          ∙ ap (λ (x : Bool). reserving a size cs target x okay (λ (f : Kept). true) (λ (f : Kept). f)) l
          ∙ ap (λ (x : Bool). reserving a size cs target true x (λ (f : Kept). true) (λ (f : Kept). f)) o

      pub cycle-placeless : (set_on_cycle a size cs target n v).code ≡ 6 → ⊥
      unfolding set_on_cycle
      cycle-placeless e =
          let p = placeless a size cs target (is_short v) okay (room_by true) (put_by true) (put-code true) (ap (λ (x : Kept). x.code) (sym (ap by b)) ∙ e) in
          true≢false p.1

    module _ (b : only_removes n (numbers v) ≡ false) where
      left-cycle : set_on_cycle a size cs target n v ≡ by false
      unfolding set_on_cycle
      left-cycle = ap by b

      zero-by : (set_on_cycle a size cs target n v).code ≡ 0 → (by false).code ≡ 0
      zero-by e = ap (λ (x : Kept). x.code) (sym left-cycle) ∙ e

      abbrev cycles : Kept → List Cycle
      cycles r = take r.track.cycles r.cycles

      cycle-end : cycles (with_cycle cycle (cleared a cs (key target))) ≡ cycles_left (cycles_of a cs) (key target) ++ (cycle ∷ [])
      unfolding cleared keyed
      cycle-end = at-the-end (λ (x : Cycle). key x.target) (key target) no_cycle a.cycles cs cycle

      pub cycle-last : (set_on_cycle a size cs target n v).code ≡ 0 → cycles (set_on_cycle a size cs target n v) ≡ cycles_left (cycles_of a cs) (key target) ++ (cycle ∷ [])
      unfolding keyed
      cycle-last e =
          ap cycles left-cycle
          ∙ last a size cs target (is_short v) okay (room_by false) (put_by false) (λ (x : Cycle). key x.target) a.cycles cs cycle cycles cycle-end (zero-by e)

      pub cycle-there : (set_on_cycle a size cs target n v).code ≡ 0
          → (let r = set_on_cycle a size cs target n v in absent (key target) (cycle_keys (cycles_of r.track r.cycles)) ≡ false)
      unfolding keyed
      cycle-there e =
          ap (λ (x : Kept). absent (key target) (cycle_keys (cycles_of x.track x.cycles))) left-cycle
          ∙ there a size cs target (is_short v) okay (room_by false) (put_by false) (λ (x : Cycle). key x.target) a.cycles cs cycle cycles cycle-end (zero-by e) refl

      pub cycle-again : absent (key target) (cycle_keys (cycles_of a cs)) ≡ false → (set_on_cycle a size cs target n v).code ≡ 6 → ⊥
      unfolding cleared keyed
      cycle-again q e =
          again a size cs target (is_short v) okay (room_by false) (put_by false) (λ (x : Cycle). key x.target) a.cycles cs refl refl (cycles-few a cs) q
          (ap (λ (x : Kept). x.code) (sym left-cycle) ∙ e)

    pub cycle-passes : (set_on_cycle a size cs target n v).code ≡ 0 → Passes (set_on_cycle a size cs target n v)
    unfolding set_on_cycle cleared
    cycle-passes e = go (only_removes n (numbers v)) refl e
      where
        go : (b : Bool) → only_removes n (numbers v) ≡ b → (by b).code ≡ 0 → Passes (by b)
        go true q z = passing a size cs target (is_short v) okay (room_by true) (put_by true) (λ t m o h. cleared-kept a cs (key target) m) z
        go false q z =
            passing a size cs target (is_short v) okay (room_by false) (put_by false)
            (λ t m o h. cycle-kept a cs (key target) m cycle (cycle-storable target n a.timepos (numbers v) t o (play-time a (track-play a (lent-track a cs m))) q) refl (ltb-true _ _ h)) z

by_key : {k k' : ℕ} (ks : List ℕ) → k' ≡ k → absent k ks ≡ false → absent k' ks ≡ false
by_key ks same e = ap (λ (i : ℕ). absent i ks) same ∙ e

-- ---- an accepted set, and then the same target again, by either bend: never 6
module _ (a : Track) (size size' : ℕ) (cs : List Cycle) (target target' : ℤ) (same : key target' ≡ key target) where
  pub note-twice : (v v' : List ℤ) → (let r = set_on_note a size cs target v in r.code ≡ 0 → (set_on_note r.track size' r.cycles target' v').code ≡ 6 → ⊥)
  note-twice v v' e = note-again _ size' _ target' v' (by_key _ same (note-there a size cs target v e))

  pub wave-twice : (mode mode' : ℕ) (v v' : List ℤ) → (let r = set_on_note_wave a size cs target mode v in r.code ≡ 0 → (set_on_note_wave r.track size' r.cycles target' mode' v').code ≡ 6 → ⊥)
  wave-twice mode mode' v v' e = wave-again _ size' _ target' mode' v' (by_key _ same (wave-there a size cs target mode v e))

  pub sine-twice : (x x' : OnNoteSine) → (let r = set_on_note_sine a size cs target x in r.code ≡ 0 → (set_on_note_sine r.track size' r.cycles target' x').code ≡ 6 → ⊥)
  sine-twice x x' e = sine-again _ size' _ target' x' (by_key _ same (sine-there a size cs target x e))

  pub cycle-twice : (n n' : ℤ) (v v' : List ℤ) → only_removes n (numbers v) ≡ false → only_removes n' (numbers v') ≡ false
      → (let r = set_on_cycle a size cs target n v in r.code ≡ 0 → (set_on_cycle r.track size' r.cycles target' n' v').code ≡ 6 → ⊥)
  cycle-twice n n' v v' b b' e = cycle-again _ size' _ target' n' v' b' (by_key _ same (cycle-there a size cs target n v b e))
