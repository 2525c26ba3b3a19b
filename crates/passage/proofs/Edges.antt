-- Where the theorem ends, beside what it says. Each of these is computed, or holds of every list.
--     old_value, no-bend          the plain cut: the old value stands behind the new one, and bends are lost
--     two-channels, two-bends     several channels before the full cut: all is folded onto one
--     never, unseen               bend ranges, DirectSMF and NoteOff are dropped, and no state has them
--     begun-before                a note that began before the cut is gone
--     registered, banked, reset   what a synthesiser keeps behind controllers is not a controller's value
--     told-in-list-order          Meta and SysEx before the cut come in the list's order, not in that of time
--     unsorted                    a player that goes by list order
--     before-zero                 the passage has nothing before its beginning
--     lost-pedal, lost-program, lost-bend   a cut that loses one of what it folds
--     back-again                  a second cut below 0 brings nothing back
use mathlib.Core.Bool.{Bool, true, false, not, ◌&&◌, ◌||◌, true≢false}
use mathlib.Core.Path.{◌≡◌, refl, sym, ap, ◌∙◌}
use mathlib.Core.List.{List, [], ◌∷◌, map}
use mathlib.Core.Logic.{⊎_elim}
use mathlib.Core.Option.{Option, none, some}
use Prim.Native.Nat.{ℕ}
use lib.IntN.{ℤ, pos, negsuc, ◌+ℤ◌}
use lib.Signed.{le_z}
use Rattle.laws.specs.Integers.{eq_z}
use Rattle.laws.specs.Lists.{all, without, only}
use Rattle.events.specs.declared.Event.{Event}
use Rattle.events.specs.Events.{note_event, cc_event, voice_event, pitch_bend_event, meta_event}
use Rattle.events.specs.Kinds.{note_on, note_off, meta, sys_ex, control_change, pitch_bend, pitch_bend_range, voice, direct_smf}
use Rattle.laws.proofs.Bits.{eq_z-true}
use Rattle.laws.proofs.Bools.{which}
use Rattle.laws.proofs.Parts.{all_append, all_map, all_left, without-swap}
use Rattle.sorting.specs.Sorting.{earlier}
use Rattle.sorting.proofs.Earlier.{earlier-asym, earlier-trans}
use Rattle.sorting.proofs.Thinning.{without-sort}
use Rattle.cutting.specs.Choice.{last_of}
use Rattle.cutting.specs.Cuts.{folds, controls_from, folded, keeps, shifted, plain, whole, cut_of}
use Rattle.passage.specs.Player.{heard, played_by, held, on, says, controller_of, program_of, bend_of, has, state}
use Rattle.passage.specs.Passage.{sounds, dropped, travels, arrives}
use Rattle.passage.proofs.Folded.{all-folded, bend-by-kind}
use Rattle.passage.proofs.Passage.{has-without}
use Rattle.passage.proofs.Played.{travelled}
use Rattle.passage.specs.Synth.{after, is_controller, none_chosen, registers, Voiced, chooses, presses}

-- controller n at a value on a channel, at a time; a bend
abbrev control : ℕ → ℕ → ℕ → ℕ → Event
control t j n v = cc_event (pos t) (pos j) (pos n) (pos v)

abbrev bend : ℕ → ℕ → ℕ → Event
bend t j v = pitch_bend_event (pos t) (pos j) (pos v)

-- at 10 a list's passage of the full cut, and of the plain one
abbrev passage : List Event → List Event
passage = cut_of (whole (pos 10))

abbrev plainly : List Event → List Event
plainly = cut_of (plain (pos 10))

-- ---- the plain cut
pub old_value : (let song = control 0 0 7 90 ∷ control 10 0 7 100 ∷ [] in
    (controller_of (played_by (pos 10) song) (on (pos 0)) 7 ≡ some (pos 100)) × (controller_of (played_by (pos 0) (plainly song)) (on (pos 0)) 7 ≡ some (pos 90)))
unfolding cut_of folded controls_from keeps shifted folds
old_value = (refl, refl)

pub no-bend : (let song = bend 0 0 9000 ∷ [] in (bend_of (played_by (pos 10) song) (on (pos 0)) ≡ some (pos 9000)) × (bend_of (played_by (pos 0) (plainly song)) (on (pos 0)) ≡ none))
unfolding cut_of folded controls_from keeps shifted folds
no-bend = (refl, refl)

-- ---- several channels before the cut
pub two-channels : (let song = control 0 0 7 90 ∷ control 5 1 10 20 ∷ [] in
    (controller_of (played_by (pos 10) song) (on (pos 0)) 7 ≡ some (pos 90)) × ((controller_of (played_by (pos 0) (passage song)) (on (pos 0)) 7 ≡ none)
    × ((controller_of (played_by (pos 10) song) (on (pos 1)) 7 ≡ none) × (controller_of (played_by (pos 0) (passage song)) (on (pos 1)) 7 ≡ some (pos 90)))))
unfolding cut_of folded controls_from keeps shifted folds
two-channels = (refl, (refl, (refl, refl)))

pub two-bends : (let song = bend 0 0 100 ∷ bend 5 1 200 ∷ [] in
    (bend_of (played_by (pos 10) song) (on (pos 0)) ≡ some (pos 100)) × (bend_of (played_by (pos 0) (passage song)) (on (pos 0)) ≡ none))
unfolding cut_of folded controls_from keeps shifted folds
two-bends = (refl, refl)

-- ---- what is dropped
either : {A : Type 0} (a b : Bool) → (a ≡ true → A) → (b ≡ true → A) → (a || b) ≡ true → A
either true b f g h = f refl
either false b f g h = g h

module _ (e : Event) where
  -- each of the three kinds is told from each other kind
  by_kind : (q : ℤ → Bool) → q note_off ≡ true → q pitch_bend_range ≡ true → q direct_smf ≡ true → dropped e ≡ true → q e.kind ≡ true
  unfolding dropped
  by_kind q a b c =
      either (eq_z e.kind note_off || eq_z e.kind pitch_bend_range) (eq_z e.kind direct_smf)
      (either (eq_z e.kind note_off) (eq_z e.kind pitch_bend_range) (λ k. rw (eq_z-true e.kind note_off k) a) (λ k. rw (eq_z-true e.kind pitch_bend_range k) b))
      (λ k. rw (eq_z-true e.kind direct_smf k) c)

  -- so what is of a kind that is not dropped is not dropped
  stays : (q : ℤ → Bool) → q note_off ≡ true → q pitch_bend_range ≡ true → q direct_smf ≡ true → q e.kind ≡ false → dropped e ≡ false
  stays q a b c h = ⊎_elim (λ k. absurd (true≢false (sym (by_kind q a b c k) ∙ h))) (λ k. k) (which (dropped e))

-- a kind that travels, from the cut on or always
abbrev kind_travels : Bool → ℤ → Bool
kind_travels t k = eq_z k meta || eq_z k sys_ex || ((eq_z k note_on || eq_z k control_change || eq_z k voice || eq_z k pitch_bend) && t)

-- no end of a note, no bend range and no DirectSMF is in a passage,
pub never : (at : ℤ) (es : List Event) → all (λ e. not (dropped e)) (cut_of (whole at) es) ≡ true
unfolding dropped sounds
never at es =
    rw (travelled at es)
    (all_append (λ e. not (dropped e)) (folded (whole at) (heard es)) (map (arrives at) (only (travels at) es))
    (all-folded (λ e. not (dropped e)) at (heard es) (λ n h. refl) (λ h. refl) (bend-by-kind (λ e. not (dropped e)) at (heard es) (λ e k. rw k)))
    (all_map (λ e. not (not (travels at e))) (λ e. not (dropped e)) (arrives at) (λ e h. ap not (kept e (le_z at e.time) h)) (only (travels at) es) (all_left (λ e. not (travels at e)) es)))
  where
    kept : (e : Event) (t : Bool) → not (not (kind_travels t e.kind)) ≡ true → dropped e ≡ false
    kept e t h = stays e (λ k. not (kind_travels t k)) refl refl refl (turned (kind_travels t e.kind) h)
      where
        turned : (b : Bool) → not (not b) ≡ true → not b ≡ false
        turned true q = refl
        turned false q = sym q

-- and no state has them
pub unseen : (es : List Event) (listens : ℤ → Bool) (t : ℤ) → state (without dropped es) listens t ≡ state es listens t
unfolding sounds
unseen es listens t =
    ap (λ (l : List Event). has l listens)
    (ap (only (λ e. le_z e.time t)) (sym (without-sort earlier earlier-asym earlier-trans dropped es)) ∙ without-swap (λ e. not (le_z e.time t)) dropped (heard es))
    ∙ has-without listens dropped (λ e h. stays e (λ k. not (eq_z k note_on || eq_z k control_change || eq_z k voice || eq_z k pitch_bend)) refl refl refl (ap not h)) (played_by t es)

-- ---- a note that began before the cut
pub begun-before : passage (note_event (pos 5) (pos 0) (pos 60) (pos 96) (pos 100) ∷ []) ≡ []
unfolding cut_of folded controls_from keeps shifted folds
begun-before = refl

-- ---- behind controllers
-- the range of bends is set to 12 half tones, by 101, 100 and 6; folded in rising order 6 comes first, while nothing is chosen
pub registered : (let song = control 0 0 101 0 ∷ control 1 0 100 0 ∷ control 2 0 6 12 ∷ [] in
    ((after registers none_chosen (heard song)).range ≡ pos 12) × ((after registers none_chosen (heard (passage song))).range ≡ pos 2))
unfolding cut_of folded controls_from keeps shifted folds
registered = (refl, refl)

-- the program is chosen in bank 0, then bank 1 is chosen for the next; folded, the bank comes first
pub banked : (let song = voice_event (pos 0) (pos 0) (pos 52) ∷ control 1 0 0 1 ∷ [] in let start : Voiced = record { bank = pos 0; sound = pos 0 } in
    ((after chooses start (heard song)).sound ≡ pos 0) × ((after chooses start (heard (passage song))).sound ≡ pos 1))
unfolding cut_of folded controls_from keeps shifted folds
banked = (refl, refl)

-- all is reset, then the pedal is pressed; folded, the reset comes last
pub reset : (let song = control 0 0 121 0 ∷ control 1 0 64 127 ∷ [] in
    (after presses (pos 0) (heard song) ≡ pos 127) × (after presses (pos 0) (heard (passage song)) ≡ pos 0))
unfolding cut_of folded controls_from keeps shifted folds
reset = (refl, refl)

-- ---- Meta before the cut, in a list that is not sorted: the song comes to the one at 0 first, the passage to the one at 5
abbrev tempo : ℕ → ℕ → Event
tempo t v = meta_event (pos t) (pos v) (pos 0) (pos 0) (pos 0) (pos 0)

pub told-in-list-order : (let song = tempo 5 120 ∷ tempo 0 90 ∷ [] in (heard song ≡ tempo 0 90 ∷ tempo 5 120 ∷ []) × (heard (passage song) ≡ tempo 0 120 ∷ tempo 0 90 ∷ []))
unfolding cut_of folded controls_from keeps shifted folds
told-in-list-order = (refl, refl)

-- ---- a player that goes by list order and not by time
abbrev volume_listed : List Event → ℤ → Option ℤ
volume_listed es t = last_of (λ e. (says control_change (on (pos 0)) e && eq_z e.v1 (pos 7)) && le_z e.time t) (λ e. held e.v2) none es

pub unsorted : (let song = control 20 0 7 1 ∷ control 5 0 7 2 ∷ [] in (volume_listed song (pos 20) ≡ some (pos 2)) × (volume_listed (passage song) (pos 10) ≡ some (pos 1)))
unfolding cut_of folded controls_from keeps shifted folds
unsorted = (refl, refl)

-- ---- before the passage's beginning
pub before-zero : (let song = control 0 0 7 90 ∷ [] in
    (controller_of (played_by (pos 9) song) (on (pos 0)) 7 ≡ some (pos 90)) × (controller_of (played_by (negsuc 0) (passage song)) (on (pos 0)) 7 ≡ none))
unfolding cut_of folded controls_from keeps shifted folds
before-zero = (refl, refl)

-- ---- a cut that loses one of what it folds
abbrev choir : List Event
choir = voice_event (pos 0) (pos 0) (pos 52) ∷ control 0 0 64 127 ∷ bend 0 0 9000 ∷ []

pub lost-pedal : controller_of (played_by (pos 0) (without (is_controller 64) (passage choir))) (on (pos 0)) 64 ≡ none
unfolding cut_of folded controls_from keeps shifted folds
lost-pedal = refl

pub lost-program : program_of (played_by (pos 0) (without (λ e. eq_z e.kind voice) (passage choir))) (on (pos 0)) ≡ none
unfolding cut_of folded controls_from keeps shifted folds
lost-program = refl

pub lost-bend : bend_of (played_by (pos 0) (without (λ e. eq_z e.kind pitch_bend) (passage choir))) (on (pos 0)) ≡ none
unfolding cut_of folded controls_from keeps shifted folds
lost-bend = refl

pub in-the-song : (controller_of (played_by (pos 10) choir) (on (pos 0)) 64 ≡ some (pos 127)) × ((program_of (played_by (pos 10) choir) (on (pos 0)) ≡ some (pos 52)) × (bend_of (played_by (pos 10) choir) (on (pos 0)) ≡ some (pos 9000)))
in-the-song = (refl, (refl, refl))

-- ---- a second cut below 0
pub back-again : (let song = note_event (pos 5) (pos 0) (pos 60) (pos 96) (pos 100) ∷ [] in
    (cut_of (whole (negsuc 9)) (passage song) ≡ []) × (cut_of (whole (pos 10 +ℤ negsuc 9)) song ≡ song))
unfolding cut_of folded controls_from keeps shifted folds
back-again = (refl, refl)
