-- The trade's theorem and the rehearsal player, in the order of the guide: a passage is cut out, normalized and then fitted. `normalize` puts after each note
-- its end, and no end says a controller, a program or a bend; so a player has of the list at every time what it had.
--     state-normalized         what a player has of a list whose notes were given their ends; `range-normalized`: its bends are in range where they were
--     splits-up                `normalize` answers 0 wherever it is not refused, so that what follows is said of something
--     split-out                the events below the count afterwards
--     passage-normalized, passage-normalized-anywhere   a passage that `full_cut` cut out, `normalize` gave its ends and `fit_profile` fitted has at t what
--                              the song has at the cut's time and t
--     order-matters            normalized after it was fitted, a list need not pass
use mathlib.Core.Bool.{Bool, true, false}
use mathlib.Core.Path.{◌≡◌, refl, sym, ap, ap₂, ◌∙◌}
use mathlib.Core.List.{List, [], ◌∷◌}
use Prim.Native.Nat.{ℕ}
use lib.IntN.{ℤ, pos, ◌+ℤ◌}
use lib.ListN.{length}
use lib.Signed.{le_z}
use Rattle.laws.specs.Lists.{all, any}
use Rattle.events.specs.declared.Event.{Event}
use Rattle.events.specs.Events.{note_event, cc_event}
use Rattle.events.specs.Kinds.{has_data}
use Rattle.eventlist.specs.declared.Taken.{Taken}
use Rattle.eventlist.specs.Rows.{events_of}
use Rattle.eventlist.proofs.Sound.{left-events}
use Rattle.notes.specs.Notes.{is_note, off_of, split_notes, split_refusal, split_taken, split_left}
use Rattle.notes.proofs.Promises.{without-ends, all-ends}
use Rattle.profile.specs.Profile.{is_heeded, accepts, twins, channel_of, one_channel, no_twins, passes, fitted}
use Rattle.profile.specs.Calls.{FitOut}
use Rattle.passage.specs.Player.{on, anywhere, state}
use Rattle.passage.specs.Passage.{dropped, FromOne, CutOut, SplitUp}
use Rattle.passage.proofs.Calls.{call-plays-as-in-the-song, call-every-list}
use Rattle.passage.proofs.Edges.{unseen}
use Rattle.passage.proofs.Fitted.{in_range, Rehearsed, call-rehearsed, call-rehearsed-anywhere}

-- ---- the ends of notes
-- an end is of a kind that no state has
end-dropped : (e : Event) → dropped (off_of e) ≡ true
unfolding dropped
end-dropped e = refl

pub state-normalized : (es : List Event) (listens : ℤ → Bool) (t : ℤ) → state (split_notes es) listens t ≡ state es listens t
state-normalized es listens t =
    sym (unseen (split_notes es) listens t) ∙ ap (λ (l : List Event). state l listens t) (without-ends dropped end-dropped es) ∙ unseen es listens t

-- and it is no bend
pub range-normalized : (es : List Event) → all in_range (split_notes es) ≡ all in_range es
range-normalized = all-ends in_range (λ e. refl)

-- ---- the call
-- where the call is not refused, it gives every note its end
pub splits-up : (store : ℕ) (l : List ℤ) (count : ℕ) → split_refusal store l count (length l) ≡ 0
    → SplitUp store l count (length (split_notes (events_of l count))) (split_left store l count l count)
splits-up store l count y = record { answer = rw y; list = refl }

pub split-out : {store : ℕ} {l : List ℤ} {count n : ℕ} {l' : List ℤ} → SplitUp store l count n l' → events_of l' n ≡ split_notes (events_of l count)
split-out {store} {l} {count} k =
    let code : (split_taken store l count l).code ≡ 0 = sym (ap (λ (r : Taken). r.code) k.answer) in
    ap₂ events_of k.list (ap (λ (r : Taken). r.count) k.answer) ∙ rw code (left-events l count (split_notes (events_of l count)))

-- ---- a passage that was cut out, normalized and fitted
-- l₁ is the passage of the song l, l₂ the passage with the ends of its notes, and l₃ that list fitted
module _ {store : ℕ} {l : List ℤ} {count : ℕ} {at : ℤ} {n m i : ℕ} {l₁ l₂ l₃ : List ℤ} (k : CutOut store l count at n l₁) (s : SplitUp store l₁ n m l₂)
    (g : FitOut store l₂ m i l₃) (t : ℤ) (from : le_z (pos 0) t ≡ true) where
  alike : (listens : ℤ → Bool) → state (events_of l₂ m) listens t ≡ state (events_of l₁ n) listens t
  alike listens = ap (λ (es : List Event). state es listens t) (split-out s) ∙ state-normalized (events_of l₁ n) listens t

  ranges : all in_range (events_of l₂ m) ≡ all in_range (events_of l₁ n)
  ranges = ap (all in_range) (split-out s) ∙ range-normalized (events_of l₁ n)

  pub passage-normalized : FromOne at (events_of l count) → (j : ℤ) → Rehearsed (on j) (events_of l₃ i) t (events_of l count) (at +ℤ t) (all in_range (events_of l₁ n))
  passage-normalized h j = rw ranges at (call-rehearsed g (events_of l count) t (at +ℤ t) j (alike (on j) ∙ call-plays-as-in-the-song k h j t from))

  pub passage-normalized-anywhere : Rehearsed anywhere (events_of l₃ i) t (events_of l count) (at +ℤ t) (all in_range (events_of l₁ n))
  passage-normalized-anywhere = rw ranges at (call-rehearsed-anywhere g (events_of l count) t (at +ℤ t) (alike anywhere ∙ call-every-list k t from))

-- ---- the order is needed
-- the end of a note stands behind it, also where the next event comes before it in time
pub order-matters : (let es = note_event (pos 0) (pos 0) (pos 60) (pos 96) (pos 100) ∷ cc_event (pos 10) (pos 0) (pos 7) (pos 90) ∷ [] in
    (passes (split_notes (fitted es)) ≡ false) × (passes (fitted (split_notes es)) ≡ true))
unfolding passes split_notes is_note all any one_channel channel_of no_twins accepts is_heeded twins has_data
order-matters = (refl, refl)
