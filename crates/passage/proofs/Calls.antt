-- The theorem of the trade of the call `full_cut`, wherever it answers 0, of the events below the count before and after.
--     accepted                    it answers 0 wherever it is not refused, so that what follows is said of something
--     call-plays-as-in-the-song   what a player of one channel has; call-every-list, of all channels
--     call-travelled, call_played, call-played-around   what is in the passage, and what it plays
--     call-state-twice, call-state-twice-anywhere, call-notes-twice   one call after another, and one call
use mathlib.Core.Bool.{true}
use mathlib.Core.Path.{◌≡◌, refl, sym, ap, ap₂, ◌∙◌}
use mathlib.Core.List.{List, ◌∷◌, ◌++◌, map}
use Prim.Native.Nat.{ℕ}
use lib.IntN.{ℤ, pos, ◌+ℤ◌}
use lib.ListN.{length}
use lib.Signed.{le_z}
use Rattle.laws.specs.Lists.{only}
use Rattle.events.specs.declared.Event.{Event}
use Rattle.eventlist.specs.declared.Taken.{Taken}
use Rattle.eventlist.specs.Rows.{events_of}
use Rattle.eventlist.proofs.Sound.{left-events}
use Rattle.cutting.specs.Cuts.{folded, whole, cut_of, cut_refusal, cut_taken, cut_left}
use Rattle.passage.specs.Player.{heard, on, anywhere, state}
use Rattle.passage.specs.Passage.{sounds, unfolded, travels, arrives, less_cut, from_cut, FromOne, CutOut}
use Rattle.passage.proofs.Passage.{plays-as-in-the-song, every-list}
use Rattle.passage.proofs.Played.{travelled, played, played-around}
use Rattle.passage.proofs.Twice.{state-twice, state-twice-anywhere, notes-twice}

-- where the call is not refused, it cuts out
pub accepted : (store : ℕ) (l : List ℤ) (count : ℕ) (at : ℤ) → cut_refusal store l count (whole at) ≡ 0
    → CutOut store l count at (length (cut_of (whole at) (events_of l count))) (cut_left store l count (whole at))
accepted store l count at y = record { answer = rw y; list = refl }

module _ {store : ℕ} {l : List ℤ} {count : ℕ} {at : ℤ} {n : ℕ} {l' : List ℤ} (k : CutOut store l count at n l') where
  -- the events below the count afterwards
  pub cut_out : events_of l' n ≡ cut_of (whole at) (events_of l count)
  cut_out =
      let code : (cut_taken store l count (whole at)).code ≡ 0 = sym (ap (λ (r : Taken). r.code) k.answer) in
      ap₂ events_of k.list (ap (λ (r : Taken). r.count) k.answer) ∙ rw code (left-events l count (cut_of (whole at) (events_of l count)))

  pub call-plays-as-in-the-song : FromOne at (events_of l count) → (j t : ℤ) → le_z (pos 0) t ≡ true → state (events_of l' n) (on j) t ≡ state (events_of l count) (on j) (at +ℤ t)
  call-plays-as-in-the-song h j t from = ap (λ (es : List Event). state es (on j) t) cut_out ∙ plays-as-in-the-song at (events_of l count) h j t from

  pub call-every-list : (t : ℤ) → le_z (pos 0) t ≡ true → state (events_of l' n) anywhere t ≡ state (events_of l count) anywhere (at +ℤ t)
  call-every-list t from = ap (λ (es : List Event). state es anywhere t) cut_out ∙ every-list at (events_of l count) t from

  pub call-travelled : events_of l' n ≡ folded (whole at) (heard (events_of l count)) ++ map (arrives at) (only (travels at) (events_of l count))
  call-travelled = cut_out ∙ travelled at (events_of l count)

  pub call_played : only sounds (heard (events_of l' n)) ≡ folded (whole at) (heard (events_of l count)) ++ from_cut at (heard (events_of l count))
  call_played = ap (λ (es : List Event). only sounds (heard es)) cut_out ∙ played at (events_of l count)

  pub call-played-around : (a b : List Event) (e : Event) → heard (events_of l count) ≡ a ++ (e ∷ b) → sounds e ≡ true → le_z at e.time ≡ true
      → only sounds (heard (events_of l' n)) ≡ (folded (whole at) (heard (events_of l count)) ++ from_cut at a) ++ (less_cut at e ∷ from_cut at b)
  call-played-around a b e split audible late = ap (λ (es : List Event). only sounds (heard es)) cut_out ∙ played-around at (events_of l count) a b e split audible late

-- ---- a cut of a cut
module _ {store : ℕ} {l : List ℤ} {count : ℕ} {c d : ℤ} {n m u : ℕ} {l₁ l₂ l' : List ℤ} (first : CutOut store l count c n l₁) (second : CutOut store l₁ n d m l₂)
    (once : CutOut store l count (c +ℤ d) u l') (from : le_z (pos 0) d ≡ true) where
  both : events_of l₂ m ≡ cut_of (whole d) (cut_of (whole c) (events_of l count))
  both = cut_out second ∙ ap (cut_of (whole d)) (cut_out first)

  pub call-state-twice : FromOne (c +ℤ d) (events_of l count) → (j t : ℤ) → le_z (pos 0) t ≡ true → state (events_of l₂ m) (on j) t ≡ state (events_of l' u) (on j) t
  call-state-twice h j t k =
      ap (λ (es : List Event). state es (on j) t) both ∙ state-twice c d from t k (events_of l count) h j ∙ sym (ap (λ (es : List Event). state es (on j) t) (cut_out once))

  pub call-state-twice-anywhere : (t : ℤ) → le_z (pos 0) t ≡ true → state (events_of l₂ m) anywhere t ≡ state (events_of l' u) anywhere t
  call-state-twice-anywhere t k =
      ap (λ (es : List Event). state es anywhere t) both ∙ state-twice-anywhere c d from t k (events_of l count) ∙ sym (ap (λ (es : List Event). state es anywhere t) (cut_out once))

  pub call-notes-twice : only unfolded (events_of l₂ m) ≡ only unfolded (events_of l' u)
  call-notes-twice =
      ap (only unfolded) both ∙ notes-twice c d from (events_of l count) ∙ sym (ap (only unfolded) (cut_out once))
