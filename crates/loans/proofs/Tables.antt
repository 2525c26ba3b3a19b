-- A call on a cycle table by value, made over one that is lent: the records are loaded, the call is made, its records are saved. It is the
-- call on the lent records themselves: of sixteen, loading and saving is the identity; any other table is refused with 1 and left.
use mathlib.Core.Path.{◌≡◌, refl, sym, ap, ◌∙◌}
use mathlib.Core.Bool.{Bool, true, false, cond}
use mathlib.Core.List.{List}
use Prim.Native.Nat.{ℕ}
use lib.Dec.{eqb}
use lib.IntN.{ℤ}
use lib.ListN.{length}
use Rattle.numbers.specs.Limits.{places}
use Rattle.cycles.specs.declared.Cycle.{Cycle}
use Rattle.tables.specs.declared.OnNoteSine.{OnNoteSine}
use Rattle.state.specs.declared.Track.{Track}
use Rattle.state.specs.declared.TrackAnswer.{TrackAnswer}
use Rattle.reserving.specs.declared.Kept.{Kept}
use Rattle.reserving.specs.Clearing.{answer, left, refusal, reserving}
use Rattle.reserving.specs.Setting.{remove_reserve, set_on_note, set_on_note_wave, set_on_note_sine, set_on_cycle}
use Rattle.lending.specs.Moving.{no_cycles, loaded_of, saved_of}
use Rattle.loans.specs.Lent.{Reserved, kept}

-- every setter refuses another number of records than sixteen with 1
alone : (a : Track) (n : ℕ) (cs : List Cycle) (target : ℤ) (short ok : Bool) (room : Kept → Bool) (put : Kept → Kept) → eqb n places ≡ false → reserving a n cs target short ok room put ≡ answer 1 a cs
unfolding reserving refusal left
alone a n cs target short ok room put e = rw e

module _ (a : Track) (call : ℕ → List Cycle → Kept) (refused : (n : ℕ) (cs : List Cycle) → eqb n places ≡ false → call n cs ≡ answer 1 a cs) (ys : List Cycle) where
  same : (kept (call (length ys) (loaded_of ys)) ≡ kept (call (length ys) ys)) × (saved_of (call (length ys) (loaded_of ys)).cycles ys ≡ (call (length ys) ys).cycles)
  unfolding loaded_of saved_of
  same = go (eqb (length ys) places) refl
    where
      go : (b : Bool) → eqb (length ys) places ≡ b
          → (kept (call (length ys) (cond b ys no_cycles)) ≡ kept (call (length ys) ys)) × (cond b (call (length ys) (cond b ys no_cycles)).cycles ys ≡ (call (length ys) ys).cycles)
      go true e = (refl, refl)
      go false e =
          (ap kept (refused (length ys) no_cycles e) ∙ sym (ap kept (refused (length ys) ys e)), sym (ap (λ (k : Kept). k.cycles) (refused (length ys) ys e)))

  -- cs was loaded; the call of it gave k, whose records were saved and left zs, and r answered
  pub lent : (cs : List Cycle) (k : Kept) (zs : List Cycle) (r : TrackAnswer) → cs ≡ loaded_of ys → k ≡ call (length ys) cs → r ≡ kept k → zs ≡ saved_of k.cycles ys → Reserved (call (length ys) ys) r zs
  lent cs k zs r ec ek er ez =
      let c : k ≡ call (length ys) (loaded_of ys) = ek ∙ ap (call (length ys)) ec in
      record { answer = er ∙ ap kept c ∙ same.0; left = ez ∙ ap (λ (k : Kept). saved_of k.cycles ys) c ∙ same.1 }

-- ---- the calls

module _ (a : Track) (target : ℤ) (n : ℕ) (cs : List Cycle) (e : eqb n places ≡ false) where
  pub remove-alone : remove_reserve a n cs target ≡ answer 1 a cs
  unfolding remove_reserve
  remove-alone = alone a n cs _ _ _ _ _ e

  pub note-alone : (v : List ℤ) → set_on_note a n cs target v ≡ answer 1 a cs
  unfolding set_on_note
  note-alone v = alone a n cs _ _ _ _ _ e

  pub wave-alone : (mode : ℕ) (v : List ℤ) → set_on_note_wave a n cs target mode v ≡ answer 1 a cs
  unfolding set_on_note_wave
  wave-alone mode v = alone a n cs _ _ _ _ _ e

  pub sine-alone : (s : OnNoteSine) → set_on_note_sine a n cs target s ≡ answer 1 a cs
  unfolding set_on_note_sine
  sine-alone s = alone a n cs _ _ _ _ _ e

  pub cycle-alone : (len : ℤ) (v : List ℤ) → set_on_cycle a n cs target len v ≡ answer 1 a cs
  unfolding set_on_cycle
  cycle-alone len v = alone a n cs _ _ _ _ _ e
