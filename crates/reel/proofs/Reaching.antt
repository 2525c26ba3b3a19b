-- How far reading a record gets: past its mark, and not past the tape.
use mathlib.Core.Path.{◌≡◌, refl}
use mathlib.Core.List.{List}
use Prim.Native.Nat.{ℕ, ◌+◌, ◌≤◌}
use native.Mathlib.Omega.{arith}
use lib.ListN.{length}
use Rattle.std.specs.Prelude.{Option, Some, None, Result, Ok, Err}
use Rattle.numbers.specs.Refusals.{told}
use Rattle.numbers.specs.declared.refusals.Refusal.{Refusal}
use Rattle.reel.specs.Records.{behind, mark_at, fault_in, fault_by, mark_fault_by, count_at, sound, if_asked, record_in, record_by, number_told}
use Rattle.reel.specs.declared.marks.Mark.{Mark}
use Rattle.reel.specs.declared.records.Record.{Record}
use Rattle.reel.proofs.Listing.{length-numbers}
use Rattle.reel.proofs.Reading.{Fits, fault-none}

module _ (limit : ℕ) (s : List ℕ) (p due : ℕ) where
  -- of a record that is there or refused by a number, the number says which
  pub code_is : number_told (record_by limit s p due) ≡ told (fault_by limit s p due)
  unfolding record_by fault_by
  code_is = go (mark_at s p)
    where
      each : (f : Result Unit Refusal) (r : Record) → number_told (if_asked f r) ≡ told f
      each (Ok _) r = refl
      each (Err e) r = refl

      go : (o : Option Mark) → number_told (record_in limit s p due o) ≡ told (fault_in limit s p due o)
      go None = refl
      go (Some m) = each (mark_fault_by limit s p due m) (sound s p m (count_at s p m))

  -- a record that was read: no more numbers than a list may have, past its mark, and not past the tape
  pub record Reached (r : Record) : Type 0 where
    pub few : r.list.count ≤ limit
    pub past : p + 2 ≤ r.next
    pub within : r.next ≤ length s

  pub reached : (r : Record) → record_by limit s p due ≡ Ok r → Reached r
  unfolding record_by
  reached r = go (mark_at s p) refl
    where
      each : (m : Mark) → Some m ≡ mark_at s p → (f : Result Unit Refusal) → mark_fault_by limit s p due m ≡ f → if_asked f (sound s p m (count_at s p m)) ≡ Ok r → Reached r
      each m is (Ok _) q e =
          let f : Fits limit s p m = fault-none limit s p due m is q in
          let g : sound s p m (count_at s p m) ≡ r = cc in
          rw (← g) (record {
            few = omega (arith, f.few, length-numbers s (behind p m) (count_at s p m));
            past = omega arith;
            within = f.room;
          })
      each m is (Err x) q e = absurd (cc)

      go : (o : Option Mark) → o ≡ mark_at s p → record_in limit s p due o ≡ Ok r → Reached r
      go None is e = absurd (cc)
      go (Some m) is e = each m is (mark_fault_by limit s p due m) refl e
