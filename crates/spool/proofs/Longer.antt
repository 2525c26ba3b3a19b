-- 02, c): "other tapes read as before" of what is played and printed of a tape. As long as the records are the same, so are the runs; a run
-- that is over stays as it is (`stopped`). The limit here is that of a tape's n: a list's room, and the calls' own tests of a list, are those
-- of `list_limit` on both sides.
--     as-played, as-printed   at two limits, of a tape none of whose records was refused for its n
--     request-c               at 96, the limit that was, and the limit that is
use mathlib.Core.Path.{◌≡◌, refl, sym, ap, ◌∙◌}
use mathlib.Core.Bool.{Bool, true, false, cond}
use mathlib.Core.List.{List}
use Prim.Native.Nat.{ℕ, zero, suc, ◌≤◌}
use native.Mathlib.Omega.{arith}
use Rattle.std.specs.Prelude.{Result, Ok, Err}
use lib.Dec.{ltb}
use lib.IntN.{ℤ}
use lib.ListN.{length}
use Rattle.numbers.specs.Limits.{list_limit}
use Rattle.numbers.specs.Refusals.{number_of}
use Rattle.numbers.specs.declared.refusals.Refusal.{Refusal}
use Rattle.reel.specs.Limits.{tape_limit}
use Rattle.reel.specs.declared.records.Record.{Record}
use Rattle.reel.specs.Records.{record_by}
use Rattle.reel.specs.Places.{place}
use Rattle.reel.specs.Longer.{is_longer}
use Rattle.reel.proofs.Longer.{Others, same_here, others-on}
use Rattle.lines.specs.Lines.{end_text}
use Rattle.carrying.specs.declared.State.{State}
use Rattle.carrying.specs.Carry.{carried}
use Rattle.spool.specs.declared.Run.{Run}
use Rattle.spool.specs.Play.{Pass, pass, begun, refused, past, after_done, after_record, step_by, play_from_by, ended, play_by, ending_of, printed_by, printed}
use Rattle.spool.proofs.Playing.{none_left}

if-so : (t : Bool) (x y p : Pass) → (t ≡ true → x ≡ y) → cond t x p ≡ cond t y p
if-so true x y p f = f refl
if-so false x y p f = refl

module _ (lo hi : ℕ) (s : List ℕ) where
  abbrev Same : ℕ → Pass → Type 0
  Same n p = play_from_by lo n s p ≡ play_from_by hi n s p

  stopped : (n : ℕ) (p : Pass) → length s ≤ p.run.at → Same n p
  stopped n p e = none_left lo s n p e ∙ sym (none_left hi s n p e)

  module _ (n : ℕ) (a : Run) (l : List ℤ) where
    -- after one record: over, or at the next
    after : ((r : Record) → record_by hi s a.at a.due ≡ Ok r → (x : State) (e : List ℤ) → Same n (pass (past a r.next x) e)) → Same n (step_by hi s a l)
    unfolding step_by
    after f = go (record_by hi s a.at a.due) refl
      where
        each : (r : Record) → record_by hi s a.at a.due ≡ Ok r → (e : List ℤ) (d : Result State ℕ) → Same n (after_done s a r e d)
        each r z e (Ok y) = f r z y e
        each r z e (Err m) = stopped n (pass (refused a m (length s)) e) (omega arith)

        go : (x : Result Record Refusal) → record_by hi s a.at a.due ≡ x → Same n (after_record s a l x)
        go (Ok r) z = each r z (carried a.state r l).events (carried a.state r l).done
        go (Err e) z = stopped n (pass (refused a (number_of e) (length s)) l) (omega arith)

  module _ (h : lo ≤ hi) where
    from : (n : ℕ) (a : Run) (l : List ℤ) → Others lo hi s n (place a.at a.due) → Same n (pass a l)
    unfolding play_from_by step_by
    from zero a l o = refl
    from (suc n) a l o =
        let q = place a.at a.due in
        if-so (ltb a.at (length s)) _ _ (pass a l) (λ t.
        ap (λ (r : Result Record Refusal). play_from_by lo n s (after_record s a l r)) (same_here lo hi h s n q t o)
        ∙ after n a l (λ r z x e. from n (past a r.next x) e (others-on lo hi h s n q t o r z)))

    pub as-played : (l : List ℤ) → is_longer lo hi s ≡ false → play_by lo s l ≡ play_by hi s l
    unfolding play_by is_longer
    as-played l o =
        ap (λ (p : Pass). cond (ltb tape_limit (length s)) (pass (refused begun 8 (length s)) l) p) (from (length s) begun l o)

    pub as-printed : (l : List ℤ) (page : List ℕ) → is_longer lo hi s ≡ false → printed_by lo s l page ≡ printed_by hi s l page
    unfolding printed_by
    as-printed l page o =
        ap (λ (p : Pass). end_text (ending_of (ended (length s) p.run)) p.events page) (as-played l o)

-- the text that `print_tape` promises of every other tape is the one with n held to 96
pub request-c : (s : List ℕ) (l : List ℤ) (page : List ℕ) → is_longer 96 list_limit s ≡ false → printed_by 96 s l page ≡ printed s l page
request-c s = as-printed 96 list_limit s (omega arith)
