-- The loop over the records: what is left of the tape gives what the whole gives.
--     Going                     where the loop stands: playing on for `left` records at most gives what playing from the start gives
--     going_start, going_step, going_end   before the first, one more, the last
--     too_long, played, printed-by   a tape by its length, and what is printed of it
use mathlib.Core.Path.{◌≡◌, refl, ap, sym, ◌∙◌}
use mathlib.Core.List.{List}
use Prim.Native.Nat.{ℕ, zero, suc, ◌+◌, ◌-◌, ◌≤◌, ◌<◌}
use native.Mathlib.Omega.{arith}
use lib.IntN.{ℤ}
use lib.ListN.{length}
use borrow.Author.Tests.{lt-ltb, le-ltb}
use Rattle.numbers.specs.Limits.{list_limit}
use Rattle.reel.specs.Limits.{tape_limit}
use Rattle.lines.specs.Lines.{end_text}
use Rattle.spool.specs.declared.Run.{Run}
use Rattle.spool.specs.Play.{Pass, pass, begun, refused, step_of, play_from_by, play_from, ended, play_by, play_of, ending_of, printed_by, printed}
use Rattle.spool.proofs.Steps.{moves}

pub record Going (s : List ℕ) (start now : Pass) : Type 0 where
  pub left : ℕ
  pub enough : length s ≤ left + now.run.at
  pub same : play_from left s now ≡ play_from (length s) s start
  pub sofar : now.run.index ≤ now.run.at
  pub long : length now.events ≡ length start.events

one_less : (s : List ℕ) (n : ℕ) (p : Pass) → length s ≤ n + p.run.at → p.run.at < length s → play_from n s p ≡ play_from (n - 1) s (step_of s p.run p.events)
unfolding play_from_by
one_less s zero p h l = absurd (omega arith)
one_less s (suc n) p h l = let e : suc n - 1 ≡ n = omega arith in rw (e, lt-ltb _ _ l)

pub none_left : (limit : ℕ) (s : List ℕ) (n : ℕ) (p : Pass) → length s ≤ p.run.at → play_from_by limit n s p ≡ p
unfolding play_from_by
none_left limit s zero p h = refl
none_left limit s (suc n) p h = rw (le-ltb _ _ h)

module _ (s : List ℕ) (start : Pass) where
  pub going_start : start.run.index ≤ start.run.at → Going s start start
  going_start h = record { left = length s; enough = omega arith; same = refl; sofar = h; long = refl }

  pub going_step : (a : Run) (l : List ℤ) → Going s start (pass a l) → a.at < length s → (p : Pass) → p ≡ step_of s a l → length p.events ≡ length l → Going s start p
  going_step a l g h p q n =
      let m = rw (← q) at (moves s a l h) in
      record {
        left = g.left - 1;
        enough = omega (arith, g.enough, m.0);
        same = ap (play_from (g.left - 1) s) q ∙ sym (one_less s g.left (pass a l) g.enough h) ∙ g.same;
        sofar = omega (arith, g.sofar, m.0, m.1);
        long = n ∙ g.long;
      }

  pub going_end : (p : Pass) → Going s start p → length s ≤ p.run.at → p ≡ play_from (length s) s start
  going_end p g h = sym (none_left list_limit s g.left p h) ∙ g.same

module _ (s : List ℕ) (l : List ℤ) where
  pub too_long : tape_limit < length s → pass (refused begun 8 (length s)) l ≡ play_of s l
  unfolding play_by
  too_long h = rw (lt-ltb _ _ h)

  pub played : length s ≤ tape_limit → play_from (length s) s (pass begun l) ≡ play_of s l
  unfolding play_by
  played h = rw (le-ltb _ _ h)

-- what is printed, from how the run ended and what the list then holds
pub printed-by : (s : List ℕ) (l : List ℤ) (page : List ℕ) {a : Run} {e : List ℤ} → a ≡ ended (length s) (play_of s l).run → e ≡ (play_of s l).events
    → end_text (ending_of a) e page ≡ printed s l page
unfolding printed_by
printed-by s l page p q = rw (p, q)
