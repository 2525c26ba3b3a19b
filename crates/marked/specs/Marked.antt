-- 01, "Both sides of a line": each marked case in the document's words, as the answer that the contract of a public call admits, with
-- every number that the call leaves. What the calls are asked of is in Subjects.
use Rattle.std.specs.Prelude.{◌≡◌, [], ◌∷◌, ◌++◌, ◌+◌, pos, negsuc}
use Rattle.laws.specs.Rows.{flat}
use Rattle.numbers.specs.Limits.{list_limit}
use Rattle.budget.specs.Budgets.{unspent}
use Rattle.eventlist.specs.Rows.{numbers_of}
use Rattle.cutting.specs.Cuts.{plain, whole}
use Rattle.drawing.specs.Calls.{pb_target, Drawn}
use Rattle.reserving.specs.Clearing.{answer}
use Rattle.marked.specs.Subjects.{new, room, funds, outcome, control, bend, once, random, swell, half_way, valued, drawn, three_and_room, ones, WaveLeaves, waved, three, two, set, cycling, table, CycleLeaves, cycled, CutLeaves}

pub record Marked : Type 0 where
  -- Seed 1 steps to 270369; value 64, random 10 gives 68.
  pub seed-1 : Drawn (once random (pos 7) (pos 64) 1) (outcome 1 (funds 270369 80 8 0)) (numbers_of (control 7 0 68))
  -- Seed 0 stays 0; value 64, random 10 gives 59.
  pub seed-0 : Drawn (once random (pos 7) (pos 64) 0) (outcome 1 (funds 0 80 8 0)) (numbers_of (control 7 0 59))
  -- Bend 0 with 64: 8192; with 255: 32,639.
  pub bend-0 : Drawn (once new (pb_target (pos 0)) (pos 64) 1) (outcome 1 (funds 1 80 8 0)) (numbers_of (bend 8192))
      × Drawn (once new (pb_target (pos 0)) (pos 255) 1) (outcome 1 (funds 1 80 8 0)) (numbers_of (bend 32639))
  -- Bend 1 with -8192: 0; with 0: 8192.
  pub bend-1 : Drawn (once new (pb_target (pos 1)) (negsuc 8191) 1) (outcome 1 (funds 1 80 8 0)) (numbers_of (bend 0))
      × Drawn (once new (pb_target (pos 1)) (pos 0) 1) (outcome 1 (funds 1 80 8 0)) (numbers_of (bend 8192))
  -- Curve (0,127,96) at 48: 63.
  pub half_up : ((swell (pos 127)).code ≡ 0) × (half_way (pos 127) ≡ valued (pos 127) (pos 63))
  -- (0,-127,96) at 48: -63.
  pub half_down : ((swell (negsuc 126)).code ≡ 0) × (half_way (negsuc 126) ≡ valued (negsuc 126) (negsuc 62))
  -- Curve (0,100,12), frequency 4, maximum 88: 0, 33, 66 at 0, 4, 8, flag clear.
  pub curve-88 : Drawn (drawn 88) (outcome 3 (funds 1 88 24 0)) three_and_room
  -- Maximum 87: same events, flag set.
  pub curve-87 : Drawn (drawn 87) (outcome 3 (funds 1 87 24 1)) three_and_room
  -- Expand lengths 3,3,4 to 7: 2,2,3.
  pub expand-7 : WaveLeaves (waved three 7) 80 7 (outcome 7 (funds 1 80 56 0))
      (flat numbers_of (control 7 0 0 ∷ control 7 1 10 ∷ control 7 2 20 ∷ control 7 3 30 ∷ control 7 4 40 ∷ control 7 5 50 ∷ control 7 6 60 ∷ []))
  -- Lengths 8,0 to 15: 15,0.
  pub expand-15 : WaveLeaves (waved two 15) 160 15 (outcome 15 (funds 1 160 120 0))
      (flat numbers_of (control 7 0 0 ∷ control 7 1 1 ∷ control 7 2 2 ∷ control 7 3 3 ∷ control 7 4 4 ∷ control 7 5 5 ∷ control 7 6 6 ∷ control 7 7 7
      ∷ control 7 8 8 ∷ control 7 9 9 ∷ control 7 10 10 ∷ control 7 11 11 ∷ control 7 12 12 ∷ control 7 13 13 ∷ control 7 14 14 ∷ []))
  -- Cycle 24 with 10,20,30 from 0,
  pub cycle-set : set ≡ answer 0 cycling (table (pos 0) 0)
  -- until 100: 0, 24, 48, 72, 96 with 10,20,30,10,20.
  pub cycle-plenty : CycleLeaves set 80000 (cycled 5 (funds 1 80000 40 0) (table (pos 120) 2))
      (flat numbers_of (control 11 0 10 ∷ control 11 24 20 ∷ control 11 48 30 ∷ control 11 72 10 ∷ control 11 96 20 ∷ []))
  -- Maximum 16: two written, the one at 48 lost, next 72.
  pub cycle-scarce : CycleLeaves set 16 (cycled 2 (funds 1 16 16 1) (table (pos 72) 0)) (flat numbers_of (control 11 0 10 ∷ control 11 24 20 ∷ []) ++ room 3)
  -- CC7=90 at 0, CC7=100 at 10, cut at 10: list order 100, 90.
  pub cut-plain : CutLeaves (plain (pos 10)) (flat numbers_of (control 7 0 100 ∷ control 7 0 90 ∷ []))
  -- Full cut: 90, 100.
  pub cut-full : CutLeaves (whole (pos 10)) (flat numbers_of (control 7 0 90 ∷ control 7 0 100 ∷ []))
  -- 192 numbers accepted (02, c; a case that the document does not mark),
  pub list-longest : Drawn (ones list_limit) (outcome 1 (funds 1 80000 8 0)) (numbers_of (control 7 0 1))
  -- 193 give 3.
  pub list-too-long : Drawn (ones (list_limit + 1)) (record { code = 3; count = 0; budget = unspent 1 80000 }) (room 1)
