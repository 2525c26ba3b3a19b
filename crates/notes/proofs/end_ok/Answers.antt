-- The sum is only asked where it fits, which both numbers' sizes say.
use mathlib.Core.Path.{ap}
use mathlib.Core.Bool.{not}
use native.Mathlib.Omega.{arith}
use lib.IntN.{◌+ℤ◌}
use mir.Syntax.{w64}
use mir.Val.{SFits}
use mir.Facts.{to_z-of_z}
use Rattle.laws.proofs.Signed.{mag-add, add_back}
use Rattle.laws.proofs.Tests.{one_of}
use Rattle.notes.specs.Notes.{ok_end}
use Rattle.notes.proofs.end_ok.Goals as goal

module _ (c : goal.After-struct_told-1) where
  time-fits : SFits w64 c.args.e.time
  time-fits = let h = c.requires.0 in omega arith

  len-fits : SFits w64 c.args.e.v2
  len-fits = let h = c.requires.1 in omega arith

  sum_fits : SFits w64 (c.args.e.time +ℤ c.args.e.v2)
  sum_fits = let h = c.requires.0 in let k = c.requires.1 in omega (arith, mag-add c.args.e.time c.args.e.v2)

module _ (c : goal.After-is_event_time) where
  time-fits-at-2 : SFits w64 c.args.e.time
  time-fits-at-2 = let h = c.requires.0 in omega arith

  len-fits-at-2 : SFits w64 c.args.e.v2
  len-fits-at-2 = let h = c.requires.1 in omega arith

  sum_fits-at-2 : SFits w64 (c.args.e.time +ℤ c.args.e.v2)
  sum_fits-at-2 = let h = c.requires.0 in let k = c.requires.1 in omega (arith, mag-add c.args.e.time c.args.e.v2)

pub overflow_add-e : goal.overflow_add-e
overflow_add-e c = rw (to_z-of_z (time-fits c), to_z-of_z (len-fits c)) (sum_fits c)

pub returns : goal.returns
unfolding ok_end
returns c =
    one_of (ap not c.is_note.ensures)
    (rw (add_back (time-fits-at-2 c) (len-fits-at-2 c) (sum_fits-at-2 c)) at c.is_event_time.ensures)
