-- `begin` asks for the call's number and for how many writes it may make.
use mir.Facts.{to_z-of_z}
use Rattle.lending.specs.Writing.{begun_with}
use Rattle.lending.proofs.begin.Goals as goal

pub returns : goal.returns
unfolding begun_with
returns c =
    rw (c.code_of.ensures, rw (to_z-of_z c.ranges.until) at c.cycle_refusal.ensures, c.write_limit.ensures.1)
