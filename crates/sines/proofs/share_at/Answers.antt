-- Each arm is the shape that its variant names.
use native.Mathlib.Omega.{arith}
use Rattle.sines.specs.Sine.{share_of}
use Rattle.sines.proofs.share_at.Goals as goal

pub returns-in-Sine : goal.returns-in-Sine
unfolding share_of
returns-in-Sine c = (simp (c.in-Sine.is, c.lift_at.ensures.0), omega arith)

pub returns-in-UpSine : goal.returns-in-UpSine
unfolding share_of
returns-in-UpSine c = (simp (c.in-UpSine.is, c.sin_at.ensures.0), omega arith)

pub returns-in-DownSine : goal.returns-in-DownSine
unfolding share_of
returns-in-DownSine c = (simp (c.in-DownSine.is, c.sin_at-in-DownSine.ensures.0), omega arith)
