-- The cast from 64 to 32 bits keeps the number, which the contract says to fit.
use Rattle.std.proofs.Common.{ap, ◌∙◌, w32, w64}
use borrow.Author.Rules.{sfits_of}
use lib.Ieee.{of_int, binary32}
use Rattle.laws.proofs.Signed.{narrow_back}
use Rattle.shapes.proofs.f32_of.Goals as goal

pub returns : goal.returns
returns c = c.nearest_i32_to_f32.ensures ∙ ap (of_int binary32) (narrow_back w64 w32 c.ranges.z (sfits_of c.requires))
