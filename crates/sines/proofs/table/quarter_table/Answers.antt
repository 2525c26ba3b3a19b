-- The constant of the code is the list of the definition, entry by entry. Every other function cites this contract, and none the constant.
use mathlib.Core.Path.{refl}
use Rattle.sines.specs.Table.{quarter_table}
use Rattle.sines.proofs.table.quarter_table.Goals as goal

pub returns : goal.returns
unfolding quarter_table
returns c = refl
