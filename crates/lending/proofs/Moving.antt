-- Loading sixteen records and saving what was loaded leaves every table as it was.
use mathlib.Core.Path.{◌≡◌, refl}
use mathlib.Core.Bool.{Bool, true, false, cond}
use mathlib.Core.List.{List}
use lib.Dec.{eqb}
use lib.ListN.{length}
use Rattle.numbers.specs.Limits.{places}
use Rattle.cycles.specs.declared.Cycle.{Cycle}
use Rattle.lending.specs.Moving.{no_cycles, loaded_of, saved_of}

pub there_and_back : (ys : List Cycle) → saved_of (loaded_of ys) ys ≡ ys
unfolding loaded_of saved_of
there_and_back ys = go (eqb (length ys) places)
  where
    go : (b : Bool) → cond b (cond b ys no_cycles) ys ≡ ys
    go true = refl
    go false = refl
