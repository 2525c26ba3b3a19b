-- `layers_ok` tests the layers that count from the front (the law Tests).
use lib.ListN.{take}
use Rattle.laws.proofs.Tests.{Left}
use Rattle.layers.specs.Layers.{ok_layer}
use Rattle.layers.proofs.layers_ok.Given as goal

abbrev pub invariant-loop-i : goal.invariant-loop-i
invariant-loop-i l = Left ok_layer (take l.n l.layers.items) l.i
