-- `options_ok` tests the options from the front (the law Tests).
use Rattle.laws.proofs.Tests.{Left}
use Rattle.values.specs.Options.{ok_option}
use Rattle.state.proofs.options_ok.Given as goal

abbrev pub invariant-loop-i : goal.invariant-loop-i
invariant-loop-i l = Left ok_option l.options l.i
