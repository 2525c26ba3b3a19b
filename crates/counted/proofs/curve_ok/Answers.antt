-- The second test reads only what counts, which the first has found to be within the limit.
use Rattle.std.proofs.Common.{sym, ◌∙◌}
use Rattle.counted.proofs.Counted.{numbers-count}
use Rattle.counted.proofs.curve_ok.Goals as goal

pub thirds_ok-requires : goal.thirds_ok-requires
thirds_ok-requires c = numbers-count _ (sym c.numbers_ok.ensures ∙ c.if-numbers_ok.true)
