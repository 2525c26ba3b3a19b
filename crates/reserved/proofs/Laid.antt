-- A list within its limit, once laid, is tested as the lent one.
use mathlib.Core.Path.{◌≡◌}
use mathlib.Core.Bool.{false}
use mathlib.Core.List.{List}
use borrow.Author.Tests.{ltb-false}
use lib.Dec.{ltb}
use lib.IntN.{ℤ}
use lib.ListN.{length}
use Rattle.laws.specs.Lists.{all}
use Rattle.numbers.specs.Limits.{list_limit}
use Rattle.numbers.specs.Ranges.{is_number}
use Rattle.counted.specs.Numbers.{numbers, ok_numbers}
use Rattle.counted.specs.Curves.{is_curve, ok_curve}
use Rattle.counted.proofs.Counted.{laid-numbers, laid-curve}
use Rattle.reserved.specs.Setting.{rest_of}
use Rattle.reserved.proofs.Settings.{rest-fits}

module _ (v : List ℤ) (h : ltb list_limit (length v) ≡ false) where
  pub laid_list : ok_numbers (numbers v) ≡ all is_number v
  laid_list = laid-numbers v (ltb-false list_limit (length v) h)

  pub laid_triples : ok_curve (numbers v) ≡ is_curve v
  laid_triples = laid-curve v (ltb-false list_limit (length v) h)

  pub laid_rest : ok_numbers (numbers (rest_of v)) ≡ all is_number (rest_of v)
  laid_rest = laid-numbers (rest_of v) (rest-fits v (ltb-false list_limit (length v) h))
