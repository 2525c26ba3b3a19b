-- What setting a reservation asks of its arguments, a list or a cycle's, and of what is made of them.
use Rattle.std.proofs.Common.{◌≤◌, List, ℤ, length, arith, length-drop}
use Rattle.numbers.specs.Limits.{list_limit}
use Rattle.reserved.specs.Setting.{rest_of}

pub rest-fits : (v : List ℤ) → length v ≤ list_limit → length (rest_of v) ≤ list_limit
rest-fits v h = omega (arith, length-drop 1 v)
