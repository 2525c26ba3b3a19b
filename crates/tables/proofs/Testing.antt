-- A table that is tested.
--     well-is       the test of a table that counts at most sixteen is that of its records
--     counted-few   a table that passes its test counts at most its places
use mathlib.Core.Path.{◌≡◌, sym, ap}
use mathlib.Core.Bool.{Bool, true, ◌&&◌}
use mathlib.Core.List.{List}
use Prim.Native.Nat.{ℕ, ◌≤◌}
use borrow.Author.Tests.{leb-true, le-leb}
use lib.Dec.{leb}
use lib.ListN.{take}
use Rattle.laws.specs.Lists.{all, counted}
use Rattle.laws.proofs.Ranges.{left}
use Rattle.numbers.specs.Limits.{places}
use Rattle.tables.specs.Sixteen.{ok_sixteen}

pub well-is : {A : Type 0} (p : A → Bool) (n : ℕ) (l : List A) → n ≤ places → all p (take n l) ≡ ok_sixteen p n l
unfolding ok_sixteen counted
well-is p n l h = sym (ap (λ b. b && all p (take n l)) (le-leb n places h))

pub counted-few : {A : Type 0} (n m : ℕ) (p : A → Bool) (l : List A) → counted n m p l ≡ true → n ≤ m
unfolding counted
counted-few n m p l e = leb-true n m (left (leb n m) (all p (take n l)) e)
