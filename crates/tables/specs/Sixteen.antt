-- 01, "Cycles" and "Numbers a caller may hand in": tables of sixteen, whatever stands in them: of the items n count. "Setting a target
-- again moves it to the end": it is taken out, what stays closes up, and one more is put at the end. `f` is a record's key.
use Rattle.std.specs.Prelude.{Bool, List, map, ℕ, eqb, take}
use Rattle.laws.specs.Lists.{counted, without}
use Rattle.numbers.specs.Limits.{places}

module _ {A : Type 0} where
  -- whether a record is told apart by k
  unfoldable pub keyed : (A → ℕ) → ℕ → A → Bool
  keyed f k e = eqb (f e) k

  -- those of other keys, in order
  abbrev pub left : (A → ℕ) → ℕ → List A → ℕ → List A
  left f n items k = without (keyed f k) (take n items)

  -- at most sixteen, each of which may be stored
  unfoldable pub ok_sixteen : (A → Bool) → ℕ → List A → Bool
  ok_sixteen p n items = counted n places p items

  abbrev pub keys_of : (A → ℕ) → ℕ → List A → List ℕ
  keys_of f n items = map f (take n items)
