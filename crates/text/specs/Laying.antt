-- Text in a buffer, and records in a list.
use Rattle.std.specs.Prelude.{ℕ, ◌+◌, List, ◌++◌, length, take, drop}

module _ {A : Type 0} where
  -- o with a text at a place: what stands before it and behind it stays
  unfoldable pub laid : ℕ → List A → List A → List A
  laid at text o = take at o ++ text ++ drop (at + length text) o
