-- A text put into a buffer.
use Rattle.std.specs.Prelude.{◌≡◌, List, ℕ, ◌+◌, length}
use Rattle.text.specs.Laying.{laid}

-- `before` with the text at a place is `after`, and `next` is the place behind it
pub record Puts (at : ℕ) (text before after : List ℕ) (next : ℕ) : Type 0 where
  pub whole : after ≡ laid at text before
  pub past : next ≡ at + length text
