-- 01, "The tape program": "Each record starts with a two-byte mark; numbers are four bytes, little-endian, signed".
use Rattle.std.specs.Prelude.{ℕ, zero, suc, ◌+◌, List, [], ◌∷◌, ℤ, get_or}
use Rattle.text.specs.Little.{number_at}
use Rattle.reel.specs.Marks.{letters}

-- the two bytes at p
abbrev pub letters_at : List ℕ → ℕ → ℕ
letters_at s p = letters (get_or s p 0) (get_or s (p + 1) 0)

-- n numbers from p on
unfoldable pub numbers_at : List ℕ → ℕ → ℕ → List ℤ
numbers_at s p zero = []
numbers_at s p (suc n) = number_at s p ∷ numbers_at s (p + 4) n
