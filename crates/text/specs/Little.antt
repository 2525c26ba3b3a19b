-- Numbers as bytes, little end first (01, "The tape program": "numbers are four bytes, little-endian, signed").
use Rattle.std.specs.Prelude.{ℕ, ◌+◌, ◌*◌, List, ℤ, get_or}
use Rattle.std.specs.Int.{w32, w64}
use Rattle.std.proofs.Common.{to_z}

-- four bytes from p on: each counts 256 times the one before it
abbrev pub bits_at : List ℕ → ℕ → ℕ
bits_at s p = get_or s p 0 + 256 * get_or s (p + 1) 0 + 65536 * get_or s (p + 2) 0 + 16777216 * get_or s (p + 3) 0

-- eight bytes from p on
abbrev pub wide_bits_at : List ℕ → ℕ → ℕ
wide_bits_at s p = bits_at s p + 4294967296 * bits_at s (p + 4)

-- the number of 32 bits that the four bytes are
unfoldable pub number_at : List ℕ → ℕ → ℤ
number_at s p = to_z w32 (bits_at s p)

-- the number of 64 bits that the eight bytes are
unfoldable pub word_at : List ℕ → ℕ → ℤ
word_at s p = to_z w64 (wide_bits_at s p)
