-- 02, c): "A tape with n between 97 and 192, once refused with 3, is now taken if the bytes are there; other tapes read as
-- before." Over the limit that was and the limit that is, lo and hi.
use Rattle.std.specs.Prelude.{Bool, false, ◌&&◌, Option, Some, None, List, ℕ, ◌+◌, ◌*◌, eqb, leb, pos, length}
use Rattle.laws.specs.Integers.{inside, cut}
use Rattle.laws.specs.Lists.{any}
use Rattle.numbers.specs.Refusals.{told}
use Rattle.reel.specs.Marks.{has_list}
use Rattle.reel.specs.Records.{behind, mark_at, last_at, fault_by}
use Rattle.reel.specs.declared.marks.Mark.{Mark}
use Rattle.reel.specs.Places.{Place, places_by}

-- the mark at p has a list, of n in lo + 1..hi, whether or not its bytes are there
abbrev pub between_in : ℕ → ℕ → List ℕ → ℕ → Option Mark → Bool
between_in lo hi s p None = false
between_in lo hi s p (Some m) = has_list m && inside (pos (lo + 1)) (pos hi) (last_at s p m)

-- the record at p has such a list
unfoldable pub between : ℕ → ℕ → List ℕ → ℕ → Bool
between lo hi s p = between_in lo hi s p (mark_at s p)

abbrev pub there_in : List ℕ → ℕ → Option Mark → Bool
there_in s p None = false
there_in s p (Some m) = leb (behind p m + 4 * cut (last_at s p m)) (length s)

-- "if the bytes are there"
unfoldable pub is_there : List ℕ → ℕ → Bool
is_there s p = there_in s p (mark_at s p)

-- "with n between 97 and 192, once refused with 3"
abbrev pub once_refused : ℕ → ℕ → List ℕ → Place → Bool
once_refused lo hi s q = eqb (told (fault_by lo s q.at q.due)) 3 && between lo hi s q.at

-- a tape with such a record
unfoldable pub is_longer : ℕ → ℕ → List ℕ → Bool
is_longer lo hi s = any (once_refused lo hi s) (places_by hi s)
