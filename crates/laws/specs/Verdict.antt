-- 01, "Numbers that come back": "checked in that order". The tests of a call stand in the table's order, each with the number that it refuses
-- with; the first that fails gives the number of the call, and 0 says that none did. "1 to 7 return the given state and change nothing":
-- by the number it is settled what a call leaves.
use Rattle.std.specs.Prelude.{Bool, cond, List, [], ◌∷◌, ℕ, zero, suc, eqb}

-- what must hold, with the number of a call where it does not; and a number that another test has given, which is 0 where that held
pub data Test : Type 0 where
  asks : ℕ → Bool → Test
  says : ℕ → Test

unfoldable pub verdict : List Test → ℕ
verdict [] = 0
verdict (asks n t ∷ l) = cond t (verdict l) n
verdict (says zero ∷ l) = verdict l
verdict (says (suc n) ∷ l) = suc n

-- what a call of number n leaves: what it makes where nothing refused it, else what it was handed
abbrev pub settle : {A : Type 0} → ℕ → A → A → A
settle n made handed = cond (eqb n 0) made handed
