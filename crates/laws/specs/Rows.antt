-- A flat list read as records of w numbers each, over any number, record and width.
use Rattle.std.specs.Prelude.{List, [], ◌∷◌, ◌++◌, ℕ, zero, suc, drop}

module _ {A R : Type 0} where
  -- the first n records
  abbrev pub rows : ℕ → (List A → R) → ℕ → List A → List R
  rows w dec zero l = []
  rows w dec (suc n) l = dec l ∷ rows w dec n (drop w l)

  -- back to a flat list
  abbrev pub flat : (R → List A) → List R → List A
  flat enc [] = []
  flat enc (r ∷ rs) = enc r ++ flat enc rs
