-- A Bool by cases, a test joined with one that is known, and what follows of a test that implies another.
use mathlib.Core.Path.{◌≡◌, refl}
use mathlib.Core.Bool.{Bool, true, false, not, ◌&&◌, ◌||◌}
use mathlib.Core.Logic.{◌⊎◌, inl, inr}

pub which : (t : Bool) → (t ≡ true) ⊎ (t ≡ false)
which true = inl refl
which false = inr refl

pub and-on : (b : Bool) → (b && true) ≡ b
and-on true = refl
and-on false = refl

pub and-off : (b : Bool) → (b && false) ≡ false
and-off true = refl
and-off false = refl

pub or-on : (b : Bool) → (b || true) ≡ true
or-on true = refl
or-on false = refl

pub not-not : (b : Bool) → not (not b) ≡ b
not-not true = refl
not-not false = refl

-- where m implies n: not n, so not m; and what is asked where n holds is asked where m holds
pub contra : (m n : Bool) → (m ≡ true → n ≡ true) → not n ≡ true → not m ≡ true
contra true n f h = let q = f refl in rw q at h
contra false n f h = refl

pub narrower : (m n x : Bool) → (m ≡ true → n ≡ true) → (not n || x) ≡ true → (not m || x) ≡ true
narrower true n x f h = let q = f refl in rw q at h
narrower false n x f h = refl
