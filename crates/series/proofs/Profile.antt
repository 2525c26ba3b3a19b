-- The linked library's profile: what its C functions leave is what is proved of the calls, of `fit_profile` by `FitOut` of crate profile and of `normalize`
-- before it by `SplitUp` of crate passage, so that all of crates/profile/proofs/Calls.antt and of Fitted and Normalized in crates/passage/proofs holds of what C
-- calls.
use mathlib.Core.Path.{◌≡◌, ap₂}
use mathlib.Core.List.{List}
use Prim.Native.Nat.{ℕ}
use lib.IntN.{ℤ}
use Rattle.notes.specs.Notes.{split_taken, split_left}
use Rattle.profile.specs.declared.ProfileAnswer.{ProfileAnswer}
use Rattle.profile.specs.Calls.{check_answer, fit_taken, fit_left, FitOut}
use Rattle.passage.specs.Passage.{SplitUp}
use Rattle.ctrack.specs.Lent.{ListLeft, ProfileTold}

pub linked-check : (store : ℕ) (l : List ℤ) (count r k : ℕ) → ProfileTold (check_answer store l count) r k → ◌≡◌ {A = ProfileAnswer} (record { code = r; yes = k }) (check_answer store l count)
linked-check store l count r k t = ap₂ (λ (x y : ℕ). record { code = x; yes = y }) t.code t.yes

pub linked-fit : (store : ℕ) (l : List ℤ) (count n : ℕ) (l' : List ℤ) → ListLeft (fit_taken store l count) (fit_left store l count) 0 n l' → FitOut store l count n l'
linked-fit store l count n l' k = record { answer = ap₂ (λ (x y : ℕ). record { code = x; count = y }) k.code k.count; list = k.events }

pub linked-normalize : (store : ℕ) (l : List ℤ) (count n : ℕ) (l' : List ℤ) → ListLeft (split_taken store l count l) (split_left store l count l count) 0 n l' → SplitUp store l count n l'
linked-normalize store l count n l' k = record { answer = ap₂ (λ (x y : ℕ). record { code = x; count = y }) k.code k.count; list = k.events }
