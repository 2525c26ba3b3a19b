-- Words for lists and for the counted part of a table, over any element.
use Rattle.std.specs.Prelude.{Bool, true, false, cond, not, ◌&&◌, ◌||◌, List, [], ◌∷◌, ◌++◌, ℕ, suc, ◌-◌, max, leb, length, take, drop, replicate}

module _ {A : Type 0} where
  -- p holds of every element
  unfoldable pub all : (A → Bool) → List A → Bool
  all p [] = true
  all p (x ∷ xs) = p x && all p xs

  -- p holds of some element
  unfoldable pub any : (A → Bool) → List A → Bool
  any p [] = false
  any p (x ∷ xs) = p x || any p xs

  -- how many at the front pass a test, up to the first that does not
  abbrev pub leading : (A → Bool) → List A → ℕ
  leading test [] = 0
  leading test (x ∷ xs) = cond (test x) (suc (leading test xs)) 0

  -- at most `most` count, and p holds of those that do
  unfoldable pub counted : ℕ → ℕ → (A → Bool) → List A → Bool
  counted n most p l = leb n most && all p (take n l)

  abbrev pub unless : Bool → A → List A → List A
  unless true x xs = xs
  unless false x xs = x ∷ xs

  -- those of which `out` does not hold, in order
  abbrev pub without : (A → Bool) → List A → List A
  without out [] = []
  without out (x ∷ xs) = unless (out x) x (without out xs)

  -- those of which p holds, in order
  abbrev pub only : (A → Bool) → List A → List A
  only p xs = without (λ x. not (p x)) xs

  -- those that stay, in order, where `out` is asked of each and of all that stand behind it
  abbrev pub thinned : (A → List A → Bool) → List A → List A
  thinned out [] = []
  thinned out (x ∷ xs) = unless (out x xs) x (thinned out xs)

  -- a counted list whose first n become `now`: places that fall vacant are z, those past both stay
  abbrev pub put_first : A → ℕ → List A → List A → List A
  put_first z n now l = now ++ (replicate (n - length now) z ++ drop (max n (length now)) l)

  -- l with the first i of v laid over its front
  abbrev pub over : List A → List A → ℕ → List A
  over l v i = take i v ++ drop i l
