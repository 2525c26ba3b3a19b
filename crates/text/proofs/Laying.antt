-- Text laid into a buffer, over any element: nothing changes nothing, one byte is a store, and a text behind a text is the text of both.
use mathlib.Core.Path.{◌≡◌, sym, ◌∙◌}
use mathlib.Core.List.{List, [], ◌∷◌, ◌++◌, append_assoc, append-nil}
use Prim.Native.Nat.{ℕ, suc, ◌+◌, ◌≤◌, ◌<◌}
use native.Mathlib.Omega.{arith}
use native.Mathlib.Numerals.{add-one}
use lib.ListN.{length, take, drop, set, length-append, length-drop, take-append-drop}
use lib.Seq.{append_snoc, set_split, take_at, drop-append-add, drop-drop, length-take-le}
use Rattle.text.specs.Laying.{laid}

module _ {A : Type 0} where
  pub laid_none : (at : ℕ) (o : List A) → o ≡ laid at [] o
  unfolding laid
  laid_none at o = let e : at + 0 ≡ at = omega arith in rw (e, append-nil (take at o)) (sym (take-append-drop at o))

  pub laid-long : (at : ℕ) (a o : List A) → at + length a ≤ length o → length (laid at a o) ≡ length o
  unfolding laid
  laid-long at a o h = simp (length-append, length-take-le at o (omega arith), length-drop) (omega arith)

  pub laid-byte : (at : ℕ) (b : A) (o : List A) → at < length o → set o at b ≡ laid at (b ∷ []) o
  unfolding laid
  laid-byte at b o h = set_split o at b h ∙ rw add-one (sym (append_snoc (take at o) b (drop (suc at) o)))

  module _ (at : ℕ) (a b o : List A) (h : at ≤ length o) where
    front : length (take at o ++ a) ≡ at + length a
    front = simp (length-append, length-take-le at o h)

    behind : drop (at + length a + length b) (take at o ++ a ++ drop (at + length a) o) ≡ drop (at + length a + length b) o
    behind = rw (← front) (drop-append-add (take at o ++ a) (drop (length (take at o ++ a)) o) (length b)) ∙ drop-drop (length b) (at + length a) o

    pub laid-behind : laid (at + length a) b (laid at a o) ≡ laid at (a ++ b) o
    unfolding laid
    laid-behind =
        let e : at + length a + length b ≡ at + length (a ++ b) = omega (arith, length-append a b) in
        rw (take_at (take at o ++ a) (drop (at + length a) o) (at + length a) front, behind, e, append_assoc (take at o) a b)

  -- one byte more is a store behind what is laid
  pub laid_more : (at : ℕ) (a o : List A) (b : A) → at + length a < length o → set (laid at a o) (at + length a) b ≡ laid at (a ++ (b ∷ [])) o
  laid_more at a o b h = laid-byte (at + length a) b (laid at a o) (rw (laid-long at a o (omega arith)) h) ∙ laid-behind at a (b ∷ []) o (omega arith)

  -- a text put, and another put behind it
  pub put-behind : (at : ℕ) (o a b : List A) {x w : List A} {p r : ℕ} → at ≤ length o → x ≡ laid at a o → p ≡ at + length a → w ≡ laid p b x → r ≡ p + length b
      → (w ≡ laid at (a ++ b) o) × (r ≡ at + length (a ++ b))
  put-behind at o a b h e f g k = (rw (g, e, f) (laid-behind at a b o h), omega (arith, length-append a b))
