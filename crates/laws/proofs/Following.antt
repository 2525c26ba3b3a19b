-- Records put after the first n of a list, in several goes.
--     more-none   nothing more
--     more-then   more, and then more still
use mathlib.Core.Path.{◌≡◌, sym, ap, ◌∙◌}
use mathlib.Core.List.{List, [], ◌++◌, append_assoc, append-nil}
use Prim.Native.Nat.{ℕ, ◌+◌, ◌-◌, ◌≤◌, max}
use native.Mathlib.Omega.{arith}
use lib.ListN.{length, take, drop, replicate, length-append, take-append-drop}
use lib.Seq.{length-take-le, take-append_seam}
use Rattle.laws.specs.Lists.{put_first}
use Rattle.laws.proofs.Compact.{put-again}

module _ {R : Type 0} (z : R) where
  -- a list whose first n are followed by more
  abbrev pub followed : List R → ℕ → List R → List R
  followed r n more = put_first z n (take n r ++ more) r

  pub more-none : (r : List R) (n : ℕ) → n ≤ length r → r ≡ followed r n []
  more-none r n h =
      let t = length-take-le n r h in
      let s : n - length (take n r) ≡ 0 = omega arith in
      let m : max n (length (take n r)) ≡ n = omega arith in
      rw (append-nil (take n r), s, m) (sym (take-append-drop n r))

  pub more-then : (r r' a b : List R) (n : ℕ) → n ≤ length r → r' ≡ followed r n a → followed r' (n + length a) b ≡ followed r n (a ++ b)
  more-then r r' a b n h e =
      let rs = take n r ++ a in
      let long : n + length a ≡ length rs = sym (length-append (take n r) a ∙ ap (λ (k : ℕ). k + length a) (length-take-le n r h)) in
      rw (e, long)
      (ap (λ (x : List R). put_first z (length rs) (x ++ b) (put_first z n rs r)) (take-append_seam rs (replicate (n - length rs) z ++ drop (max n (length rs)) r))
      ∙ put-again z n rs b r
      ∙ ap (λ (x : List R). put_first z n x r) (append_assoc (take n r) a b))
