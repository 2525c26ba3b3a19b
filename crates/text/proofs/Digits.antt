-- A number of 64 bits has at most twenty digits, so that the bound of `digits_of` cuts none off: its text is the text of a
-- tenth of it, and one digit more.
use mathlib.Core.Path.{◌≡◌, ap, sym, ◌∙◌}
use mathlib.Core.List.{List, [], ◌∷◌, ◌++◌}
use mathlib.Core.Logic.{⊎_elim}
use Prim.Native.Nat.{ℕ, zero, suc, ◌+◌, ◌/◌, ◌%◌, ◌^◌, ◌≤◌, ◌<◌}
use native.Mathlib.Nat.{pow-suc}
use native.Mathlib.Omega.{arith}
use lib.Dec.{ltb}
use lib.ListN.{length, length-append}
use borrow.Author.Tests.{ltb-true, ltb-false, lt-ltb, le-ltb}
use Rattle.laws.proofs.Bools.{which}
use Rattle.text.specs.Decimals.{digits_of, decimal}

one-digit : (k n : ℕ) → n < 10 → digits_of (suc k) n ≡ (48 + n) ∷ []
unfolding digits_of
one-digit k n h = rw (lt-ltb n 10 h)

a-digit-more : (k n : ℕ) → 10 ≤ n → digits_of (suc k) n ≡ digits_of k (n / 10) ++ ((48 + n % 10) ∷ [])
unfolding digits_of
a-digit-more k n h = rw (le-ltb n 10 h)

-- places past those that are needed change nothing
enough : (k n : ℕ) → n < 10 ^ suc k → digits_of (suc (suc k)) n ≡ digits_of (suc k) n
enough zero n h = let l : n < 10 = omega arith in one-digit 1 n l ∙ sym (one-digit 0 n l)
enough (suc k) n h =
    let s = rw pow-suc at h in
    let e = enough k (n / 10) (omega arith) in
    ⊎_elim
    (λ b. let l = ltb-true n 10 b in one-digit (suc (suc k)) n l ∙ sym (one-digit (suc k) n l))
    (λ b.
    let l = ltb-false n 10 b in
    a-digit-more (suc (suc k)) n l ∙ ap (λ (t : List ℕ). t ++ ((48 + n % 10) ∷ [])) e ∙ sym (a-digit-more (suc k) n l))
    (which (ltb n 10))

long : (k n : ℕ) → length (digits_of k n) ≤ k
unfolding digits_of
long zero n = omega arith
long (suc k) n =
    let h = long k (n / 10) in
    let a = length-append (digits_of k (n / 10)) ((48 + n % 10) ∷ []) in
    ⊎_elim (λ b. rw b (omega arith)) (λ b. rw b (omega arith)) (which (ltb n 10))

pub decimal_digit : (n : ℕ) → n < 10 → decimal n ≡ (48 + n) ∷ []
unfolding decimal
decimal_digit n h = one-digit 19 n h

pub decimal-more : (n : ℕ) → 10 ≤ n → n < 18446744073709551616 → decimal n ≡ decimal (n / 10) ++ ((48 + n % 10) ∷ [])
unfolding decimal
decimal-more n h l =
    a-digit-more 19 n h ∙ ap (λ (t : List ℕ). t ++ ((48 + n % 10) ∷ [])) (sym (enough 18 (n / 10) (omega arith)))

pub decimal-long : (n : ℕ) → length (decimal n) ≤ 20
unfolding decimal
decimal-long n = long 20 n
