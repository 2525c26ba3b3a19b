-- Numbers as decimal text, in ASCII.
use Rattle.std.specs.Prelude.{ℕ, zero, suc, ◌+◌, ◌/◌, ◌%◌, cond, List, [], ◌∷◌, ◌++◌, ltb, ℤ, pos, negsuc, nat_abs}

-- the digits of n as bytes, each behind those of a tenth of n; at most k of them
unfoldable pub digits_of : ℕ → ℕ → List ℕ
digits_of zero n = []
digits_of (suc k) n = cond (ltb n 10) ((48 + n) ∷ []) (digits_of k (n / 10) ++ ((48 + n % 10) ∷ []))

-- n below 10 ^ 20
unfoldable pub decimal : ℕ → List ℕ
decimal n = digits_of 20 n

-- a minus sign below 0
unfoldable pub sign_of : ℤ → List ℕ
sign_of (pos n) = []
sign_of (negsuc n) = 45 ∷ []

unfoldable pub number_text : ℤ → List ℕ
number_text z = sign_of z ++ decimal (nat_abs z)
