-- A number that a search through a list finds, or does not.
use Rattle.std.proofs.Common.{◌≡◌, refl, sym, ap, ◌∙◌, Bool, true, false, not, ◌&&◌, ◌||◌, eqb, ℕ, ◌+◌, ◌-◌, ◌<◌, ◌≤◌, List, [], ◌∷◌, length, get_or, take, drop}
use borrow.Author.Tests.{eqb-true, eqb-false, eq-eqb, ne_eqb}
use lib.Seq.{get_or-take}
use Rattle.std.specs.List.{list_any}
use Rattle.laws.specs.Lists.{all}
use Rattle.laws.specs.Keys.{absent}
use Rattle.laws.proofs.Compact.{drop-take}

turned-by : (m n : ℕ) (b : Bool) → eqb m n ≡ b → eqb m n ≡ eqb n m
turned-by m n true e = e ∙ sym (eq-eqb n m (sym (eqb-true m n e)))
turned-by m n false e = e ∙ sym (ne_eqb n m (λ q. eqb-false m n e (sym q)))

turned : (m n : ℕ) → eqb m n ≡ eqb n m
turned m n = turned-by m n (eqb m n) refl

neither : (a b : Bool) → (not a && not b) ≡ not (a || b)
neither true b = refl
neither false b = refl

pub found : (k : ℕ) (l : List ℕ) → absent k l ≡ not (list_any (λ y. eqb y k) l)
unfolding absent all
found k [] = refl
found k (x ∷ l) = rw (turned k x, found k l) (neither (eqb x k) (list_any (λ y. eqb y k) l))

-- whether the key at i stands again behind it among the first n, as a search through that part answers
pub none-behind : (l : List ℕ) (n i : ℕ) → i < n → n ≤ length l → (r : Bool) → r ≡ list_any (λ y. eqb y (get_or l i 0)) (take (n - (i + 1)) (drop (i + 1) l))
    → absent (get_or (take n l) i 0) (drop (i + 1) (take n l)) ≡ not r
none-behind l n i h m r e =
    rw (get_or-take n l i 0 h, drop-take (i + 1) n l) (found (get_or l i 0) (take (n - (i + 1)) (drop (i + 1) l)) ∙ ap not (sym e))
