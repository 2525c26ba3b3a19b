-- How many writes a record owes: one fewer after each that it makes (`count-advanced`), no fewer up to a later time
-- (`count-mono`), and some exactly where the Rust's own test of its next time holds (`test-yes`, `test-no`). These four
-- facts carry everything else; integers are not met again.
use mathlib.Core.Path.{◌≡◌, refl, sym, ap, ◌∙◌}
use mathlib.Core.Bool.{not}
use mathlib.Core.List.{List, ◌∷◌, ◌++◌}
use Prim.Native.Nat.{ℕ, zero, suc, ◌+◌, ◌-◌, ◌/◌, ◌≤◌, ◌<◌, zero-le}
use native.Mathlib.Nat.{zero-add, suc-add, div-eq_of_lt, div-eq-sub-div, le-div_iff_mul-le, div-mul-le_self, le_trans}
use native.Mathlib.Omega.{arith}
use native.Mathlib.Decide.{dec_le}
use lib.Dec.{T}
use lib.IntN.{ℤ, pos, negsuc, neg_ℤ, ◌+ℤ◌, ◌-ℤ◌, +ℤ_assoc, +ℤ_invr, +ℤ_one, suc_ℤ, neg_ℤ-+ℤ}
use lib.Signed.{le_z, ◌≤ℤ◌}
use lib.ListN.{length}
use Rattle.laws.specs.Integers.{cut}
use Rattle.laws.proofs.Differences.{cut-less, cut-more, more, past, swap}
use Rattle.cycles.specs.declared.Cycle.{Cycle}
use Rattle.cycles.specs.Due.{DueWrite, write_of, advanced, run, after, gap, steps, due_count}

-- ---- the numbers from n up to t

gap-add : (t n : ℤ) (l : ℕ) → gap t (n +ℤ pos l) ≡ gap t n - l
unfolding gap
gap-add t n l =
    ap (λ (z : ℤ). cut (t +ℤ pos 1 +ℤ z)) (neg_ℤ-+ℤ n (pos l))
    ∙ ap cut (sym (+ℤ_assoc (t +ℤ pos 1) (neg_ℤ n) (neg_ℤ (pos l))))
    ∙ cut-less (t +ℤ pos 1 -ℤ n) l

pub gap_length : (t n l : ℤ) → 0 < cut l → gap t (n +ℤ l) ≡ gap t n - cut l
gap_length t n (pos l) h = gap-add t n l
gap_length t n (negsuc l) h = absurd (omega arith)

gap_more : (t n : ℤ) (d : ℕ) → gap t n ≤ gap (t +ℤ pos d) n
unfolding gap
gap_more t n d = rw (swap t (pos d) (pos 1), swap (t +ℤ pos 1) (pos d) (neg_ℤ n)) (cut-more (t +ℤ pos 1 -ℤ n) d)

gap-mono : (u t n : ℤ) → u ≤ℤ t → gap u n ≤ gap t n
gap-mono u t n h = let m = more u t h.le in rw m.1 (gap_more u n m.0)

gap-self : (n : ℤ) → gap n n ≡ 1
unfolding gap
gap-self n = ap cut (swap n (pos 1) (neg_ℤ n) ∙ ap (λ (z : ℤ). z +ℤ pos 1) (+ℤ_invr n))

gap-next : (t : ℤ) → gap t (t +ℤ pos 1) ≡ 0
unfolding gap
gap-next t = ap cut (+ℤ_invr (t +ℤ pos 1))

pub gap-yes : (n t : ℤ) → T (le_z n t) → 0 < gap t n
gap-yes n t h = let m = more n t h in rw m.1 (omega (arith, gap-self n, gap_more n n m.0))

pub gap-no : (n t : ℤ) → T (not (le_z n t)) → gap t n ≡ 0
gap-no n t h =
    let m = more (suc_ℤ t) n (past n t h) in
    let e : n ≡ t +ℤ pos 1 +ℤ pos m.0 = m.1 ∙ ap (λ (z : ℤ). z +ℤ pos m.0) (sym (+ℤ_one t)) in
    rw (e, gap-add) (omega (arith, gap-next t))

-- ---- the steps among them

steps-cases : (d l : ℕ) → 0 < l → Dec (l ≤ d) → steps (suc d - l) l ≡ suc (d / l) - 1
unfolding steps
steps-cases d l h (yes p) =
    let e : suc d - l ≡ suc (d - l) = omega arith in
    rw e (omega (arith, div-eq-sub-div h p))
steps-cases d l h (no p) =
    let b : d < l = omega arith in
    let e : suc d - l ≡ 0 = omega arith in
    rw e (omega (arith, div-eq_of_lt b))

steps-less : (g l : ℕ) → 0 < l → steps (g - l) l ≡ steps g l - 1
unfolding steps
steps-less zero l h = let e : 0 - l ≡ 0 = omega arith in rw e
steps-less (suc d) l h = steps-cases d l h (dec_le l d)

div_mono : (d e l : ℕ) → 0 < l → d ≤ e → d / l ≤ e / l
div_mono d e l h p = (le-div_iff_mul-le h).1 (le_trans (div-mul-le_self d l) p)

steps-mono : (g k l : ℕ) → 0 < l → g ≤ k → steps g l ≤ steps k l
unfolding steps
steps-mono zero k l h p = zero-le
steps-mono (suc d) zero l h p = absurd (omega arith)
steps-mono (suc d) (suc e) l h p = omega (arith, div_mono d e l h (omega arith))

steps-some : (g l : ℕ) → 0 < g → 0 < steps g l
unfolding steps
steps-some zero l h = absurd (omega arith)
steps-some (suc d) l h = omega arith

-- ---- the count

pub count-advanced : (t : ℤ) (c : Cycle) → 0 < cut c.length → due_count t (advanced c) ≡ due_count t c - 1
unfolding due_count advanced
count-advanced t c h = rw (gap_length t c.next c.length h) (steps-less (gap t c.next) (cut c.length) h)

pub count-mono : (u t : ℤ) (c : Cycle) → 0 < cut c.length → u ≤ℤ t → due_count u c ≤ due_count t c
unfolding due_count
count-mono u t c h p = steps-mono (gap u c.next) (gap t c.next) (cut c.length) h (gap-mono u t c.next p)

pub test-yes : (t : ℤ) (c : Cycle) → T (le_z c.next t) → 0 < due_count t c
unfolding due_count
test-yes t c h = steps-some (gap t c.next) (cut c.length) (gap-yes c.next t h)

pub test-no : (t : ℤ) (c : Cycle) → T (not (le_z c.next t)) → due_count t c ≡ 0
unfolding due_count steps
test-no t c h = rw (gap-no c.next t h)

-- ---- a record after k writes

pub target-after : (k : ℕ) (c : Cycle) → (after k c).target ≡ c.target
unfolding after advanced
target-after zero c = refl
target-after (suc k) c = target-after k (advanced c)

pub count-after : (t : ℤ) (k : ℕ) (c : Cycle) → 0 < cut c.length → due_count t (after k c) ≡ due_count t c - k
unfolding after
count-after t zero c h = omega arith
count-after t (suc k) c h = count-after t k (advanced c) (unfold advanced in h) ∙ omega (arith, count-advanced t c h)

pub after_more : (k : ℕ) (c : Cycle) → after (k + 1) c ≡ advanced (after k c)
unfolding after
after_more zero c = refl
after_more (suc k) c = rw suc-add (after_more k (advanced c))

-- ---- its writes

pub length_run : (k : ℕ) (c : Cycle) → length (run k c) ≡ k
unfolding run
length_run zero c = refl
length_run (suc k) c = ap suc (length_run k (advanced c))

pub run-add : (a b : ℕ) (c : Cycle) → run (a + b) c ≡ run a c ++ run b (after a c)
unfolding run after
run-add zero b c = rw zero-add
run-add (suc a) b c = rw suc-add (ap (λ (ws : List DueWrite). write_of c ∷ ws) (run-add a b (advanced c)))
