-- The loops that compact a list of records in place and clear what is left, over any way to read a slice as records.
--     Compacting, step-drop, step-keep, closed   the first: each record is left out or kept
--     begun, some-ahead, step-stretch, stretched it begins behind the first that is left out, goes from one that is left out to the
--                                                next, and ends with the stretch behind the last
--     Clearing, clear_none, clear-more           the second
use mathlib.Core.Bool.{Bool, true, false, not}
use mathlib.Core.Path.{◌≡◌, refl, sym, ap, ◌∙◌}
use mathlib.Core.List.{List, ◌++◌}
use Prim.Native.Nat.{ℕ, ◌+◌, ◌-◌, ◌≤◌, ◌<◌}
use native.Mathlib.Omega.{arith}
use lib.ListN.{length, get_or, set, take, drop, length-append, length-take, length-drop, take-append-drop}
use lib.Dec.{eqb}
use lib.Seq.{length-take-le, take-length, get_or-take, get_or-drop, take-take, paste}
use borrow.Author.Tests.{not-false, eqb-true, eqb-false}
use Rattle.laws.specs.Lists.{without, put_first}
use Rattle.laws.specs.Moves.{in_front}
use Rattle.laws.proofs.Leading.{leading_le, leading-stops}
use Rattle.laws.proofs.Moves.{front_kept}
use Rattle.laws.proofs.Compact.{kept, kept-le, kept-drop, kept-join, kept-most, kept-least, past, drop-take, compact, compact-rest, compact-read, compact-drop, compact-keep, counted-drop, counted-keep, cleared, cleared-none, cleared_more, cleared-put, compact-clear}

module _ {A R : Type 0} (rd : List A → List R) (z : R) where
  -- the first i of l₀ are passed, and l has the n that are kept of them in front
  pub record Compacting (out : R → Bool) (l₀ l : List A) (count i n : ℕ) : Type 0 where
    pub within : i ≤ count
    pub long : length l ≡ length l₀
    pub counted : n ≡ length (kept out z (rd l₀) i)
    pub sofar : rd l ≡ compact out z (rd l₀) i

  -- records n to k of l₁ are cleared
  pub record Clearing (l₁ l : List A) (count n k : ℕ) : Type 0 where
    pub from : n ≤ k
    pub within : k ≤ count
    pub long : length l ≡ length l₁
    pub sofar : rd l ≡ cleared z (rd l₁) (take n (rd l₁)) k

  module _ (out : R → Bool) (l₀ l : List A) (count i n : ℕ) (v : Compacting out l₀ l count i n) (fit : count ≤ length (rd l₀)) where
    pub n-le : n ≤ i
    n-le = let a = kept-le out z (rd l₀) i (omega arith) in omega arith

    module _ (inside : i < count) (e : R) (read : e ≡ get_or (rd l) i z) (t : Bool) (asked : t ≡ out e) where
      -- what was read is what stood there at the beginning
      own : e ≡ get_or (rd l₀) i z
      own = read ∙ ap (λ (x : List R). get_or x i z) v.sofar ∙ compact-read out z (rd l₀) i (omega arith)

      told : out (get_or (rd l₀) i z) ≡ t
      told = ap out (sym own) ∙ sym asked

      pub step-drop : t ≡ true → Compacting out l₀ l count (i + 1) n
      step-drop y =
          let drops = told ∙ y in
          let at : i < length (rd l₀) = omega arith in
          record {
            within = omega arith;
            long = v.long;
            counted = counted-drop out z (rd l₀) i n at drops v.counted;
            sofar = v.sofar ∙ sym (compact-drop out z (rd l₀) i at drops);
          }

      pub step-keep : t ≡ false → (l' : List A) → length l' ≡ length l → rd l' ≡ set (rd l) n e → Compacting out l₀ l' count (i + 1) (n + 1)
      step-keep y l' le w =
          let keeps = told ∙ y in
          let at : i < length (rd l₀) = omega arith in
          record {
            within = omega arith;
            long = le ∙ v.long;
            counted = counted-keep out z (rd l₀) i n at keeps v.counted;
            sofar = w ∙ rw (v.sofar, own, v.counted) (compact-keep out z (rd l₀) i at keeps);
          }

    -- what is not passed yet stands as it stood
    abbrev rest : List R
    rest = drop i (take count (rd l₀))

    same_rest : drop i (take count (rd l)) ≡ rest
    same_rest =
        drop-take i count (rd l)
        ∙ ap (λ (x : List R). take (count - i) (drop i x)) v.sofar
        ∙ ap (take (count - i)) (past (rd l₀) (kept out z (rd l₀) i) i (let w = v.within in kept-le out z (rd l₀) i (omega arith)))
        ∙ sym (drop-take i count (rd l₀))

    rest-long : length rest ≡ count - i
    rest-long = length-drop i (take count (rd l₀)) ∙ ap (λ (k : ℕ). k - i) (length-take-le count (rd l₀) fit)

    -- a stretch of m that are kept, and behind it one that is left out
    module _ (m : ℕ) (e : m ≡ in_front out (drop i (take count (rd l)))) (inside : i + m < count) where
      m-is : m ≡ in_front out rest
      m-is = e ∙ ap (in_front out) same_rest

      of-rest : take m rest ≡ take m (drop i (rd l₀))
      of-rest = ap (take m) (drop-take i count (rd l₀)) ∙ take-take m (count - i) (drop i (rd l₀)) (omega arith)

      all-kept : without out (take m (drop i (rd l₀))) ≡ take m (drop i (rd l₀))
      all-kept =
          ap (without out) (sym of-rest)
          ∙ ap (λ (k : ℕ). without out (take k rest)) m-is
          ∙ front_kept out rest
          ∙ ap (λ (k : ℕ). take k rest) (sym m-is)
          ∙ of-rest

      many : length (kept out z (rd l₀) (i + m)) ≡ length (kept out z (rd l₀) i) + m
      many =
          let t = length-take-le m (drop i (rd l₀)) (simp length-drop (omega arith)) in
          ap length (kept-join out z (rd l₀) i m) ∙ length-append (kept out z (rd l₀) i) (without out (take m (drop i (rd l₀)))) ∙ ap (λ (x : List R). length (kept out z (rd l₀) i) + length x) all-kept ∙ ap (λ (k : ℕ). length (kept out z (rd l₀) i) + k) t

      left_out : out (get_or (rd l₀) (i + m) z) ≡ true
      left_out =
          let n' = rest-long in
          let q = m-is in
          let there : get_or rest (in_front out rest) z ≡ get_or (rd l₀) (i + m) z =
          ap (λ (k : ℕ). get_or rest k z) (sym m-is) ∙ get_or-drop i (take count (rd l₀)) m z ∙ get_or-take count (rd l₀) (i + m) z inside in
          sym (ap out there) ∙ not-false _ (leading-stops (λ x. not (out x)) z rest (omega arith))

      pub step-stretch : (l' : List A) → length l' ≡ length l → rd l' ≡ paste (rd l) n (drop i (rd l)) m → Compacting out l₀ l' count (i + m + 1) (n + m)
      step-stretch l' le w =
          let c = v.counted in
          let at : i + m < length (rd l₀) = omega arith in
          record {
            within = omega arith;
            long = le ∙ v.long;
            counted = ap (λ (k : ℕ). k + m) c ∙ sym many ∙ sym (ap length (kept-drop out z (rd l₀) (i + m) at left_out));
            sofar =
                w
                ∙ ap (λ (x : List R). paste x n (drop i x) m) v.sofar
                ∙ ap (λ (x : ℕ). paste (compact out z (rd l₀) i) x (drop i (compact out z (rd l₀) i)) m) c
                ∙ compact-rest out z (rd l₀) i m (omega arith) many
                ∙ sym (compact-drop out z (rd l₀) (i + m) at left_out);
          }

    -- of those that are kept in all: n at least, and at most what is left besides
    bounds : (n ≤ length (kept out z (rd l₀) count)) × (length (kept out z (rd l₀) count) ≤ n + (count - i))
    bounds =
        let w = v.within in
        let c = v.counted in
        let end : i + (count - i) ≡ count = omega arith in
        let a : length (kept out z (rd l₀) i) ≤ length (kept out z (rd l₀) count) = rw end at (kept-least out z (rd l₀) i (count - i)) in
        let b : length (kept out z (rd l₀) count) ≤ length (kept out z (rd l₀) i) + (count - i) = rw end at (kept-most out z (rd l₀) i (count - i) (omega arith)) in
        (omega arith, omega arith)

    -- where none of the rest is left out, n and the rest are kept
    all-of-it : in_front out rest ≡ length rest → length (kept out z (rd l₀) count) ≡ n + (count - i)
    all-of-it e =
        let m = count - i in
        let c = v.counted in
        let r = rest-long in
        let end : i + m ≡ count = omega (arith, v.within) in
        let whole : take (length rest) rest ≡ rest = take-length rest in
        let kept-rest : without out rest ≡ rest = ap (without out) (sym whole) ∙ ap (λ (k : ℕ). without out (take k rest)) (sym e) ∙ front_kept out rest ∙ ap (λ (k : ℕ). take k rest) e ∙ whole in
        ap (λ (k : ℕ). length (kept out z (rd l₀) k)) (sym end)
        ∙ ap length (kept-join out z (rd l₀) i m)
        ∙ ap (λ (x : List R). length (kept out z (rd l₀) i ++ without out x)) (sym (drop-take i count (rd l₀)))
        ∙ length-append (kept out z (rd l₀) i) (without out rest)
        ∙ ap (λ (x : List R). length (kept out z (rd l₀) i) + length x) kept-rest
        ∙ omega arith

    module _ (taken : ℕ) (e : taken ≡ count - length (kept out z (rd l₀) count)) where
      -- while fewer were left out than are in all, the next of them has a place
      pub some-ahead : i - n < taken → i + in_front out (drop i (take count (rd l))) < count
      some-ahead h =
          let q = ap (in_front out) same_rest in
          let d = none_left (eqb (in_front out rest) (length rest)) refl in
          let r = rest-long in
          let b = leading_le (λ x. not (out x)) rest in
          omega (arith, v.within, d)
        where
          none_left : (t : Bool) → eqb (in_front out rest) (length rest) ≡ t → in_front out rest < length rest
          none_left true q = absurd (omega (arith, all-of-it (eqb-true (in_front out rest) (length rest) q)))
          none_left false q = let d = eqb-false (in_front out rest) (length rest) q in omega (arith, leading_le (λ x. not (out x)) rest)

      -- as many were left out as are in all: the rest is moved down as a stretch
      pub stretched : taken ≤ i - n → (l' : List A) → length l' ≡ length l → rd l' ≡ paste (rd l) n (drop i (rd l)) (count - i)
          → Compacting out l₀ l' count count (n + (count - i))
      stretched h l' le w =
          let b = bounds in
          let c = v.counted in
          let m = count - i in
          let end : i + m ≡ count = omega (arith, v.within) in
          let k = kept-le out z (rd l₀) count fit in
          let all : n + m ≡ length (kept out z (rd l₀) count) = omega (arith, b.0, b.1, v.within, n-le) in
          let rest : length (kept out z (rd l₀) (i + m)) ≡ length (kept out z (rd l₀) i) + m = rw end (sym all ∙ ap (λ (x : ℕ). x + m) c) in
          record {
            within = omega arith;
            long = le ∙ v.long;
            counted = all;
            sofar =
                w
                ∙ ap (λ (x : List R). paste x n (drop i x) m) v.sofar
                ∙ ap (λ (x : ℕ). paste (compact out z (rd l₀) i) x (drop i (compact out z (rd l₀) i)) m) c
                ∙ compact-rest out z (rd l₀) i m (omega arith) rest
                ∙ ap (compact out z (rd l₀)) end;
          }

    -- all are passed, and a call clears what is left
    pub closed : count ≤ i → (l' : List A) → rd l' ≡ put_first z count (take n (rd l)) (rd l) → rd l' ≡ put_first z count (without out (take count (rd l₀))) (rd l₀)
    closed past l' w =
        let end : i ≡ count = omega arith in
        let short : length (take n (rd l)) ≤ count = simp length-take (let k = n-le in omega arith) in
        w
        ∙ sym (cleared-put z (rd l) (take n (rd l)) count short)
        ∙ rw (rw end at v.sofar, rw end at v.counted) (compact-clear out z (rd l₀) count fit)

  -- nothing before the first that is left out moves: the loop begins behind it
  module _ (out : R → Bool) (l : List A) (count first : ℕ) (fit : count ≤ length (rd l)) (e : first ≡ in_front out (take count (rd l))) (some : first < count) where
    long-first : length (take count (rd l)) ≡ count
    long-first = length-take-le count (rd l) fit

    taken-first : out (get_or (rd l) first z) ≡ true
    taken-first =
        let n = long-first in
        sym (ap out (ap (λ (i : ℕ). get_or (take count (rd l)) i z) (sym e) ∙ get_or-take count (rd l) first z some))
        ∙ not-false _ (leading-stops (λ x. not (out x)) z (take count (rd l)) (omega arith))

    -- what is kept up to it and with it is what stands before it
    kept-first : kept out z (rd l) (first + 1) ≡ take first (rd l)
    kept-first =
        let es = take count (rd l) in
        let before : take first es ≡ take first (rd l) = take-take first count (rd l) (omega arith) in
        kept-drop out z (rd l) first (omega arith) taken-first
        ∙ ap (without out) (sym before)
        ∙ ap (λ (k : ℕ). without out (take k es)) e
        ∙ front_kept out es
        ∙ ap (λ (k : ℕ). take k es) (sym e)
        ∙ before

    pub begun : Compacting out l l count (first + 1) first
    begun =
        let long = length-take-le first (rd l) (omega arith) in
        record {
          within = omega arith;
          long = refl;
          counted = sym (ap length kept-first ∙ long);
          sofar = sym (ap (λ (x : List R). x ++ drop (length x) (rd l)) kept-first ∙ ap (λ (k : ℕ). take first (rd l) ++ drop k (rd l)) long ∙ take-append-drop first (rd l));
        }

  pub clear_none : (l : List A) (count n : ℕ) → n ≤ count → n ≤ length (rd l) → Clearing l l count n n
  clear_none l count n h m = record { from = omega arith; within = h; long = refl; sofar = cleared-none z (rd l) n m }

  pub clear-more : (l₁ l l' : List A) (count n k : ℕ) → Clearing l₁ l count n k → k < count → count ≤ length (rd l₁) → length l' ≡ length l → rd l' ≡ set (rd l) k z → Clearing l₁ l' count n (k + 1)
  clear-more l₁ l l' count n k v h fit le w =
      let t = length-take-le n (rd l₁) (omega arith) in
      record {
        from = omega arith;
        within = omega arith;
        long = le ∙ v.long;
        sofar = w ∙ rw v.sofar (cleared_more z (rd l₁) (take n (rd l₁)) k (omega arith) (omega arith));
      }
