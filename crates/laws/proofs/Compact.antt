-- A list of records compacted in place, over any record: what is kept of the first i stands in front, and behind it is what
-- stood there (`compact`); then the places that fell vacant are cleared (`cleared`), and what comes is `put_first`.
--     kept-.., counted-.., compact-..   one record more, kept or left out
--     kept-rest, compact-rest           a stretch more, all of it kept
--     without-twice                     two tests, one after the other, are one
--     cleared-..                        one place more cleared
--     put-more, put-again, put_one      a counted list with more at its end
--     down-none, down-read, down-more   a stretch moved down, a record at a time
use mathlib.Core.Bool.{Bool, true, false, ◌||◌}
use mathlib.Core.Path.{◌≡◌, refl, sym, ap, ◌∙◌, subst}
use mathlib.Core.List.{List, [], ◌∷◌, ◌++◌, append_assoc, append-nil}
use mathlib.Core.Logic.{⊎_elim}
use Prim.Native.Nat.{ℕ, zero, suc, ◌+◌, ◌-◌, ◌≤◌, ◌<◌, max}
use native.Mathlib.Nat.{add-zero, suc-sub-suc, sub-zero, zero-sub}
use native.Mathlib.Numerals.{add-one}
use native.Mathlib.Omega.{arith}
use lib.ListN.{length, get_or, set, take, drop, replicate, length-append, length-take, length-drop, length-replicate, take-append-drop, replicate-append-replicate}
use lib.Seq.{drop-cons, take-suc, set_at, set-get_or, get_or-drop, length-take-le, set_split, drop-append-add, drop-drop, take-append_seam, take-add, take-nil, paste, paste-zero, paste-suc, drop-paste}
use Rattle.laws.specs.Lists.{without, unless, put_first}
use Rattle.laws.proofs.Bools.{which}

module _ {R : Type 0} where
  without-append : (out : R → Bool) (a b : List R) → without out (a ++ b) ≡ without out a ++ without out b
  without-append out [] b = refl
  without-append out (r ∷ a) b =
      let rest = without-append out a b in
      ⊎_elim (λ h. rw h rest) (λ h. rw h (ap (λ l. r ∷ l) rest)) (which (out r))

  pub length_without : (out : R → Bool) (a : List R) → length (without out a) ≤ length a
  length_without out [] = omega arith
  length_without out (r ∷ a) =
      let rest = length_without out a in
      ⊎_elim (λ h. rw h (omega arith)) (λ h. rw h (omega arith)) (which (out r))

  -- where none is left out all are kept
  pub without-none : (out : R → Bool) (a : List R) → length (without out a) ≡ length a → without out a ≡ a
  without-none out [] h = refl
  without-none out (r ∷ a) h = go (out r) h (length_without out a) (without-none out a)
    where
      go : (t : Bool) → length (unless t r (without out a)) ≡ suc (length a) → length (without out a) ≤ length a → (length (without out a) ≡ length a → without out a ≡ a)
          → unless t r (without out a) ≡ r ∷ a
      go true e m ih = absurd (omega arith)
      go false e m ih = ap (λ (l : List R). r ∷ l) (ih (omega arith))

  -- what a test and then another leave out is what either does
  pub without-twice : (p q : R → Bool) (a : List R) → without q (without p a) ≡ without (λ r. p r || q r) a
  without-twice p q [] = refl
  without-twice p q (r ∷ a) = go (p r) (without-twice p q a)
    where
      go : (t : Bool) → without q (without p a) ≡ without (λ r. p r || q r) a → without q (unless t r (without p a)) ≡ unless (t || q r) r (without (λ r. p r || q r) a)
      go true e = e
      go false e = ap (unless (q r) r) e

  pub drop-take : (i n : ℕ) (l : List R) → drop i (take n l) ≡ take (n - i) (drop i l)
  drop-take zero n l = ap (λ (k : ℕ). take k l) (sym (sub-zero n))
  drop-take (suc i) zero l = ap (λ (k : ℕ). take k (drop (suc i) l)) (sym (zero-sub (suc i)))
  drop-take (suc i) (suc n) [] = sym (take-nil (suc n - suc i))
  drop-take (suc i) (suc n) (r ∷ l) = drop-take i n l ∙ ap (λ (k : ℕ). take k (drop i l)) (sym (suc-sub-suc n i))

  -- behind p the list is as it was
  pub past : (l p : List R) (j : ℕ) → length p ≤ j → drop j (p ++ drop (length p) l) ≡ drop j l
  past l p j h =
      let n = j - length p in
      let here : length p + n ≡ j = omega arith in
      subst (λ k. drop k (p ++ drop (length p) l) ≡ drop k l) here (drop-append-add p (drop (length p) l) n ∙ drop-drop n (length p) l)

  module _ (z : R) (l : List R) where
    -- p, then z up to k, then what stood there
    abbrev pub cleared : List R → ℕ → List R
    cleared p k = p ++ (replicate (k - length p) z ++ drop k l)

    pub cleared-none : (n : ℕ) → n ≤ length l → l ≡ cleared (take n l) n
    cleared-none n h =
        let none : n - length (take n l) ≡ 0 = (let e = length-take-le n l h in omega arith) in
        rw none (sym (take-append-drop n l))

    pub cleared_more : (p : List R) (k : ℕ) → length p ≤ k → k < length l → set (cleared p k) k z ≡ cleared p (k + 1)
    cleared_more p k h kl =
        let n = k - length p in
        let front = p ++ replicate n z in
        let long : length front ≡ k = length-append p (replicate n z) ∙ (let m = length-replicate n z in omega arith) in
        let more : k + 1 - length p ≡ n + 1 = omega arith in
        ap (λ x. set x k z) (sym (append_assoc p (replicate n z) (drop k l)) ∙ ap (λ x. front ++ x) (drop-cons l k z kl))
        ∙ set_at front (get_or l k z) (drop (suc k) l) z k long
        ∙ append_assoc p (replicate n z) (z ∷ drop (suc k) l)
        ∙ rw (more, ← replicate-append-replicate n 1 z, append_assoc (replicate n z) (z ∷ []) (drop (k + 1) l), add-one)

  module _ (out : R → Bool) (z : R) (l : List R) where
    -- what is kept of the first i
    abbrev pub kept : ℕ → List R
    kept i = without out (take i l)

    -- the list while it is compacted: what is kept of the first i, then what stood there
    abbrev pub compact : ℕ → List R
    compact i = kept i ++ drop (length (kept i)) l

    pub kept-le : (i : ℕ) → i ≤ length l → length (kept i) ≤ i
    kept-le i h = omega (arith, length_without out (take i l), length-take-le i l h)

    pub kept-drop : (i : ℕ) → i < length l → out (get_or l i z) ≡ true → kept (i + 1) ≡ kept i
    kept-drop i h e = rw (add-one, take-suc l i z h, without-append, e, append-nil)

    pub kept-keep : (i : ℕ) → i < length l → out (get_or l i z) ≡ false → kept (i + 1) ≡ kept i ++ (get_or l i z ∷ [])
    kept-keep i h e = rw (add-one, take-suc l i z h, without-append, e)

    pub counted-drop : (i n : ℕ) → i < length l → out (get_or l i z) ≡ true → n ≡ length (kept i) → n ≡ length (kept (i + 1))
    counted-drop i n h e q = rw (kept-drop i h e) q

    pub counted-keep : (i n : ℕ) → i < length l → out (get_or l i z) ≡ false → n ≡ length (kept i) → n + 1 ≡ length (kept (i + 1))
    counted-keep i n h e q = rw (kept-keep i h e, length-append, q)

    pub compact-read : (i : ℕ) → i < length l → get_or (compact i) i z ≡ get_or l i z
    compact-read i h =
        let first : (x : List R) → get_or (drop i x) 0 z ≡ get_or x i z = λ x. get_or-drop i x 0 z ∙ ap (λ n. get_or x n z) (add-zero i) in
        sym (first (compact i)) ∙ ap (λ x. get_or x 0 z) (past l (kept i) i (kept-le i (omega arith))) ∙ first l

    pub compact-drop : (i : ℕ) → i < length l → out (get_or l i z) ≡ true → compact (i + 1) ≡ compact i
    compact-drop i h e = rw (kept-drop i h e)

    pub compact-keep : (i : ℕ) → i < length l → out (get_or l i z) ≡ false → set (compact i) (length (kept i)) (get_or l i z) ≡ compact (i + 1)
    compact-keep i h e =
        let n = length (kept i) in
        let fits : n < length l = (let k = kept-le i (omega arith) in omega arith) in
        ap (λ x. set (kept i ++ x) n (get_or l i z)) (drop-cons l n z fits)
        ∙ set_at (kept i) (get_or l n z) (drop (suc n) l) (get_or l i z) n refl
        ∙ rw (kept-keep i h e, length-append, append_assoc, add-one)

    -- the next m
    pub kept-join : (i m : ℕ) → kept (i + m) ≡ kept i ++ without out (take m (drop i l))
    kept-join i m = ap (without out) (take-add i m l) ∙ without-append out (take i l) (take m (drop i l))

    pub kept-most : (i m : ℕ) → i + m ≤ length l → length (kept (i + m)) ≤ length (kept i) + m
    kept-most i m h =
        let n = ap length (kept-join i m) ∙ length-append (kept i) (without out (take m (drop i l))) in
        let w = length_without out (take m (drop i l)) in
        let t = length-take m (drop i l) in
        omega arith

    pub kept-least : (i m : ℕ) → length (kept i) ≤ length (kept (i + m))
    kept-least i m = let n = ap length (kept-join i m) ∙ length-append (kept i) (without out (take m (drop i l))) in omega arith

    -- as many are kept as there are: all of them
    module _ (i m : ℕ) (h : i + m ≤ length l) (e : length (kept (i + m)) ≡ length (kept i) + m) where
      pub kept-rest : kept (i + m) ≡ kept i ++ take m (drop i l)
      kept-rest =
          let n = ap length (kept-join i m) ∙ length-append (kept i) (without out (take m (drop i l))) in
          let t = length-take-le m (drop i l) (simp length-drop (omega arith)) in
          kept-join i m ∙ ap (λ (x : List R). kept i ++ x) (without-none out (take m (drop i l)) (omega arith))

      -- they are moved down together
      pub compact-rest : paste (compact i) (length (kept i)) (drop i (compact i)) m ≡ compact (i + m)
      compact-rest =
          let n = length (kept i) in
          rw (take-append_seam (kept i) (drop n l), past l (kept i) i (kept-le i (omega arith)), past l (kept i) (n + m) (omega arith), e, kept-rest)

    -- what was compacted and then cleared
    pub compact-clear : (n : ℕ) → n ≤ length l → cleared z (compact n) (take (length (kept n)) (compact n)) n ≡ put_first z n (kept n) l
    compact-clear n h =
        let k = kept-le n h in
        let most : max n (length (kept n)) ≡ n = omega arith in
        rw (take-append_seam (kept n) (drop (length (kept n)) l), past l (kept n) n k, most)

  -- a list that is put and no shorter than what counted: no place falls vacant
  put-longer : (z : R) (n : ℕ) (now l : List R) → n ≤ length now → put_first z n now l ≡ now ++ drop (length now) l
  put-longer z n now l h =
      let none : n - length now ≡ 0 = omega arith in
      let most : max n (length now) ≡ length now = omega arith in
      rw (none, most)

  -- one more, at the end
  pub put-more : (z e : R) (n : ℕ) (l : List R) → n < length l → set l n e ≡ put_first z n (take n l ++ (e ∷ [])) l
  put-more z e n l h =
      let long : length (take n l ++ (e ∷ [])) ≡ n + 1 = length-append (take n l) (e ∷ []) ∙ (let k = length-take-le n l (omega arith) in omega arith) in
      set_split l n e h
      ∙ sym (put-longer z n (take n l ++ (e ∷ [])) l (omega arith) ∙ rw (long, append_assoc (take n l) (e ∷ []) (drop (n + 1) l), add-one))

  drop-replicate : (k m : ℕ) (z : R) (y : List R) → drop k (replicate m z ++ y) ≡ replicate (m - k) z ++ drop (k - m) y
  drop-replicate zero m z y = rw (sub-zero, zero-sub)
  drop-replicate (suc k) zero z y = rw (zero-sub, sub-zero)
  drop-replicate (suc k) (suc m) z y = drop-replicate k m z y ∙ rw (suc-sub-suc m k, suc-sub-suc k m)

  -- a list that was put first, and is then put again with more at its end
  pub put-again : (z : R) (n : ℕ) (rs more all : List R) → put_first z (length rs) (rs ++ more) (put_first z n rs all) ≡ put_first z n (rs ++ more) all
  put-again z n rs more all =
      let k = length more in
      let long = length-append rs more in
      let vacant : (n - length rs) - k ≡ n - length (rs ++ more) = omega arith in
      let reached : max n (length rs) + (k - (n - length rs)) ≡ max n (length (rs ++ more)) = omega arith in
      put-longer z (length rs) (rs ++ more) (put_first z n rs all) (omega arith)
      ∙ ap (λ (y : List R). (rs ++ more) ++ y)
      (ap (λ (m : ℕ). drop m (put_first z n rs all)) long
      ∙ drop-append-add rs (replicate (n - length rs) z ++ drop (max n (length rs)) all) k
      ∙ drop-replicate k (n - length rs) z (drop (max n (length rs)) all)
      ∙ rw (drop-drop, vacant, reached))

  -- one more put at the end of a list that was put first
  pub put_one : (z e : R) (n : ℕ) (rs all : List R) → put_first z (length rs) (take (length rs) (put_first z n rs all) ++ (e ∷ [])) (put_first z n rs all) ≡ put_first z n (rs ++ (e ∷ [])) all
  put_one z e n rs all =
      ap (λ (x : List R). put_first z (length rs) (x ++ (e ∷ [])) (put_first z n rs all)) (take-append_seam rs (replicate (n - length rs) z ++ drop (max n (length rs)) all))
      ∙ put-again z n rs (e ∷ []) all

  -- a list cleared up to k is one whose first k were put
  pub cleared-put : (z : R) (l p : List R) (k : ℕ) → length p ≤ k → cleared z l p k ≡ put_first z k p l
  cleared-put z l p k h = let m : max k (length p) ≡ k = omega arith in rw m

  -- a record put where it stands
  pub set_own : (z : R) (l : List R) (i : ℕ) → set l i (get_or l i z) ≡ l
  set_own z l i = set-get_or l i z

  -- the first k of those from `from` on have been moved down to `to`
  module _ (z : R) (l : List R) (from to : ℕ) (h : to ≤ from) where
    abbrev pub down : ℕ → List R
    down k = paste l to (drop from l) k

    pub down-none : l ≡ down 0
    down-none = paste-zero l to (drop from l)

    module _ (k : ℕ) (fit : from + k < length l) where
      behind : k < length (drop from l)
      behind = simp length-drop (omega arith)

      -- the next one stands where it stood
      pub down-read : get_or (down k) (from + k) z ≡ get_or (drop from l) k z
      down-read =
          let there : to + k + (from - to) ≡ from + k = omega arith in
          let at : (x : List R) → get_or (drop (to + k) x) (from - to) z ≡ get_or x (from + k) z = λ x. get_or-drop (to + k) x (from - to) z ∙ ap (λ (i : ℕ). get_or x i z) there in
          sym (at (down k))
          ∙ ap (λ (x : List R). get_or x (from - to) z) (drop-paste l to (drop from l) k (omega arith) (let b = behind in omega arith))
          ∙ at l
          ∙ sym (get_or-drop from l k z)

      pub down-more : set (down k) (to + k) (get_or (down k) (from + k) z) ≡ down (k + 1)
      down-more = ap (set (down k) (to + k)) down-read ∙ paste-suc l to (drop from l) k z (omega arith) behind ∙ ap down (sym (add-one k))
