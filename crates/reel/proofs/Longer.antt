-- 02, c). Of two limits the higher takes what the lower takes, and besides it lists of n in lo + 1..hi alone.
--     past-limit, below-zero     what gives 3, after a good target; a short list within the limit gives 8 (`Reading:short-list`)
--     once-refused, taken        a record of such an n: refused with 3 at lo, and at hi taken if the bytes are there
--     none_between               a tape that has no such n has no such record
--     same-fault, same-record    any other record
--     as_before                  a tape of other records
use mathlib.Core.Path.{◌≡◌, refl, sym, ap, ◌∙◌}
use mathlib.Core.Bool.{Bool, true, false, cond, ◌&&◌, ◌||◌, true≢false}
use mathlib.Core.List.{List, [], ◌∷◌, map}
use Prim.Native.Nat.{ℕ, zero, suc, ◌+◌, ◌*◌, ◌≤◌, ◌<◌}
use native.Mathlib.Omega.{arith}
use borrow.Author.Tests.{le-ltb, le-leb, lt-leb, leb-true, leb-false, eqb-true}
use lib.Dec.{eqb, leb, ltb}
use lib.IntN.{ℤ, pos, negsuc}
use lib.Signed.{lt_z}
use lib.ListN.{length}
use Rattle.std.specs.Prelude.{Option, Some, None, Result, Ok, Err}
use Rattle.laws.specs.Integers.{inside, cut}
use Rattle.laws.specs.Lists.{any}
use Rattle.laws.proofs.Ranges.{left, right}
use Rattle.numbers.specs.Ranges.{is_target}
use Rattle.numbers.specs.Refusals.{told}
use Rattle.numbers.specs.declared.refusals.Refusal.{Refusal}
use Rattle.numbers.specs.declared.refusals.Refusal.TheVariants.{TooMany}
use Rattle.text.specs.Little.{number_at}
use Rattle.reel.specs.Marks.{has_list, is_due}
use Rattle.reel.specs.Records.{behind, mark_at, last_at, is_count_by, list_fault_by, mark_fault_by, fault_in, fault_by, count_at, sound, if_asked, record_in, record_by, number_told}
use Rattle.reel.specs.Places.{Place, place, read_by, onward, behind_read, places_from, places_by, reading_by}
use Rattle.reel.specs.Longer.{between_in, between, there_in, is_there, once_refused, is_longer}
use Rattle.reel.specs.declared.marks.Mark.{Mark}
use Rattle.reel.specs.declared.records.Record.{Record}
use Rattle.reel.proofs.Reading.{no-count, fault_for}
use Rattle.reel.proofs.Reaching.{code_is}

-- ---- n against a limit
count-is : (limit k : ℕ) → is_count_by limit (pos k) ≡ leb k limit
unfolding is_count_by inside
count-is limit k = rw (le-leb 0 k (omega arith))

count-not : (limit k : ℕ) → is_count_by limit (negsuc k) ≡ false
unfolding is_count_by inside
count-not limit k = refl

above : (limit : ℕ) (n : ℤ) → limit < cut n → is_count_by limit n ≡ false
above limit (pos k) h = count-is limit k ∙ lt-leb k limit h
above limit (negsuc k) h = absurd (omega arith)

below : (limit : ℕ) (n : ℤ) → lt_z n (pos 0) ≡ true → is_count_by limit n ≡ false
below limit (pos k) h = absurd (true≢false (sym h ∙ le-ltb k 0 (omega arith)))
below limit (negsuc k) h = count-not limit k

module _ (limit : ℕ) (s : List ℕ) (p : ℕ) (target n : ℤ) (t : is_target target ≡ true) where
  pub past-limit : limit < cut n → list_fault_by limit s p target n ≡ Err TooMany
  past-limit h = sym (no-count limit s p target n t (above limit n h))

  pub below-zero : lt_z n (pos 0) ≡ true → list_fault_by limit s p target n ≡ Err TooMany
  below-zero h = sym (no-count limit s p target n t (below limit n h))

-- ---- a record's tests, b and c being those of n at lo and at hi
taken-by : (d l t b c r : Bool) → eqb (told (fault_for d l t b r)) 3 ≡ true → c ≡ true → told (fault_for d l t c r) ≡ cond r 0 8
taken-by false l t b c r h e = absurd (true≢false (sym h))
taken-by true false t b c r h e = absurd (true≢false (sym h))
taken-by true true false b c r h e = absurd (true≢false (sym h))
taken-by true true true b true true h e = refl
taken-by true true true b true false h e = refl
taken-by true true true b false r h e = absurd (true≢false (sym e))

same_by : (d l t b c r i : Bool) → (b ≡ true → c ≡ true) → (b ≡ false → c ≡ true → i ≡ true)
    → (eqb (told (fault_for d l t b r)) 3 && (l && i)) ≡ false → fault_for d l t b r ≡ fault_for d l t c r
same_by false l t b c r i f g h = refl
same_by true false t b c r i f g h = refl
same_by true true false b c r i f g h = refl
same_by true true true true true r i f g h = refl
same_by true true true true false r i f g h = absurd (true≢false (sym (f refl)))
same_by true true true false true r i f g h = absurd (true≢false (sym (g refl refl) ∙ h))
same_by true true true false false r i f g h = refl

neither : (a b : Bool) → (a || b) ≡ false → (a ≡ false) × (b ≡ false)
neither true b h = absurd (true≢false h)
neither false b h = (refl, h)

fewer : (f g : Place → Bool) (qs : List Place) → any g qs ≡ false → any (λ (q : Place). f q && g q) qs ≡ false
unfolding any
fewer f g [] e = refl
fewer f g (q ∷ qs) e = let h = neither (g q) (any g qs) e in go (f q) (g q) (any (λ (q : Place). f q && g q) qs) h.0 (fewer f g qs h.1)
  where
    go : (a b c : Bool) → b ≡ false → c ≡ false → ((a && b) || c) ≡ false
    go true b c d e = rw (d, e)
    go false b c d e = e

module _ (lo hi : ℕ) where
  inside-hi : (n : ℤ) → inside (pos (lo + 1)) (pos hi) n ≡ true → is_count_by hi n ≡ true
  unfolding inside
  inside-hi (pos k) h = count-is hi k ∙ right (leb (lo + 1) k) (leb k hi) h
  inside-hi (negsuc k) h = absurd (true≢false (sym h))

  inside-lo : (n : ℤ) → inside (pos (lo + 1)) (pos hi) n ≡ true → is_count_by lo n ≡ false
  unfolding inside
  inside-lo (pos k) h = above lo (pos k) (omega (arith, leb-true (lo + 1) k (left (leb (lo + 1) k) (leb k hi) h)))
  inside-lo (negsuc k) h = absurd (true≢false (sym h))

  -- ---- a record of n in lo + 1..hi
  module _ (s : List ℕ) (p due : ℕ) where
    pub once-refused : (m : Mark) → Some m ≡ mark_at s p → is_due due m ≡ true → is_target (number_at s (p + 2)) ≡ true → between lo hi s p ≡ true → fault_by lo s p due ≡ Err TooMany
    unfolding fault_by mark_fault_by list_fault_by between
    once-refused m is d t h =
        let b : between_in lo hi s p (Some m) ≡ true = ap (between_in lo hi s p) is ∙ h in
        rw (← is, d, left (has_list m) _ b, t, inside-lo (last_at s p m) (right (has_list m) _ b))

    taken-in : (o : Option Mark) → (eqb (told (fault_in lo s p due o)) 3 && between_in lo hi s p o) ≡ true
        → (told (fault_in lo s p due o) ≡ 3) × (told (fault_in hi s p due o) ≡ cond (there_in s p o) 0 8)
    unfolding mark_fault_by list_fault_by
    taken-in None h = absurd (true≢false (sym h))
    taken-in (Some m) h =
        let n = last_at s p m in
        let three = left (eqb (told (fault_in lo s p due (Some m))) 3) _ h in
        let k = inside-hi n (right (has_list m) _ (right (eqb (told (fault_in lo s p due (Some m))) 3) _ h)) in (
          eqb-true (told (fault_in lo s p due (Some m))) 3 three,
          taken-by (is_due due m) (has_list m) (is_target (number_at s (p + 2))) (is_count_by lo n) (is_count_by hi n) (leb (behind p m + 4 * cut n) (length s)) three k,
        )

    -- "once refused with 3, is now taken if the bytes are there"
    pub taken : once_refused lo hi s (place p due) ≡ true → (number_told (record_by lo s p due) ≡ 3) × (number_told (record_by hi s p due) ≡ cond (is_there s p) 0 8)
    unfolding fault_by between is_there
    taken h = let k = taken-in (mark_at s p) h in (code_is lo s p due ∙ k.0, code_is hi s p due ∙ k.1)

  -- a tape none of whose records has such an n is none of these
  pub none_between : (s : List ℕ) → any (λ (q : Place). between lo hi s q.at) (places_by hi s) ≡ false → is_longer lo hi s ≡ false
  unfolding is_longer
  none_between s = fewer (λ (q : Place). eqb (told (fault_by lo s q.at q.due)) 3) (λ (q : Place). between lo hi s q.at) (places_by hi s)

  -- of the next n records from q on none was refused for such an n
  abbrev pub Others : List ℕ → ℕ → Place → Type 0
  Others s n q = any (once_refused lo hi s) (places_from hi n s q) ≡ false

  -- ---- any other
  module _ (h : lo ≤ hi) where
    count-more : (n : ℤ) → is_count_by lo n ≡ true → is_count_by hi n ≡ true
    count-more (pos k) e = count-is hi k ∙ le-leb k hi (omega (arith, leb-true k lo (sym (count-is lo k) ∙ e)))
    count-more (negsuc k) e = absurd (true≢false (sym e ∙ count-not lo k))

    count-new : (n : ℤ) → is_count_by lo n ≡ false → is_count_by hi n ≡ true → inside (pos (lo + 1)) (pos hi) n ≡ true
    unfolding inside
    count-new (pos k) e f =
        rw (le-leb (lo + 1) k (omega (arith, leb-false k lo (sym (count-is lo k) ∙ e))), sym (count-is hi k) ∙ f)
    count-new (negsuc k) e f = absurd (true≢false (sym f ∙ count-not hi k))

    module _ (s : List ℕ) (p due : ℕ) where
      same-mark : (m : Mark) → (eqb (told (mark_fault_by lo s p due m)) 3 && between_in lo hi s p (Some m)) ≡ false → mark_fault_by lo s p due m ≡ mark_fault_by hi s p due m
      unfolding mark_fault_by list_fault_by
      same-mark m o =
          let n = last_at s p m in
          same_by (is_due due m) (has_list m) (is_target (number_at s (p + 2))) (is_count_by lo n) (is_count_by hi n) (leb (behind p m + 4 * cut n) (length s)) (inside (pos (lo + 1)) (pos hi) n)
          (count-more n) (count-new n) o

      same-in : (m : Option Mark) → (eqb (told (fault_in lo s p due m)) 3 && between_in lo hi s p m) ≡ false
          → (fault_in lo s p due m ≡ fault_in hi s p due m) × (record_in lo s p due m ≡ record_in hi s p due m)
      same-in None o = (refl, refl)
      same-in (Some m) o =
          let e = same-mark m o in
          (e, ap (λ (f : Result Unit Refusal). if_asked f (sound s p m (count_at s p m))) e)

    module _ (s : List ℕ) (q : Place) (o : once_refused lo hi s q ≡ false) where
      pub same-fault : fault_by lo s q.at q.due ≡ fault_by hi s q.at q.due
      unfolding fault_by between
      same-fault = (same-in s q.at q.due (mark_at s q.at) o).0

      pub same-record : read_by lo s q ≡ read_by hi s q
      unfolding record_by fault_by between
      same-record = (same-in s q.at q.due (mark_at s q.at) o).1

    -- ---- a whole tape
    module _ (s : List ℕ) where
      module _ (n : ℕ) (q : Place) (l : ltb q.at (length s) ≡ true) (o : Others s (suc n) q) where
        parts : (once_refused lo hi s q ≡ false) × (any (once_refused lo hi s) (behind_read (read_by hi s q) (λ r. places_from hi n s (onward q r))) ≡ false)
        unfolding places_from any
        parts = neither (once_refused lo hi s q) _ (rw l at o)

        pub same_here : read_by lo s q ≡ read_by hi s q
        same_here = same-record s q parts.0

        pub others-on : (r : Record) → read_by hi s q ≡ Ok r → Others s n (onward q r)
        others-on r z = ap (λ (x : Result Record Refusal). any (once_refused lo hi s) (behind_read x (λ r. places_from hi n s (onward q r)))) (sym z) ∙ parts.1

      if-so : (t : Bool) (xs ys : List Place) → (t ≡ true → map (read_by lo s) xs ≡ map (read_by hi s) ys) → map (read_by lo s) (cond t xs []) ≡ map (read_by hi s) (cond t ys [])
      if-so true xs ys f = f refl
      if-so false xs ys f = refl

      if_read : (x : Result Record Refusal) (f g : Record → List Place) → ((r : Record) → x ≡ Ok r → map (read_by lo s) (f r) ≡ map (read_by hi s) (g r)) → map (read_by lo s) (behind_read x f) ≡ map (read_by hi s) (behind_read x g)
      if_read (Ok r) f g h = h r refl
      if_read (Err e) f g h = refl

      from : (n : ℕ) (q : Place) → Others s n q → map (read_by lo s) (places_from lo n s q) ≡ map (read_by hi s) (places_from hi n s q)
      unfolding places_from
      from zero q o = refl
      from (suc n) q o =
          let x = read_by hi s q in
          if-so (ltb q.at (length s)) _ _ (λ l.
          ap (λ (y : Result Record Refusal). y ∷ map (read_by lo s) (behind_read y (λ r. places_from lo n s (onward q r)))) (same_here n q l o)
          ∙ ap (λ (rs : List (Result Record Refusal)). x ∷ rs) (if_read x (λ r. places_from lo n s (onward q r)) (λ r. places_from hi n s (onward q r)) (λ r z. from n (onward q r) (others-on n q l o r z))))

      -- "other tapes read as before"
      pub as_before : is_longer lo hi s ≡ false → reading_by lo s ≡ reading_by hi s
      unfolding is_longer
      as_before = from (length s) (place 0 0)
