-- What the tests of a record say of it, on its definition, whatever the limit of a list.
--     no-letters, no-mark, unmarked, marked   whether a mark and its numbers are all there
--     no_target, no-count, short-list, whole-list, not-due, no-list, asked-list   the refusals, in their order
--     Fits, fault_for, fault-none   a record that is not refused is there whole, its list too
--     sound-by, record-missing, record-refused, record-read   the record, put together
use mathlib.Core.Path.{◌≡◌, refl, ap, ◌∙◌}
use mathlib.Core.Bool.{Bool, true, false, cond}
use mathlib.Core.List.{List}
use Prim.Native.Nat.{ℕ, ◌+◌, ◌*◌, ◌≤◌, ◌<◌}
use native.Mathlib.Omega.{arith}
use lib.Dec.{leb}
use lib.IntN.{ℤ}
use lib.ListN.{length}
use borrow.Author.Tests.{le-leb, lt-leb, leb-true}
use Rattle.std.specs.Prelude.{Option, Some, None, Result, Ok, Err}
use Rattle.laws.specs.Integers.{cut}
use Rattle.laws.proofs.Ranges.{inside-mag}
use Rattle.laws.proofs.Signed.{cut-mag}
use Rattle.numbers.specs.Ranges.{is_target}
use Rattle.text.specs.Little.{number_at}
use Rattle.numbers.specs.declared.refusals.Refusal.{Refusal}
use Rattle.numbers.specs.declared.refusals.Refusal.TheVariants.{NoTarget, TooMany, TapeFault}
use Rattle.reel.specs.Marks.{mark_of, width_of, has_list, is_due}
use Rattle.reel.specs.Numbers.{letters_at, numbers_at}
use Rattle.reel.specs.Records.{behind, mark_in, mark_at, second_at, last_at, is_count_by, list_fault_by, mark_fault_by, count_at, sound, if_asked, record_in, record_by}
use Rattle.counted.specs.declared.Numbers.{Numbers}
use Rattle.counted.specs.Numbers.{numbers}
use Rattle.reel.specs.declared.marks.Mark.{Mark}
use Rattle.reel.specs.declared.marks.Mark.TheVariants.{Track, Budget, Time, Freqs, Curve, Cycle, Turn, Cut}

module _ (s : List ℕ) (p : ℕ) where
  pub no-letters : length s < p + 2 → None ≡ mark_at s p
  unfolding mark_at
  no-letters h = go (mark_of (letters_at s p))
    where
      go : (o : Option Mark) → None ≡ mark_in s p o
      go None = refl
      go (Some m) = let l : leb (behind p m) (length s) ≡ false = lt-leb _ _ (omega (arith, h)) in rw l refl

  pub no-mark : None ≡ mark_of (letters_at s p) → None ≡ mark_at s p
  unfolding mark_at
  no-mark e = ap (mark_in s p) e

  module _ (m : Mark) (e : Some m ≡ mark_of (letters_at s p)) where
    opened : mark_in s p (Some m) ≡ mark_at s p
    unfolding mark_at
    opened = ap (mark_in s p) e

    pub unmarked : length s < behind p m → None ≡ mark_at s p
    unmarked h = let l : leb (behind p m) (length s) ≡ false = lt-leb _ _ h in (let g : None ≡ mark_in s p (Some m) = rw l refl in g ∙ opened)

    pub marked : behind p m ≤ length s → Some m ≡ mark_at s p
    marked h = let l : leb (behind p m) (length s) ≡ true = le-leb _ _ h in (let g : Some m ≡ mark_in s p (Some m) = rw l refl in g ∙ opened)

  pub mark-room : (m : Mark) → Some m ≡ mark_at s p → behind p m ≤ length s
  unfolding mark_at
  mark-room m = go (mark_of (letters_at s p))
    where
      pick : (k : Mark) (b : Bool) → leb (behind p k) (length s) ≡ b → Some m ≡ cond b (Some k) None → behind p m ≤ length s
      pick k true l e = let q : m ≡ k = cc in rw q (leb-true _ _ l)
      pick k false l e = absurd (cc)

      go : (o : Option Mark) → Some m ≡ mark_in s p o → behind p m ≤ length s
      go None e = absurd (cc)
      go (Some k) e = pick k (leb (behind p k) (length s)) refl e

pub width-some : (m : Mark) → 0 < width_of m
width-some Track = omega arith
width-some Budget = omega arith
width-some Time = omega arith
width-some Freqs = omega arith
width-some Curve = omega arith
width-some Cycle = omega arith
width-some Turn = omega arith
width-some Cut = omega arith

pub count-few : (limit : ℕ) (z : ℤ) → is_count_by limit z ≡ true → cut z ≤ limit
unfolding is_count_by
count-few limit z e = omega (arith, inside-mag limit z e, cut-mag z)

module _ (limit : ℕ) (s : List ℕ) (p : ℕ) (target n : ℤ) where
  pub no_target : is_target target ≡ false → Err NoTarget ≡ list_fault_by limit s p target n
  unfolding list_fault_by
  no_target e = rw e

  module _ (t : is_target target ≡ true) where
    pub no-count : is_count_by limit n ≡ false → Err TooMany ≡ list_fault_by limit s p target n
    unfolding list_fault_by
    no-count e = rw (t, e)

    module _ (k : is_count_by limit n ≡ true) where
      pub short-list : length s < p + 4 * cut n → Err TapeFault ≡ list_fault_by limit s p target n
      unfolding list_fault_by
      short-list h = rw (t, k, lt-leb _ _ h)

      pub whole-list : p + 4 * cut n ≤ length s → Ok tt ≡ list_fault_by limit s p target n
      unfolding list_fault_by
      whole-list h = rw (t, k, le-leb _ _ h)

module _ (limit : ℕ) (s : List ℕ) (p due : ℕ) (m : Mark) where
  pub not-due : is_due due m ≡ false → Err TapeFault ≡ mark_fault_by limit s p due m
  unfolding mark_fault_by
  not-due d = rw d

  module _ (d : is_due due m ≡ true) where
    pub no-list : has_list m ≡ false → Ok tt ≡ mark_fault_by limit s p due m
    unfolding mark_fault_by
    no-list l = rw (d, l)

    pub asked-list : has_list m ≡ true → {q : ℕ} {t n : ℤ} → q ≡ behind p m → t ≡ number_at s (p + 2) → n ≡ last_at s p m → list_fault_by limit s q t n ≡ mark_fault_by limit s p due m
    unfolding mark_fault_by
    asked-list l q t n = rw (q, t, n, d, l)

-- everything that the record of mark m at p needs
pub record Fits (limit : ℕ) (s : List ℕ) (p : ℕ) (m : Mark) : Type 0 where
  pub few : count_at s p m ≤ limit
  pub room : behind p m + 4 * count_at s p m ≤ length s

-- the tests in their order: its turn, a list, a target, a count, the bytes
abbrev pub fault_for : Bool → Bool → Bool → Bool → Bool → Result Unit Refusal
fault_for d l t n r = cond d (cond l (cond t (cond n (cond r (Ok tt) (Err TapeFault)) (Err TooMany)) (Err NoTarget)) (Ok tt)) (Err TapeFault)

-- which way a record went that is not refused: past its list's tests, or without a list
data Way (d l t n r : Bool) : Type 0 where
  plain : d ≡ true → l ≡ false → Way d l t n r
  listed : d ≡ true → l ≡ true → n ≡ true → r ≡ true → Way d l t n r

way : (d l t n r : Bool) → fault_for d l t n r ≡ Ok tt → Way d l t n r
way false l t n r h = absurd (cc)
way true false t n r h = plain refl refl
way true true false n r h = absurd (cc)
way true true true false r h = absurd (cc)
way true true true true false h = absurd (cc)
way true true true true true h = listed refl refl refl refl

module _ (limit : ℕ) (s : List ℕ) (p due : ℕ) (m : Mark) (is : Some m ≡ mark_at s p) where
  abbrev N : ℤ
  N = last_at s p m

  fits : Way (is_due due m) (has_list m) (is_target (number_at s (p + 2))) (is_count_by limit N) (leb (behind p m + 4 * cut N) (length s)) → Fits limit s p m
  unfolding count_at
  fits (plain d l) = record { few = rw l (omega arith); room = rw l (omega (arith, mark-room s p m is)) }
  fits (listed d l n r) = record { few = rw l (count-few limit N n); room = rw l (leb-true _ _ r) }

  pub fault-none : mark_fault_by limit s p due m ≡ Ok tt → Fits limit s p m
  unfolding mark_fault_by list_fault_by
  fault-none e =
      fits (way (is_due due m) (has_list m) (is_target (number_at s (p + 2))) (is_count_by limit N) (leb (behind p m + 4 * cut N) (length s)) e)

-- ---- the record, put together from what was read
pub sound-by : (s : List ℕ) (p : ℕ) (m : Mark) (n : ℕ) {w : ℕ} {x y : ℤ} {l : Numbers}
    → w ≡ width_of m → x ≡ number_at s (p + 2) → y ≡ second_at s p m → l ≡ numbers (numbers_at s (p + 2 + 4 * w) n)
    → record { mark = m; x = x; y = y; list = l; next = p + 2 + 4 * w + 4 * n } ≡ sound s p m n
sound-by s p m n w x y l = rw (l, x, y, w)

module _ (limit : ℕ) (s : List ℕ) (p due : ℕ) where
  pub record-missing : None ≡ mark_at s p → Err TapeFault ≡ record_by limit s p due
  unfolding record_by
  record-missing e = ap (record_in limit s p due) e

  module _ (m : Mark) (is : Some m ≡ mark_at s p) where
    known : if_asked (mark_fault_by limit s p due m) (sound s p m (count_at s p m)) ≡ record_by limit s p due
    unfolding record_by
    known = ap (record_in limit s p due) is

    pub record-refused : {e : Refusal} → Err e ≡ mark_fault_by limit s p due m → Err e ≡ record_by limit s p due
    record-refused f = ap (λ (x : Result Unit Refusal). if_asked x (sound s p m (count_at s p m))) f ∙ known

    pub record-read : Ok tt ≡ mark_fault_by limit s p due m → {n : ℕ} → n ≡ count_at s p m → Ok (sound s p m n) ≡ record_by limit s p due
    record-read f c = ap (λ (k : ℕ). Ok (sound s p m k)) c ∙ ap (λ (x : Result Unit Refusal). if_asked x (sound s p m (count_at s p m))) f ∙ known
