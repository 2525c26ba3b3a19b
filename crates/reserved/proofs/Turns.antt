-- 01, "Values per note": what note after note takes of a list.
--     in_order_lem          the notes take the numbers of a list one after the other
--     spent-for-ever    a spent list that does not go round gives the default for ever
--     round-and-round   one that does gives note i its number i mod n
use mathlib.Core.Path.{◌≡◌, refl, sym, ap, ◌∙◌}
use mathlib.Core.Bool.{Bool, true, false}
use Prim.Native.Nat.{ℕ, zero, suc, ◌+◌, ◌%◌, ◌≤◌, ◌<◌}
use native.Mathlib.Nat.{mod-lt, mod-eq_of_lt, mod_self, suc-mod, le_antisymm, le_of_lt}
use native.Mathlib.Numerals.{add-one}
use borrow.Author.Tests.{le-leb, lt-leb, leb-true, leb-false, eq-eqb}
use lib.Dec.{leb}
use lib.IntN.{ℤ, pos}
use lib.ListN.{get_or}
use Rattle.counted.specs.declared.Numbers.{Numbers}
use Rattle.reserved.specs.declared.Reserve.{Reserve}
use Rattle.reserved.specs.declared.Taken.{Taken}
use Rattle.reserved.specs.Reserve.{on_note, reserved, idle, notes_from, taken, place, noted}

-- what is reserved after n notes, the k-th of which hands in the default `def k`, and what note n then takes
abbrev pub after : (ℕ → ℤ) → ℕ → Reserve → Reserve
after def zero r = r
after def (suc n) r = (noted (after def n r) (def n)).reserve

abbrev pub takes : (ℕ → ℤ) → ℕ → Reserve → ℤ
takes def n r = (noted (after def n r) (def n)).value

-- ---- a list that is spent and does not go round
idle-gives : (def : ℤ) → noted idle def ≡ taken def idle
unfolding noted
idle-gives def = refl

module _ (r : Reserve) (k : r.kind ≡ on_note) (c : r.cycling ≡ 0) (s : r.values.count ≤ r.index) where
  spent : (def : ℤ) → noted r def ≡ taken def idle
  unfolding noted
  spent def = simp (eq-eqb r.kind on_note k, c, le-leb r.values.count r.index s)

  gone : (def : ℕ → ℤ) (n : ℕ) → after def (suc n) r ≡ idle
  gone def zero = ap (λ (t : Taken). t.reserve) (spent (def 0))
  gone def (suc n) = ap (λ (x : Reserve). (noted x (def (suc n))).reserve) (gone def n) ∙ ap (λ (t : Taken). t.reserve) (idle-gives (def (suc n)))

  pub spent-for-ever : (def : ℕ → ℤ) (n : ℕ) → takes def n r ≡ def n
  spent-for-ever def zero = ap (λ (t : Taken). t.value) (spent (def 0))
  spent-for-ever def (suc n) = ap (λ (x : Reserve). (noted x (def (suc n))).value) (gone def n) ∙ ap (λ (t : Taken). t.value) (idle-gives (def (suc n)))

module _ (v : Numbers) where
  -- a list at place j
  abbrev standing : ℕ → ℕ → Reserve
  standing c j = reserved on_note c (pos 0) (pos 0) j v

  -- ---- in order
  module _ (c : ℕ) where
    reads : (j : ℕ) (def : ℤ) → j < v.count → noted (standing c j) def ≡ taken (get_or v.items j (pos 0)) (standing c (j + 1))
    unfolding noted
    reads j def h = simp (lt-leb v.count j h)

    stands : (def : ℕ → ℤ) (i : ℕ) → i ≤ v.count → after def i (notes_from c v) ≡ standing c i
    stands def zero h = refl
    stands def (suc i) h =
        ap (λ (x : Reserve). (noted x (def i)).reserve) (stands def i (le_of_lt h)) ∙ ap (λ (t : Taken). t.reserve) (reads i (def i) h) ∙ rw add-one

    pub in_order_lem : (def : ℕ → ℤ) (i : ℕ) → i < v.count → takes def i (notes_from c v) ≡ get_or v.items i (pos 0)
    in_order_lem def i h =
        ap (λ (x : Reserve). (noted x (def i)).value) (stands def i (le_of_lt h)) ∙ ap (λ (t : Taken). t.value) (reads i (def i) h)

  -- ---- round and round
  module _ (p : 0 < v.count) where
    place-mod : (j : ℕ) → j ≤ v.count → place (standing 1 j) ≡ j % v.count
    place-mod j h = go (leb v.count j) refl
      where
        go : (b : Bool) → leb v.count j ≡ b → place (standing 1 j) ≡ j % v.count
        go true e = let q : j ≡ v.count = le_antisymm h (leb-true v.count j e) in simp e (sym (mod_self v.count) ∙ ap (λ (n : ℕ). n % v.count) (sym q))
        go false e = simp e (sym (mod-eq_of_lt (leb-false v.count j e)))

    turns : (j : ℕ) (def : ℤ) → j ≤ v.count → noted (standing 1 j) def ≡ taken (get_or v.items (j % v.count) (pos 0)) (standing 1 (j % v.count + 1))
    unfolding noted
    turns j def h = rw (place-mod j h) (simp (lt-leb v.count (j % v.count) (mod-lt j p)))

    -- where the list stands after i notes
    abbrev where-at : ℕ → ℕ
    where-at zero = 0
    where-at (suc i) = suc (i % v.count)

    small : (i : ℕ) → where-at i ≤ v.count
    small zero = le_of_lt p
    small (suc i) = mod-lt i p

    congruent : (i : ℕ) → where-at i % v.count ≡ i % v.count
    congruent zero = refl
    congruent (suc i) = sym (suc-mod i v.count)

    rounds : (def : ℕ → ℤ) (i : ℕ) → after def i (notes_from 1 v) ≡ standing 1 (where-at i)
    rounds def zero = refl
    rounds def (suc i) =
        ap (λ (x : Reserve). (noted x (def i)).reserve) (rounds def i) ∙ ap (λ (t : Taken). t.reserve) (turns (where-at i) (def i) (small i))
        ∙ rw (add-one, congruent i)

    pub round-and-round : (def : ℕ → ℤ) (i : ℕ) → takes def i (notes_from 1 v) ≡ get_or v.items (i % v.count) (pos 0)
    round-and-round def i =
        ap (λ (x : Reserve). (noted x (def i)).value) (rounds def i) ∙ ap (λ (t : Taken). t.value) (turns (where-at i) (def i) (small i))
        ∙ rw (congruent i)
