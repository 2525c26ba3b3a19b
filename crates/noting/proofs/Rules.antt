-- What the test of a list for notes tells, as facts that `omega` reads, and that a list that has a value keeps it.
--     sound         the parts
--     some          the place of its value is there
--     kept-values   one further it still passes
use mathlib.Core.Path.{◌≡◌, refl}
use mathlib.Core.Bool.{Bool, true, false, cond, ◌&&◌, true≢false}
use Prim.Native.Nat.{ℕ, zero, suc, ◌+◌, ◌≤◌, ◌<◌}
use native.Mathlib.Omega.{arith}
use borrow.Author.Tests.{leb-true, leb-false, le-leb}
use lib.Dec.{eqb, leb}
use lib.ListN.{take}
use lib.Signed.{mag}
use mir.Syntax.{w32}
use mir.Val.{SFits}
use Rattle.laws.specs.Lists.{all, counted}
use Rattle.laws.proofs.Ranges.{left, right, inside-mag}
use Rattle.numbers.specs.Limits.{list_limit, places}
use Rattle.numbers.specs.Ranges.{is_target}
use Rattle.counted.specs.Numbers.{ok_numbers}
use Rattle.counted.proofs.Counted.{numbers-count}
use Rattle.reserved.proofs.Cycles.{or_left}
use Rattle.tables.specs.declared.OnNoteValues.{OnNoteValues}
use Rattle.tables.specs.Sixteen.{ok_sixteen}
use Rattle.tables.specs.declared.NoteTable.{NoteTable}
use Rattle.tables.specs.Reservations.{ok_values}
use Rattle.tables.specs.Tables.{ok_notes}
use Rattle.noting.specs.Lists.{at_end, silent, place_of, advanced}

pub record Sound (e : OnNoteValues) : Type 0 where
  pub target : is_target e.target ≡ true
  pub aimed : mag e.target ≤ 129
  pub placed : e.index ≤ e.values.count
  pub flag : leb e.cycling 1 ≡ true
  pub numbers : ok_numbers e.values ≡ true
  pub few : e.values.count ≤ list_limit

pub sound : (e : OnNoteValues) → ok_values e ≡ true → Sound e
unfolding ok_values is_target
sound e h =
    let target = is_target e.target in
    let placed = leb e.index e.values.count in
    let flag = leb e.cycling 1 in
    let numbers = ok_numbers e.values in
    let three = left (target && placed && flag) numbers h in
    let two = left (target && placed) flag three in
    let ok = right (target && placed && flag) numbers h in
    record {
      target = left target placed two;
      aimed = inside-mag 129 e.target (left target placed two);
      placed = leb-true e.index e.values.count (right target placed two);
      flag = right (target && placed) flag three;
      numbers = ok;
      few = numbers-count e.values ok;
    }

pub fits-target : (e : OnNoteValues) → Sound e → SFits w32 e.target
fits-target e s = record { sfits = omega arith }

-- the place is at most the count, and below it where there is a value
pub place-few : (e : OnNoteValues) → Sound e → place_of e ≤ e.values.count
unfolding place_of
place-few e s = go (at_end e)
  where
    go : (t : Bool) → cond t 0 e.index ≤ e.values.count
    go true = omega arith
    go false = omega (arith, s.placed)

pub some : (e : OnNoteValues) → silent e ≡ false → place_of e < e.values.count
unfolding silent place_of
some e h = go (at_end e) (leb-false e.values.count e.index) (any e.values.count (or_left (eqb e.values.count 0) _ h))
  where
    any : (n : ℕ) → eqb n 0 ≡ false → 0 < n
    any zero q = absurd (true≢false q)
    any (suc n) q = omega arith

    go : (t : Bool) → (t ≡ false → e.index < e.values.count) → 0 < e.values.count → cond t 0 e.index < e.values.count
    go true f p = p
    go false f p = f refl

pub kept-values : (e : OnNoteValues) → ok_values e ≡ true → silent e ≡ false → ok_values (advanced e) ≡ true
unfolding ok_values advanced
kept-values e h q =
    let s = sound e h in
    rw (s.target, le-leb (place_of e + 1) e.values.count (omega (arith, some e q)), s.flag, s.numbers)

-- each list of a table that passes its test passes its own
pub listed : (t : NoteTable) → ok_notes t ≡ true → all ok_values (take t.count t.items) ≡ true
unfolding ok_sixteen counted
listed t e = right (leb t.count places) (all ok_values (take t.count t.items)) e
