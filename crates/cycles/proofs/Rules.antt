-- What the tests of a record and of a table tell, as facts that `omega` reads.
use mathlib.Core.Path.{◌≡◌}
use mathlib.Core.Bool.{true, not, ◌&&◌, false≢true}
use mathlib.Core.List.{List, [], ◌∷◌}
use Prim.Native.Nat.{ℕ, ◌≤◌, ◌<◌, ◌^◌}
use native.Mathlib.Omega.{arith}
use borrow.Author.Tests.{ltb-true, leb-true, not-true}
use lib.Dec.{ltb, eqb}
use lib.IntN.{ℤ, pos, negsuc}
use lib.Signed.{le_z, mag}
use Rattle.laws.specs.Integers.{cut}
use Rattle.laws.specs.Lists.{all}
use Rattle.laws.proofs.Ranges.{left, right, sized-mag, inside-mag}
use Rattle.laws.specs.Keys.{absent, distinct}
use Rattle.numbers.specs.Limits.{list_limit}
use Rattle.numbers.specs.Ranges.{is_target, is_length, is_stored_time}
use Rattle.counted.specs.Numbers.{ok_numbers}
use Rattle.counted.proofs.Counted.{numbers-count}
use Rattle.cycles.specs.declared.Cycle.{Cycle}
use Rattle.cycles.specs.Due.{key}
use Rattle.cycles.specs.Rules.{ok_cycle, keys_of, ok_table}
use Rattle.cycles.proofs.Table.{Free, Fine}

above_zero : (z : ℤ) → le_z (pos 1) z ≡ true → 0 < cut z
above_zero (pos n) e = omega (arith, leb-true 1 n e)
above_zero (negsuc n) e = absurd (false≢true e)

pub record Sound (c : Cycle) : Type 0 where
  pub aimed : mag c.target ≤ 129
  pub forward : 0 < cut c.length
  pub short : mag c.length ≤ 2 ^ 20
  pub near : mag c.next ≤ 2 ^ 41
  pub numbers : ok_numbers c.values ≡ true
  pub few : c.values.count ≤ list_limit
  pub placed : c.index < c.values.count

pub sound : (c : Cycle) → ok_cycle c ≡ true → Sound c
unfolding ok_cycle is_target is_length is_stored_time
sound c e =
    let target = is_target c.target in
    let forward = le_z (pos 1) c.length in
    let short = is_length c.length in
    let near = is_stored_time c.next in
    let numbers = ok_numbers c.values in
    let placed = ltb c.index c.values.count in
    let e5 = left (target && forward && short && near && numbers) placed e in
    let e4 = left (target && forward && short && near) numbers e5 in
    let e3 = left (target && forward && short) near e4 in
    let e2 = left (target && forward) short e3 in
    let ok = right (target && forward && short && near) numbers e5 in
    record {
      aimed = inside-mag 129 c.target (left target forward e2);
      forward = above_zero c.length (right target forward e2);
      short = sized-mag (2 ^ 20) c.length (right (target && forward) short e3);
      near = sized-mag (2 ^ 41) c.next (right (target && forward && short) near e4);
      numbers = ok;
      few = numbers-count c.values ok;
      placed = ltb-true c.index c.values.count (right (target && forward && short && near && numbers) placed e);
    }

free : (a : ℕ) (tab : List Cycle) → absent a (keys_of tab) ≡ true → Free a tab
unfolding absent all
free a [] e = tt
free a (c ∷ cs) e =
    let here = not (eqb a (key c.target)) in
    let there = all (λ (k : ℕ). not (eqb a k)) (keys_of cs) in
    (not-true (eqb a (key c.target)) (left here there e), free a cs (right here there e))

fine-parts : (tab : List Cycle) → all ok_cycle tab ≡ true → distinct (keys_of tab) ≡ true → Fine tab
unfolding all distinct
fine-parts [] e d = tt
fine-parts (c ∷ cs) e d =
    let lone = absent (key c.target) (keys_of cs) in (
      (sound c (left (ok_cycle c) (all ok_cycle cs) e)).forward,
      free (key c.target) cs (left lone (distinct (keys_of cs)) d),
      fine-parts cs (right (ok_cycle c) (all ok_cycle cs) e) (right lone (distinct (keys_of cs)) d),
    )

pub fine : (tab : List Cycle) → ok_table tab ≡ true → Fine tab
unfolding ok_table
fine tab e = fine-parts tab (left (all ok_cycle tab) (distinct (keys_of tab)) e) (right (all ok_cycle tab) (distinct (keys_of tab)) e)
