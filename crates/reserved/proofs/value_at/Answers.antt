-- `value_at` hands a triple's two ends to `curve_value`: they are numbers of a list, so they are within its range, and a
-- length is far below its limit.
use Rattle.std.proofs.Common.{rules, arith, ◌≡◌, true, ℕ, ◌+◌, ◌*◌, ◌/◌, ◌^◌, ◌≤◌, ◌<◌, ℤ, pos, length, get_or, ◌∙◌}
use lib.Signed.{mag}
use mir.Syntax.{w32, w64}
use mir.Val.{SFits, to_z, of_z}
use Rattle.laws.specs.Integers.{cut}
use Rattle.laws.proofs.Signed.{narrow_back, cut-mag}
use Rattle.numbers.specs.Limits.{list_limit}
use Rattle.counted.specs.declared.Numbers.{Numbers}
use Rattle.counted.specs.Numbers.{shown}
use Rattle.counted.specs.Curves.{triples, no_triple, ok_curve}
use Rattle.counted.proofs.Sizes.{number-mag, length-mag}
use Rattle.counted.proofs.Counted.{numbers-count, numbers-at, curve-numbers, curve-length}
use Rattle.counted.proofs.Triples.{triple-at}
use Rattle.reserved.proofs.value_at.Goals as goal

abbrev wide : ℤ → ℤ
wide z = to_z w64 (of_z w64 (to_z w32 (of_z w32 z)))

-- triple i of a curve's list
module _ (l : Numbers) (e : ok_curve l ≡ true) (i : ℕ) (h : i < l.count / 3) where
  count : l.count ≤ list_limit
  count = numbers-count l (curve-numbers l e)

  number : (j : ℕ) → j < 3 → mag (get_or l.items (i * 3 + j) (pos 0)) ≤ 2 ^ 22
  number j k = number-mag (get_or l.items (i * 3 + j) (pos 0)) (numbers-at l (i * 3 + j) (curve-numbers l e) (omega arith))

  low : mag (get_or l.items (i * 3) (pos 0)) ≤ 2 ^ 22
  low = number-mag (get_or l.items (i * 3) (pos 0)) (numbers-at l (i * 3) (curve-numbers l e) (omega arith))

  module _ (m : length l.items ≡ list_limit) where
    stands : get_or (triples (shown l)) i no_triple ≡ record { low = get_or l.items (i * 3) (pos 0); high = get_or l.items (i * 3 + 1) (pos 0); length = get_or l.items (i * 3 + 2) (pos 0) }
    stands = let k = count in triple-at l (omega arith) i h

    short : cut (get_or (triples (shown l)) i no_triple).length ≤ 2 ^ 20
    short =
        let k = length-mag _ (curve-length l m i e h) in
        rw stands (omega (arith, cut-mag (get_or l.items (i * 3 + 2) (pos 0))))

back : (z : ℤ) → mag z ≤ 2 ^ 22 → wide z ≡ z
back z h = narrow_back w32 w64 (omega arith) (omega arith)

pub offset_bounds-list-i : goal.offset_bounds-list-i
offset_bounds-list-i c = let h = count c.args.list c.requires.list_value c.args.i c.requires.i_bound in omega arith

pub bounds-list-i : goal.bounds-list-i
bounds-list-i c = let h = count c.args.list c.requires.list_value c.args.i c.requires.i_bound in omega arith

pub offset_bounds-list-i-2 : goal.offset_bounds-list-i-2
offset_bounds-list-i-2 c = let h = count c.args.list c.requires.list_value c.args.i c.requires.i_bound in omega arith

pub bounds-list-i-2 : goal.bounds-list-i-2
bounds-list-i-2 c = let h = count c.args.list c.requires.list_value c.args.i c.requires.i_bound in omega arith

pub curve_value-requires : goal.curve_value-requires
curve_value-requires c =
    let a = c.args.list in
    let i = c.args.i in
    let m : length a.items ≡ list_limit = search rules in
    let l = low a c.requires.list_value i c.requires.i_bound in
    let h = number a c.requires.list_value i c.requires.i_bound 1 (omega arith) in
    let k = short a c.requires.list_value i c.requires.i_bound m in
    let n = c.requires.len_value in
    record { low_bound = (rw (c.from.ensures, back _ l) l, rw (c.from-2.ensures, back _ h) h); j_lt_len = (c.requires.j_lt_len, omega arith) }

pub returns : goal.returns
returns c =
    let a = c.args.list in
    let i = c.args.i in
    let m : length a.items ≡ list_limit = search rules in
    let l = low a c.requires.list_value i c.requires.i_bound in
    let h = number a c.requires.list_value i c.requires.i_bound 1 (omega arith) in
    let b = c.curve_value.ensures.result_bound in
    let f : SFits w64 c.curve_value.result = omega arith in
    let g : SFits w32 c.curve_value.result = omega arith in
    narrow_back w64 w32 f g ∙ c.curve_value.ensures.value
    ∙ rw (c.from.ensures, c.from-2.ensures, back (get_or a.items (i * 3) (pos 0)) l, back (get_or a.items (i * 3 + 1) (pos 0)) h, stands a c.requires.list_value i c.requires.i_bound m)
