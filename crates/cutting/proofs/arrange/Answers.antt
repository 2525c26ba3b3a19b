-- `arrange` meets its contract: the first records are lent, and rotated.
use mathlib.Core.Path.{◌≡◌, sym, ap, ◌∙◌}
use mathlib.Core.List.{List, ◌++◌}
use Prim.Native.Nat.{ℕ, ◌*◌, ◌≤◌}
use native.Mathlib.Omega.{arith}
use lib.IntN.{ℤ}
use lib.ListN.{length, take, drop}
use lib.Seq.{length-take-le}
use Rattle.events.specs.declared.Event.{Event}
use Rattle.eventlist.specs.Rows.{rows_of, Whole}
use Rattle.eventlist.proofs.EventRows.{length-rows_of, rows_take, put_front}
use Rattle.cutting.proofs.arrange.Goals as goal

fits : (l : List ℤ) (n : ℕ) → n ≤ length (rows_of l) → n * 8 ≤ length l
fits l n h = let r = length-rows_of l in omega arith

pub overflow_mul-end : goal.overflow_mul-end
overflow_mul-end c = omega (arith, fits c.args.events.now c.args.p.count c.requires.1)

pub slice_bounds-rotate_events-end : goal.slice_bounds-rotate_events-end
slice_bounds-rotate_events-end c = fits c.args.events.now c.args.p.count c.requires.1

pub slice_bounds-rotate_events-end-then-c : goal.slice_bounds-rotate_events-end-then-c
slice_bounds-rotate_events-end-then-c c =
    sym (length-take-le (c.args.p.count * 8) c.args.events.now (fits c.args.events.now c.args.p.count c.requires.1))

pub rotate_events-requires : goal.rotate_events-requires
unfolding Whole
rotate_events-requires c =
    let x = take (c.args.p.count * 8) c.args.events.now in
    let n : length x ≡ c.args.p.count * 8 = length-take-le (c.args.p.count * 8) c.args.events.now (fits c.args.events.now c.args.p.count c.requires.1) in
    let r = length-rows_of x in
    let h = c.requires.0 in
    (omega arith, omega arith)

pub returns-then-c : goal.returns-then-c
returns-then-c c =
    let l = c.args.events.now in
    let n = c.args.p.count in
    let k = c.args.p.kept in
    let f = fits l n c.requires.1 in
    let long : length c.rotate_events.new.events ≡ n * 8 = c.rotate_events.auto.events ∙ length-take-le (n * 8) l f in
    let q : rows_of c.rotate_events.new.events ≡ drop k (take n (rows_of l)) ++ take k (take n (rows_of l)) =
    c.rotate_events.ensures ∙ ap (λ (x : List Event). drop k x ++ take k x) (rows_take l n f) in
    rw c.if-c.true (put_front l c.rotate_events.new.events n f long ∙ ap (λ (x : List Event). x ++ drop n (rows_of l)) q)
