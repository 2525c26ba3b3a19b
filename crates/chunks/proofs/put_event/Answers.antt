-- `put_event` meets its contract: the gap, and the message behind it.
use mathlib.Core.Path.{◌≡◌, ap, ◌∙◌}
use mathlib.Core.List.{List}
use Prim.Native.Nat.{ℕ, ◌+◌, ◌≤◌}
use native.Mathlib.Omega.{arith}
use borrow.Author.Rules.{rules}
use lib.Dec.{lit<}
use lib.IntN.{ℤ}
use lib.ListN.{length, length-append}
use mir.Facts.{to_z-of_z}
use Rattle.text.specs.Laying.{laid}
use Rattle.text.proofs.Laying.{put-behind}
use Rattle.quantities.specs.Quantities.{quantity_of}
use Rattle.chunks.specs.declared.Pen.{Pen}
use Rattle.chunks.specs.Chunks.{message_of, gap_after, written_after}
use Rattle.chunks.specs.Steps.{bytes_of}
use Rattle.chunks.proofs.Leaves.{time-fits, gap-fits, gap-cast, gap-cut}
use Rattle.chunks.proofs.put_event.Goals as goal

pen : {a b : ℕ} {s t : ℤ} → a ≡ b → s ≡ t → ◌≡◌ {A = Pen} (record { at = a; time = s }) (record { at = b; time = t })
pen p q = rw (p, q)

pub overflow_sub-gap : goal.overflow_sub-gap
overflow_sub-gap c =
    gap-fits c.args.e.time c.args.p.time c.requires.0.time c.requires.0.before

pub overflow_cast-gap : goal.overflow_cast-gap
overflow_cast-gap c =
    let w = c.requires.0 in
    gap-cast c.args.e.time c.args.p.time w.time w.before 268435455 w.follows (lit< tt)

pub put_quantity-q-requires : goal.put_quantity-q-requires
unfolding written_after
put_quantity-q-requires c =
    let w = c.requires.0 in
    let e = c.args.e in
    let t = c.args.p.time in
    let n = gap-cut e.time t w.time w.before 268435455 w.follows in
    omega (arith, c.requires.1, length-append (quantity_of (gap_after t e)) (message_of e), ap (λ (k : ℕ). length (quantity_of k)) n)

pub put_message-at-requires : goal.put_message-at-requires
unfolding written_after
put_message-at-requires c =
    let w = c.requires.0 in
    let e = c.args.e in
    let t = c.args.p.time in
    let n = gap-cut e.time t w.time w.before 268435455 w.follows in
    let m = ap length c.message_of.ensures in
    let l = length-append (quantity_of (gap_after t e)) (message_of e) in
    let h : c.put_quantity-q.result + length (bytes_of c.message_of.result) ≤ length c.args.out.now =
    omega (arith, c.requires.1, l, m, c.put_quantity-q.ensures.1, ap (λ (k : ℕ). length (quantity_of k)) n) in
    search rules

pub returns : goal.returns
unfolding written_after
returns c =
    let a = c.args in
    let w = c.requires.0 in
    let t = a.p.time in
    let o = a.out.now in
    let n = gap-cut a.e.time t w.time w.before 268435455 w.follows in
    let g = c.put_quantity-q.ensures in
    let p = c.put_message-at.ensures in
    let y = c.message_of.ensures in
    let h : a.p.at ≤ length o = omega (arith, c.requires.1) in
    let b =
    put-behind a.p.at o (quantity_of (gap_after t a.e)) (message_of a.e) h
    (rw n at g.0)
    (rw n at g.1)
    (p.0 ∙ ap (λ (l : List ℕ). laid c.put_quantity-q.result l c.put_quantity-q.new.out) y)
    (p.1 ∙ ap (λ (l : List ℕ). c.put_quantity-q.result + length l) y) in
    (b.0, pen b.1 (to_z-of_z (time-fits a.e.time w.time)))
