-- `fold` meets its contract: what is remembered is what is folded, and finds room (Composing).
use mathlib.Core.Path.{◌≡◌, ap, ap₂, ◌∙◌}
use mathlib.Core.List.{◌++◌}
use Prim.Native.Nat.{ℕ}
use native.Mathlib.Omega.{arith}
use lib.ListN.{length, length-append}
use Rattle.eventlist.specs.Rows.{events_of}
use Rattle.eventlist.proofs.EventRows.{same_rows}
use Rattle.cutting.specs.declared.Parts.{Parts}
use Rattle.cutting.specs.Cuts.{unset, in_order, folded, kept_of}
use Rattle.cutting.specs.Passes.{controls_in, program_in, bend_in}
use Rattle.cutting.proofs.Values.{all_same}
use Rattle.cutting.proofs.Composing.{same, room_for, whole}
use Rattle.cutting.proofs.fold.Goals as goal

abbrev parts : ℕ → ℕ → Parts
parts x y = record { kept = x; count = y }

pub remember_in_order-last-requires : goal.remember_in_order-last-requires
remember_in_order-last-requires c = (c.requires.0, (c.requires.1.1, all_same unset))

pub put_controls-n-requires : goal.put_controls-n-requires
put_controls-n-requires c =
    let a = c.remember_in_order-last in
    let r = room_for c.args.c c.args.events.now c.args.count c.requires.0 a.new.values a.result a.ensures.0 a.ensures.1 in
    let w = same_rows c.keep-kept.new.events c.args.events.now c.keep-kept.auto.events in
    let e = c.keep-kept.ensures.0 in
    let h = c.requires.0 in
    omega arith

pub put_program-m-requires : goal.put_program-m-requires
put_program-m-requires c =
    let a = c.remember_in_order-last in
    let r = room_for c.args.c c.args.events.now c.args.count c.requires.0 a.new.values a.result a.ensures.0 a.ensures.1 in
    let w = same_rows c.keep-kept.new.events c.args.events.now c.keep-kept.auto.events in
    let v = same_rows c.put_controls-n.new.events c.keep-kept.new.events c.put_controls-n.auto.events in
    let e = c.keep-kept.ensures.0 in
    let d = c.put_controls-n.ensures.0 in
    let h = c.requires.0 in
    omega arith

pub put_bend-requires : goal.put_bend-requires
put_bend-requires c =
    let a = c.remember_in_order-last in
    let r = room_for c.args.c c.args.events.now c.args.count c.requires.0 a.new.values a.result a.ensures.0 a.ensures.1 in
    let w = same_rows c.keep-kept.new.events c.args.events.now c.keep-kept.auto.events in
    let v = same_rows c.put_controls-n.new.events c.keep-kept.new.events c.put_controls-n.auto.events in
    let u = same_rows c.put_program-m.new.events c.put_controls-n.new.events c.put_program-m.auto.events in
    let e = c.keep-kept.ensures.0 in
    let d = c.put_controls-n.ensures.0 in
    let b = c.put_program-m.ensures.0 in
    let h = c.requires.0 in
    omega arith

pub returns : goal.returns
returns c =
    let a = c.remember_in_order-last in
    let es = events_of c.args.events.now c.args.count in
    let w = same_rows c.keep-kept.new.events c.args.events.now c.keep-kept.auto.events in
    let v = same_rows c.put_controls-n.new.events c.keep-kept.new.events c.put_controls-n.auto.events in
    let all : c.put_bend.result ≡ length (kept_of c.args.c es ++ folded c.args.c (in_order c.args.c es)) =
    let e = c.keep-kept.ensures.0 in
    let d = c.put_controls-n.ensures.0 in
    let f = c.put_program-m.ensures.0 in
    let g = c.put_bend.ensures.0 in
    let j = length-append (kept_of c.args.c es) (folded c.args.c (in_order c.args.c es)) in
    let i = ap length (same c.args.c c.args.events.now c.args.count c.requires.0 a.new.values a.result a.ensures.0 a.ensures.1) in
    let n = length-append (controls_in a.new.values a.result) (program_in a.result ++ bend_in c.args.c a.result) in
    let o = length-append (program_in a.result) (bend_in c.args.c a.result) in
    omega arith in (
      ap₂ (λ (x y : ℕ). parts x y) c.keep-kept.ensures.0 all,
      whole c.args.c c.args.events.now c.args.count c.requires.0 a.new.values a.result a.ensures.0 a.ensures.1
          c.keep-kept.new.events c.put_controls-n.new.events c.put_program-m.new.events c.put_bend.new.events
          c.keep-kept.result c.put_controls-n.result c.put_program-m.result
          c.keep-kept.ensures.0 c.put_controls-n.ensures.0 c.put_program-m.ensures.0
          w (v ∙ w)
          c.keep-kept.ensures.1 c.put_controls-n.ensures.1 c.put_program-m.ensures.1 c.put_bend.ensures.1,
    )
