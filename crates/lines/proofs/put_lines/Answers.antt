-- `put_lines` puts a line a turn behind those that stand (`Lines`). The measure is the events that are left.
use mathlib.Core.Path.{◌≡◌, sym, ◌∙◌}
use Prim.Native.Nat.{◌≤◌, ◌<◌}
use native.Mathlib.Omega.{arith}
use lib.ListN.{take, get_or}
use lib.Seq.{length-take-le, get_or-take}
use borrow.Author.Rules.{rules}
use Rattle.events.specs.Events.{zero_event}
use Rattle.eventlist.specs.Rows.{rows_of, events_of}
use Rattle.lines.proofs.Putting.{no_lines, one_line, all_lines}
use Rattle.lines.proofs.put_lines.Goals as goal

pub loop-i-init : goal.loop-i-init
loop-i-init c = let a = c.args in no_lines a.at (events_of a.events.now a.count) a.out.now

pub read_event-requires : goal.read_event-requires
read_event-requires c =
    let h : c.loop-i.i < c.args.count = search rules in
    omega (arith, c.requires.0)

pub put_line-p-requires : goal.put_line-p-requires
put_line-p-requires c =
    let h : c.loop-i.i < c.args.count = search rules in
    omega (arith, c.requires.1, c.loop-i.invariant.far, c.loop-i.invariant.long)

pub loop-i-preserved : goal.loop-i-preserved
loop-i-preserved c =
    let rows = rows_of c.args.events.now in
    let h : c.loop-i.i < c.args.count = search rules in
    let n = length-take-le c.args.count rows c.requires.0 in
    let t = c.put_line-p in
    let e : c.read_event.result ≡ get_or (take c.args.count rows) c.loop-i.i zero_event =
    c.read_event.ensures ∙ sym (get_or-take c.args.count rows c.loop-i.i zero_event h) in
    one_line c.args.at (take c.args.count rows) c.args.out.now (omega (arith, c.requires.1)) c.loop-i.invariant (omega (arith, n)) c.out-1.given (rw e at t.ensures.puts) t.ensures.upper_bound

pub shape_of-out : goal.shape_of-out
shape_of-out c = c.loop-i.invariant.long

pub returns : goal.returns
returns c =
    let rows = rows_of c.args.events.now in
    let h : c.args.count ≤ c.loop-i.i = search rules in
    all_lines c.args.at (take c.args.count rows) c.args.out.now (omega (arith, length-take-le c.args.count rows c.requires.0)) c.loop-i.invariant
