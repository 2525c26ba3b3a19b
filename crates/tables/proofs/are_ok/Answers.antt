-- so far all records were well (laws, Tests)
use Rattle.std.proofs.Common.{rules, ◌≡◌, sym, ap, ◌∙◌, true, false, get_or, take}
use Rattle.laws.proofs.Tests.{counted-over, passed, failed, ended}
use Rattle.numbers.specs.Limits.{places}
use Rattle.tables.specs.Sixteen.{ok_sixteen}
use Rattle.tables.proofs.Testing.{well-is}
use lib.Seq.{get_or-take}
use Rattle.tables.proofs.are_ok.Goals as goal

pub returns-then-count-gt-PLACES-clause-value : goal.returns-then-count-gt-PLACES-clause-value
unfolding ok_sixteen
returns-then-count-gt-PLACES-clause-value g c =
    counted-over g.T.Reservation.ok c.args.count places c.args.items c.if-count-gt-PLACES.true

pub returns-then-not-is_ok-clause-value : goal.returns-then-not-is_ok-clause-value
returns-then-not-is_ok-clause-value g c =
    let p = g.T.Reservation.ok in
    let n = c.args.count in
    let l = c.args.items in
    let e : p (get_or (take n l) c.loop-i.i c.index-items-i.result) ≡ false = ap p (get_or-take n l c.loop-i.i c.index-items-i.result (search rules)) ∙ sym c.is_ok.ensures ∙ c.if-not-is_ok.true in
    failed p (take n l) c.loop-i.i c.index-items-i.result (search rules) e c.loop-i.invariant ∙ well-is p n l (search rules)

pub loop-i-preserved : goal.loop-i-preserved
loop-i-preserved g c =
    let p = g.T.Reservation.ok in
    let n = c.args.count in
    let l = c.args.items in
    let e : p (get_or (take n l) c.loop-i.i c.index-items-i.result) ≡ true = ap p (get_or-take n l c.loop-i.i c.index-items-i.result (search rules)) ∙ sym c.is_ok.ensures ∙ c.if-not-is_ok.false in
    passed p (take n l) c.loop-i.i c.index-items-i.result (search rules) e c.loop-i.invariant

pub returns-clause-value : goal.returns-clause-value
returns-clause-value g c =
    let p = g.T.Reservation.ok in
    let n = c.args.count in
    let l = c.args.items in
    ended p (take n l) c.loop-i.i (search rules) c.loop-i.invariant ∙ well-is p n l (search rules)
