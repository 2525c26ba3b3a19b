-- `split_note_off` meets its contract: what was asked decides (Refusing), and a split that is not refused may lean on it.
use Rattle.std.proofs.Common.{refl, sym, length, arith}
use Rattle.eventlist.proofs.EventRows.{length-rows_of}
use Rattle.eventlist.proofs.Sound.{list-within}
use Rattle.notes.proofs.Refusing.{accepted, done-is}
use Rattle.notes.proofs.split_note_off.Goals as goal

pub split_into-requires-clause-count_in_bounds : goal.split_into-requires-clause-count_in_bounds
split_into-requires-clause-count_in_bounds c =
    let s = c.args in
    let t = accepted (length s.store.now) s.events.now s.count (length s.out.now) (sym c.in-Ok.ensures.0) in
    (list-within s.events.now s.count t.list, t.events)

pub split_into-requires-clause-count_in_bounds_2 : goal.split_into-requires-clause-count_in_bounds_2
split_into-requires-clause-count_in_bounds_2 c =
    let s = c.args in
    let t = accepted (length s.store.now) s.events.now s.count (length s.out.now) (sym c.in-Ok.ensures.0) in
    omega (arith, t.room, length-rows_of s.out.now)

pub returns-in-Ok : goal.returns-in-Ok
returns-in-Ok c =
    let s = c.args in
    done-is (length s.store.now) s.events.now s.count s.out.now 0 0 c.in-Ok.ensures.0 refl
    c.split_into.result c.split_into.ensures.0 c.split_into.new.out c.split_into.auto.out c.split_into.ensures.1
