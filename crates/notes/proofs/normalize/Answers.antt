-- `normalize` meets its contract, as `split_note_off` does, in the list itself.
use Rattle.std.proofs.Common.{refl, sym, length, arith}
use Rattle.eventlist.proofs.EventRows.{length-rows_of}
use Rattle.eventlist.proofs.Sound.{list-within}
use Rattle.notes.proofs.Refusing.{accepted, done-is}
use Rattle.notes.proofs.normalize.Goals as goal

pub split_in_place-requires-clause-count_in_bounds : goal.split_in_place-requires-clause-count_in_bounds
split_in_place-requires-clause-count_in_bounds c =
    let s = c.args in
    let t = accepted (length s.store.now) s.events.now s.count (length s.events.now) (sym c.in-Ok.ensures.0) in
    (list-within s.events.now s.count t.list, t.events)

pub split_in_place-requires-clause-total_value : goal.split_in_place-requires-clause-total_value
split_in_place-requires-clause-total_value c =
    let s = c.args in
    let t = accepted (length s.store.now) s.events.now s.count (length s.events.now) (sym c.in-Ok.ensures.0) in
    (c.in-Ok.ensures.1, omega (arith, t.room, c.in-Ok.ensures.1, length-rows_of s.events.now))

pub returns-in-Ok : goal.returns-in-Ok
returns-in-Ok c =
    let s = c.args in
    done-is (length s.store.now) s.events.now s.count s.events.now s.count 0 c.in-Ok.ensures.0 refl
    c.in-Ok.total c.in-Ok.ensures.1 c.split_in_place.new.events c.split_in_place.auto.events c.split_in_place.ensures
