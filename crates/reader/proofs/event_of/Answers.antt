-- `event_of` meets its contract: each status that is kept has its event (Kept).
use Rattle.reader.proofs.Kept.{tells-end, tells-note, tells-control, tells-voice, tells-bend}
use Rattle.reader.proofs.event_of.Goals as goal

pub returns-in-8 : goal.returns-in-8
returns-in-8 c =
    let a = c.args in
    rw c.plain.ensures (tells-end a.f.status a.time a.f.first a.f.second c.in-8.is)

pub returns-in-9 : goal.returns-in-9
returns-in-9 c =
    let a = c.args in
    rw c.note.ensures (tells-note a.f.status a.time a.f.first a.f.second c.in-9.is)

pub returns-in-11 : goal.returns-in-11
returns-in-11 c =
    let a = c.args in
    rw c.plain-in-11.ensures (tells-control a.f.status a.time a.f.first a.f.second c.in-11.is)

pub returns-in-12 : goal.returns-in-12
returns-in-12 c =
    let a = c.args in
    rw c.plain-in-12.ensures (tells-voice a.f.status a.time a.f.first a.f.second c.in-12.is)

pub returns-in_default : goal.returns-in_default
returns-in_default c =
    let a = c.args in
    let r = c.in_default.in_default-own.rest in
    rw (c.plain-in_default.ensures, c.joined.ensures.0)
    (tells-bend a.f.status a.time a.f.first a.f.second r.0.0.0.1 r.0.0.1 r.0.1 r.1)
