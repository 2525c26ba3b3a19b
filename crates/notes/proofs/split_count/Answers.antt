-- `split_count` meets its contract: n is what comes of the first i events.
use mathlib.Core.Bool.{Bool, true, false}
use mathlib.Core.List.{List}
use mathlib.Core.Path.{◌≡◌, refl, sym}
use Prim.Native.Nat.{ℕ, ◌+◌, ◌≤◌, ◌<◌}
use native.Mathlib.Omega.{arith}
use lib.ListN.{length, take, get_or}
use lib.Seq.{length-take-le}
use mir.Val.{bool_byte}
use Rattle.events.specs.declared.Event.{Event}
use Rattle.events.specs.Events.{zero_event}
use Rattle.eventlist.specs.Rows.{rows_of}
use Rattle.eventlist.proofs.EventRows.{length-rows_of}
use Rattle.notes.specs.Notes.{is_note, split_notes}
use Rattle.notes.proofs.Splitting.{short, count-note, count-plain}
use Rattle.notes.proofs.split_count.Goals as goal

-- one event more, and its end if it is a note
more : (r : List Event) (i n : ℕ) (e : Event) (t : Bool) → i < length r → n ≡ length (split_notes (take i r)) → e ≡ get_or r i zero_event → t ≡ is_note e → n + (1 + bool_byte t) ≡ length (split_notes (take (i + 1) r))
more r i n e true h q p k = let c = count-note r i n h q e p (sym k) in omega arith
more r i n e false h q p k = let c = count-plain r i n h q e p (sym k) in omega arith

byte : (t : Bool) → bool_byte t ≤ 1
byte true = omega arith
byte false = omega arith

pub loop-i-init : goal.loop-i-init
unfolding split_notes
loop-i-init c = refl

pub overflow_add-n : goal.overflow_add-n
overflow_add-n c = omega (arith, byte c.is_note.result)

pub overflow_add-n-in-loop-i : goal.overflow_add-n-in-loop-i
overflow_add-n-in-loop-i c =
    let r = rows_of c.args.events.now in
    let t = length-take-le c.loop-i.i r (omega arith) in
    omega (arith, short (take c.loop-i.i r), byte c.is_note.result, length-rows_of c.args.events.now)

pub loop-i-preserved : goal.loop-i-preserved
loop-i-preserved c =
    rw c.from.ensures
    (more (rows_of c.args.events.now) c.loop-i.i c.loop-i.n c.read_event.result c.is_note.result (omega arith) c.loop-i.invariant c.read_event.ensures c.is_note.ensures)

pub returns : goal.returns
returns c =
    let i : c.loop-i.i ≡ c.args.count = omega arith in
    rw i at c.loop-i.invariant
