-- `keep` meets its contract: of the first i the n that are kept stand shifted in front (`Moving`), and what is cleared at
-- the end makes it whole (`settled`).
use mathlib.Core.Bool.{Bool, not}
use mathlib.Core.Path.{◌≡◌, sym, ap, ◌∙◌}
use mathlib.Core.List.{List}
use Prim.Native.Nat.{ℕ, ◌≤◌}
use native.Mathlib.Omega.{arith}
use lib.IntN.{ℤ}
use lib.ListN.{length, get_or, set}
use Rattle.laws.proofs.Every.{all-below}
use Rattle.events.specs.declared.Event.{Event}
use Rattle.events.specs.Events.{zero_event}
use Rattle.eventlist.specs.Rows.{rows_of}
use Rattle.eventlist.proofs.EventRows.{same_rows}
use Rattle.cutting.specs.declared.Cut.{Cut}
use Rattle.cutting.specs.Cuts.{keeps, shifted}
use Rattle.cutting.specs.Passes.{sound}
use Rattle.laws.proofs.Moving.{Moving, n-le, still, pass, move, settled, changed, changed-few, changed-pass, changed-move}
use Rattle.cutting.proofs.Stored.{sound-time}
use Rattle.cutting.proofs.keep.Goals.{then-is_kept, else-is_kept}
use Rattle.cutting.proofs.keep.Goals as goal

abbrev out : Cut → Event → Bool
out c e = not (keeps c e)

-- what is kept of the first
abbrev front : Cut → List ℤ → ℕ → List Event
front c l₀ = changed zero_event (shifted c) (out c) (rows_of l₀)

module _ (c : Cut) {l₀ l : List ℤ} {count i n : ℕ} (v : Moving rows_of zero_event (front c l₀) l₀ l count i n) (fit : count ≤ length (rows_of l₀)) where
  few : length (front c l₀ i) ≤ i
  few = changed-few zero_event (shifted c) (out c) (rows_of l₀) i (let w = v.within in omega arith)

  n-at : n ≤ i
  n-at = n-le rows_of zero_event (front c l₀) l₀ l count i n v few fit

  -- the record that is read is the original
  original : get_or (rows_of l) i zero_event ≡ get_or (rows_of l₀) i zero_event
  original = still rows_of zero_event (front c l₀) l₀ l count i n v few fit

pub shift-requires : goal.shift-requires
shift-requires c =
    let rows = rows_of c.args.events.now in (
      c.requires.1.0,
      rw (c.read_event-e.ensures ∙ original c.args.c c.loop-i.invariant c.requires.0)
          (sound-time (get_or rows c.loop-i.i zero_event) (all-below sound rows c.args.count c.loop-i.i zero_event c.requires.1.1 (omega arith) c.requires.0)),
    )

pub write_event-requires : goal.write_event-requires
write_event-requires c =
    let n = n-at c.args.c c.loop-i.invariant c.requires.0 in
    let h = c.requires.0 in
    omega (arith, same_rows c.loop-i.events c.args.events.now c.loop-i.invariant.long)

pub overflow_add-n : goal.overflow_add-n
overflow_add-n c = omega (arith, n-at c.args.c c.loop-i.invariant c.requires.0)

pub loop-i-preserved : goal.loop-i-preserved
loop-i-preserved c =
    let l₀ = c.args.events.now in
    let k = c.args.c in
    let v = c.loop-i.invariant in
    let o = c.read_event-e.ensures ∙ original k v c.requires.0 in
    elim c.if-is_kept.branch [
      | then-is_kept w ↦
          rw (w.events-is, w.n-is)
          (move rows_of zero_event (front k l₀) l₀ c.loop-i.events c.args.count c.loop-i.i c.loop-i.n v (few k v c.requires.0) c.requires.0 (omega arith)
          (shifted k (get_or (rows_of l₀) c.loop-i.i zero_event))
          (changed-move zero_event (shifted k) (out k) (rows_of l₀) c.loop-i.i (let p = c.requires.0 in omega arith)
          (ap not (sym (ap (keeps k) o) ∙ sym c.is_kept.ensures ∙ w.if-is_kept.true)))
          w.write_event.new.events w.write_event.auto.events
          (w.write_event.ensures ∙ ap (λ (x : Event). set (rows_of c.loop-i.events) c.loop-i.n x) (w.shift.ensures ∙ ap (shifted k) o)))
      | else-is_kept w ↦
          rw (w.events-is, w.n-is)
          (pass rows_of zero_event (front k l₀) l₀ c.loop-i.events c.args.count c.loop-i.i c.loop-i.n v (few k v c.requires.0) c.requires.0 (omega arith)
          (changed-pass zero_event (shifted k) (out k) (rows_of l₀) c.loop-i.i (let p = c.requires.0 in omega arith)
          (ap not (sym (ap (keeps k) o) ∙ sym c.is_kept.ensures ∙ w.if-is_kept.false))))
    ]

pub clear_from-requires : goal.clear_from-requires
clear_from-requires c =
    let n = n-at c.args.c c.loop-i.invariant c.requires.0 in
    let rows = same_rows c.loop-i.events c.args.events.now c.loop-i.invariant.long in
    let h = c.requires.0 in
    (omega arith, omega arith)

pub returns : goal.returns
returns c =
    let v = c.loop-i.invariant in
    let all : c.loop-i.i ≡ c.args.count = omega arith in
    let n : c.loop-i.n ≡ length (front c.args.c c.args.events.now c.args.count) = v.counted ∙ ap (λ (i : ℕ). length (front c.args.c c.args.events.now i)) all in (
      n,
      settled rows_of zero_event (front c.args.c c.args.events.now) c.args.events.now c.loop-i.events c.args.count c.loop-i.i c.loop-i.n v (few c.args.c v c.requires.0) c.requires.0 (omega arith)
          c.clear_from.new.events c.clear_from.ensures,
    )
