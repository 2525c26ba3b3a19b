-- `turn_notes` lays the turned lists over those of the table (the law Over), one a turn.
use Rattle.std.proofs.Common.{rules, ◌≡◌, ℕ, ◌+◌, ◌<◌, ◌≤◌, take, List, map, length, get_or, sym, ap, ◌∙◌, arith}
use mathlib.Core.Path.{ap₂}
use lib.ListN.{set, length-map, get_or-map}
use lib.Seq.{length-take-le}
use Rattle.laws.proofs.Over.{over-more}
use Rattle.laws.proofs.Reading.{length-told, read_behind}
use Rattle.numbers.specs.Limits.{places}
use Rattle.tables.specs.declared.OnNoteValues.{OnNoteValues}
use Rattle.drawing.specs.Options.{turned, notes_turned}
use Rattle.drawing.proofs.turn_notes.Invariants.{done}
use Rattle.drawing.proofs.turn_notes.Goals as goal

-- what stands at i is still that of l
still : (f : OnNoteValues → OnNoteValues) (l : List OnNoteValues) (i : ℕ) (d : OnNoteValues) → i < length l → get_or (done f l i) i d ≡ get_or l i d
still f l i d h = let m : i ≤ length (map f l) = rw (length-map l f) (omega (arith, h)) in read_behind (take i (map f l)) l i d (length-take-le i (map f l) m) h

one_more : (f : OnNoteValues → OnNoteValues) (l m : List OnNoteValues) (i : ℕ) (d x : OnNoteValues) → i < length l → m ≡ done f l i → x ≡ f (get_or m i d) → set m i x ≡ done f l (i + 1)
one_more f l m i d x h e q =
    rw (e, q ∙ ap f (ap (λ (y : List OnNoteValues). get_or y i d) e ∙ still f l i d h) ∙ sym (get_or-map f l i d)) (over-more l (map f l) i (f d) h (rw (length-map l f) h))

pub loop-i-preserved : goal.loop-i-preserved
loop-i-preserved c =
    let a = c.args in
    let e : length a.table.items ≡ places = search (rules, length-told) in
    (c.loop-i.invariant.0, one_more (turned a.k a.on) a.table.items c.loop-i.table.items c.loop-i.i _ c.turn.result (omega (arith, c.loop-i-test.true, c.requires)) c.loop-i.invariant.1 c.turn.ensures)

pub returns : goal.returns
unfolding notes_turned
returns c =
    let a = c.args in
    let e : c.loop-i.i ≡ a.table.count = search rules in
    ap₂ (λ (n : ℕ) (x : List OnNoteValues). record { count = n; items = x }) c.loop-i.invariant.0
    (c.loop-i.invariant.1 ∙ ap (done (turned a.k a.on) a.table.items) e)
