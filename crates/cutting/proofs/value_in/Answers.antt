-- `value_in` meets its contract: what was passed from the end has no say, so that the value is that of the first i.
use mathlib.Core.Bool.{Bool, cond}
use mathlib.Core.List.{List}
use mathlib.Core.Path.{◌≡◌, sym, ap, ◌∙◌}
use Prim.Native.Nat.{ℕ, ◌-◌, ◌<◌, ◌≤◌}
use native.Mathlib.Omega.{arith}
use lib.ListN.{get_or, take, length}
use mir.Syntax.{w64}
use Rattle.laws.proofs.Fitting.{back}
use Rattle.events.specs.declared.Event.{Event}
use Rattle.events.specs.Events.{zero_event}
use Rattle.eventlist.specs.Rows.{rows_of}
use Rattle.cutting.specs.declared.Asked.{Asked}
use Rattle.cutting.specs.Value.{default_of, speaks, cc_value}
use Rattle.cutting.proofs.Lasts.{last_less}
use Rattle.cutting.proofs.value_in.Goals as goal

-- the value among the first i, by what the test of record i - 1, which is e, says
told : (a : Asked) (rows : List Event) (i : ℕ) (e : Event) (t : Bool) → 0 < i → i ≤ length rows
    → e ≡ get_or rows (i - 1) zero_event → speaks a e ≡ t → cc_value a (take i rows) ≡ cond t e.v2 (cc_value a (take (i - 1) rows))
told a rows i e t z h is q =
    last_less (speaks a) (λ x. x.v2) (default_of a.number) rows i zero_event z h
    ∙ ap (λ (x : Event). cond (speaks a x) x.v2 (cc_value a (take (i - 1) rows))) (sym is)
    ∙ ap (λ (b : Bool). cond b e.v2 (cc_value a (take (i - 1) rows))) q

pub returns-then-is_asked : goal.returns-then-is_asked
returns-then-is_asked c =
    back w64 c.read_event-e.result.v2 (omega arith)
    ∙ sym (c.loop-i.invariant
    ∙ told c.args.a (rows_of c.args.events.now) c.loop-i.i c.read_event-e.result _ (omega arith) (omega arith) c.read_event-e.ensures
    (sym c.is_asked.ensures ∙ c.if-is_asked.true))

pub loop-i-preserved : goal.loop-i-preserved
loop-i-preserved c = (
    c.loop-i.invariant
    ∙ told c.args.a (rows_of c.args.events.now) c.loop-i.i c.read_event-e.result _ (omega arith) (omega arith) c.read_event-e.ensures
    (sym c.is_asked.ensures ∙ c.if-is_asked.false))
