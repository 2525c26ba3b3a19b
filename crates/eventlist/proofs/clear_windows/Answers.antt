-- `clear_windows` meets its contract: of the first n + gone the n that are kept stand in front (`Compacting`), those behind the first
-- taken one moved there; the loop begins behind that one (`begun`) and, while one is left to be taken (`some-ahead`), moves the stretch
-- before it (`step-stretch`); what is left then moves as a stretch too (`stretched`); what is cleared at the end makes it whole (`closed`).
use mathlib.Core.List.{List}
use Rattle.std.proofs.Common.{◌≢◌}
use mathlib.Core.Path.{◌≡◌, refl, sym, ap, ◌∙◌, subst}
use Prim.Native.Nat.{ℕ, ◌+◌, ◌-◌, ◌≤◌, ◌<◌}
use native.Mathlib.Omega.{arith}
use lib.IntN.{ℤ}
use lib.ListN.{length, drop}
use lib.Seq.{paste}
use Rattle.laws.proofs.Taking.{Compacting, closed, begun, some-ahead, step-stretch, stretched}
use Rattle.laws.specs.Moves.{in_front}
use Rattle.eventlist.specs.declared.Window.{Window}
use Rattle.eventlist.specs.declared.Seen.{Seen}
use Rattle.events.specs.Events.{zero_event}
use Rattle.eventlist.specs.Rows.{rows_of, events_of}
use Rattle.eventlist.specs.Windows.{taken_by_any}
use Rattle.eventlist.specs.Clearing.{Surveyed}
use Rattle.eventlist.proofs.EventRows.{same_rows}
use Rattle.eventlist.proofs.Clearing.{first-within, some-taken, untouched, counted-moves}
use Rattle.eventlist.proofs.clear_windows.Goals as goal

-- while the loop runs, and when it has ended
module _ (ws : List Window) (l₀ l : List ℤ) (count n gone : ℕ) (seen : Seen) (fit : count ≤ length (rows_of l₀)) (sv : Surveyed ws l₀ count seen)
    (v : Compacting rows_of zero_event (taken_by_any ws) l₀ l count (n + gone) n) where
  abbrev many : ℕ
  many = in_front (taken_by_any ws) (drop (n + gone) (events_of l count))

  -- as many records as at entry
  rows_at : length (rows_of l) ≡ length (rows_of l₀)
  rows_at = same_rows l l₀ v.long

  ahead : gone < seen.taken → n + gone + many < count
  ahead h = some-ahead rows_of zero_event (taken_by_any ws) l₀ l count (n + gone) n v fit seen.taken sv.taken (omega arith)

  further : (next : ℕ) (l' : List ℤ) → gone < seen.taken → next ≡ n + gone + many → length l' ≡ length l
      → rows_of l' ≡ paste (rows_of l) n (drop (n + gone) (rows_of l)) (next - (n + gone))
      → Compacting rows_of zero_event (taken_by_any ws) l₀ l' count (n + (next - (n + gone)) + (gone + 1)) (n + (next - (n + gone)))
  further next l' h e long moved =
      let between : next - (n + gone) ≡ many = omega arith in
      let there : n + gone + many + 1 ≡ n + (next - (n + gone)) + (gone + 1) = omega arith in
      let Then : ℕ → ℕ → Type 0 = λ (i k : ℕ). Compacting rows_of zero_event (taken_by_any ws) l₀ l' count i (n + k) in
      let got : Then (n + gone + many + 1) many =
      step-stretch rows_of zero_event (taken_by_any ws) l₀ l count (n + gone) n v fit many refl (ahead h) l' long
      (moved ∙ ap (paste (rows_of l) n (drop (n + gone) (rows_of l))) between) in
      subst (λ (i : ℕ). Then i (next - (n + gone))) there (subst (Then (n + gone + many + 1)) (sym between) got)

  module _ (some : seen.first < count) (past : seen.taken ≤ gone) (within : 1 ≤ seen.taken → gone ≤ seen.taken) where
    at-end : Compacting rows_of zero_event (taken_by_any ws) l₀ l count (n + seen.taken) n
    at-end =
        let all : gone ≡ seen.taken = omega (arith, within (some-taken ws l₀ count fit seen sv some)) in
        subst (λ (k : ℕ). Compacting rows_of zero_event (taken_by_any ws) l₀ l count (n + k) n) all v

    -- the rest has moved down
    compacted : (l' : List ℤ) → length l' ≡ length l → rows_of l' ≡ paste (rows_of l) n (drop (n + seen.taken) (rows_of l)) (count - (n + seen.taken))
        → Compacting rows_of zero_event (taken_by_any ws) l₀ l' count count (n + (count - (n + seen.taken)))
    compacted l' long moved =
        stretched rows_of zero_event (taken_by_any ws) l₀ l count (n + seen.taken) n at-end fit seen.taken sv.taken (omega arith) l' long moved

-- some event is taken
some : (ws : List Window) (l : List ℤ) (count : ℕ) (seen : Seen) → count ≤ length (rows_of l) → Surveyed ws l count seen → seen.first ≢ count → seen.first < count
some ws l count seen fit sv ne = let f = first-within ws l count fit seen sv in omega arith

pub returns-then-first-count : goal.returns-then-first-count
returns-then-first-count c =
    untouched c.args.windows.now c.args.events.now c.args.count c.requires.0 c.args.seen c.requires.1 c.if-first-count.true

pub loop-gone-init : goal.loop-gone-init
loop-gone-init c =
    let f = first-within c.args.windows.now c.args.events.now c.args.count c.requires.0 c.args.seen c.requires.1 in
    let d = c.if-first-count.false in
    (begun rows_of zero_event (taken_by_any c.args.windows.now) c.args.events.now c.args.count c.args.seen.first c.requires.0 c.requires.1.first (omega arith), omega arith)

pub overflow_add-i : goal.overflow_add-i
overflow_add-i c = let w = c.loop-gone.invariant.0.within in omega arith

pub next_taken-next-requires : goal.next_taken-next-requires
next_taken-next-requires c =
    let v = c.loop-gone.invariant.0 in
    let r = same_rows c.loop-gone.events c.args.events.now v.long in
    (v.within, omega (arith, c.requires.0), c.span_of-span.ensures)

pub move_down-moved-requires : goal.move_down-moved-requires
move_down-moved-requires c =
    let v = c.loop-gone.invariant.0 in
    let r = same_rows c.loop-gone.events c.args.events.now v.long in
    let a = ahead c.args.windows.now c.args.events.now c.loop-gone.events c.args.count c.loop-gone.n c.loop-gone.gone c.args.seen c.requires.0 c.requires.1 v c.loop-gone-test.true in
    (omega (arith, c.loop-gone.auto.gone), omega (arith, c.requires.0, c.next_taken-next.ensures))

pub loop-gone-preserved : goal.loop-gone-preserved
loop-gone-preserved c =
    let v = c.loop-gone.invariant.0 in (
      further c.args.windows.now c.args.events.now c.loop-gone.events c.args.count c.loop-gone.n c.loop-gone.gone c.args.seen c.requires.0 c.requires.1 v
          c.next_taken-next.result c.move_down-moved.new.events c.loop-gone-test.true c.next_taken-next.ensures c.move_down-moved.auto.events c.move_down-moved.ensures.1,
      omega (arith, c.loop-gone.invariant.1, c.move_down-moved.ensures.0),
    )

pub move_down-moved-requires-2 : goal.move_down-moved-requires-2
move_down-moved-requires-2 c =
    let s = some c.args.windows.now c.args.events.now c.args.count c.args.seen c.requires.0 c.requires.1 c.if-first-count.false in
    let k = some-taken c.args.windows.now c.args.events.now c.args.count c.requires.0 c.args.seen c.requires.1 s in
    let e =
    at-end c.args.windows.now c.args.events.now c.loop-gone.events c.args.count c.loop-gone.n c.loop-gone.gone c.args.seen c.requires.0 c.requires.1 c.loop-gone.invariant.0 s
    c.loop-gone-test.false c.loop-gone.auto.gone-end in
    let r = same_rows c.loop-gone.events c.args.events.now e.long in
    (omega arith, omega (arith, c.requires.0, e.within))

pub returns : goal.returns
returns c =
    let s = some c.args.windows.now c.args.events.now c.args.count c.args.seen c.requires.0 c.requires.1 c.if-first-count.false in
    let k =
    compacted c.args.windows.now c.args.events.now c.loop-gone.events c.args.count c.loop-gone.n c.loop-gone.gone c.args.seen c.requires.0 c.requires.1 c.loop-gone.invariant.0 s
    c.loop-gone-test.false c.loop-gone.auto.gone-end c.move_down-moved-2.new.events c.move_down-moved-2.auto.events c.move_down-moved-2.ensures.1 in (
      counted-moves c.args.windows.now c.args.events.now c.args.count c.requires.0 c.args.seen c.requires.1 _ _ k.counted (omega (arith, c.loop-gone.invariant.1, c.move_down-moved-2.ensures.0)),
      closed rows_of zero_event (taken_by_any c.args.windows.now) c.args.events.now c.move_down-moved-2.new.events c.args.count c.args.count _ k c.requires.0 (omega arith) c.clear_from.new.events c.clear_from.ensures,
    )
