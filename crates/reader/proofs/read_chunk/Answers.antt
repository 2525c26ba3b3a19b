-- `read_chunk` meets its contract: where nothing is refused (Refusing) the events are laid at the front, and what falls vacant behind them is cleared (Passes).
use borrow.Author.Rules.{rules}
use mathlib.Core.Path.{◌≡◌, sym, ap, ap₂, ◌∙◌}
use mathlib.Core.List.{List}
use Prim.Native.Nat.{ℕ, ◌-◌}
use native.Mathlib.Omega.{arith}
use borrow.Author.Tests.{ne_eqb}
use lib.IntN.{ℤ}
use lib.ListN.{length, take, drop}
use Rattle.laws.specs.Lists.{put_first}
use Rattle.text.specs.Laying.{laid}
use Rattle.text.proofs.Laying.{laid-long}
use Rattle.events.specs.declared.Event.{Event}
use Rattle.events.specs.Events.{zero_event}
use Rattle.eventlist.specs.declared.Taken.{Taken}
use Rattle.eventlist.specs.Rows.{rows_of}
use Rattle.eventlist.proofs.EventRows.{determined}
use Rattle.eventlist.proofs.Sound.{list-within, list-whole}
use Rattle.chunks.specs.Writing.{head_bytes}
use Rattle.chunks.specs.Reader.{read_body}
use Rattle.reader.specs.Reading.{kept_in, read_of, events_in, read_refusal, read_taken, read_left}
use Rattle.reader.proofs.Refusing.{chunk-fits, behind-head, Accepted, accepted}
use Rattle.reader.proofs.Passes.{none-vacant, cleared-behind}
use Rattle.reader.proofs.read_chunk.Goals as goal

-- of a chunk, a list and a count, with what was answered
module _ (b : List ℕ) (l : List ℤ) (n : ℕ) (r : Taken) (e : r ≡ read_taken b l n) where
  code_is : r.code ≡ read_refusal b l n
  code_is = ap (λ (t : Taken). t.code) e

  -- nothing is refused
  module _ (z : r.code ≡ 0) where
    none : read_refusal b l n ≡ 0
    none = sym code_is ∙ z

    well : Accepted b l n
    well = accepted b l n none

    count-is : r.count ≡ length (events_in b)
    count-is = ap (λ (t : Taken). t.count) e ∙ rw none

    -- what makes the list as it is promised
    promised : (x : List ℤ) → length x ≡ length l → rows_of x ≡ put_first zero_event n (events_in b) (rows_of l) → x ≡ read_left b l n
    promised x h k = determined l x _ (list-whole l n well.list) h k ∙ rw none

-- the events are laid
laid-now : (b : List ℕ) (x l : List ℤ) → rows_of x ≡ laid 0 (read_body kept_in (take (length b - head_bytes) (drop head_bytes b))).kept (rows_of l)
    → rows_of x ≡ laid 0 (events_in b) (rows_of l)
unfolding read_of
laid-now b x l e = e ∙ ap (λ (k : List ℕ). laid 0 (read_body kept_in k).kept (rows_of l)) (behind-head b)

pub returns-then-answer-ne0 : goal.returns-then-answer-ne0
returns-then-answer-ne0 c =
    let a = c.args in
    let e = c.judge-answer.ensures in
    let code = code_is a.chunk.now a.events.now a.count c.judge-answer.result e in
    let k = ne_eqb (read_refusal a.chunk.now a.events.now a.count) 0 (λ h. c.if-answer-ne0.true (code ∙ h)) in
    (e, rw k)

pub slice_bounds-fill-count : goal.slice_bounds-fill-count
slice_bounds-fill-count c =
    let a = c.args in
    let w = well a.chunk.now a.events.now a.count c.judge-answer.result c.judge-answer.ensures c.if-answer-ne0.false in
    (chunk-fits a.chunk.now w.chunk (λ i. omega (arith, c.type_inv.chunk i))).0

pub slice_bounds-fill-start : goal.slice_bounds-fill-start
slice_bounds-fill-start c =
    let a = c.args in
    let w = well a.chunk.now a.events.now a.count c.judge-answer.result c.judge-answer.ensures c.if-answer-ne0.false in
    (chunk-fits a.chunk.now w.chunk (λ i. omega (arith, c.type_inv.chunk i))).0

pub fill-requires : goal.fill-requires
unfolding read_of
fill-requires c =
    let a = c.args in
    let w = well a.chunk.now a.events.now a.count c.judge-answer.result c.judge-answer.ensures c.if-answer-ne0.false in
    rw (behind-head a.chunk.now) ((chunk-fits a.chunk.now w.chunk (λ i. omega (arith, c.type_inv.chunk i))).1, w.room)

pub clear_from-requires : goal.clear_from-requires
clear_from-requires c =
    let a = c.args in
    let b = a.chunk.now in
    let l = a.events.now in
    let w = well b l a.count c.judge-answer.result c.judge-answer.ensures c.if-answer-ne0.false in
    let now = laid-now b c.fill.new.events l c.fill.ensures in
    let long = ap length now ∙ laid-long 0 (events_in b) (rows_of l) (omega (arith, w.room)) in
    (omega (arith, c.if-answer-count.true), omega (arith, long, list-within l a.count w.list))

pub returns-then-answer-count : goal.returns-then-answer-count
returns-then-answer-count c =
    let a = c.args in
    let b = a.chunk.now in
    let l = a.events.now in
    let e = c.judge-answer.ensures in
    let z = c.if-answer-ne0.false in
    let m = count-is b l a.count c.judge-answer.result e z in
    let now = laid-now b c.fill.new.events l c.fill.ensures in
    let put =
    c.clear_from.ensures
    ∙ ap₂ (λ (i : ℕ) (r : List Event). put_first zero_event a.count (take i r) r) m now
    ∙ cleared-behind zero_event a.count (events_in b) (rows_of l) (omega (arith, m, c.if-answer-count.true)) in
    (e, promised b l a.count c.judge-answer.result e z c.clear_from.new.events (search rules) put)

pub returns-else-answer-count : goal.returns-else-answer-count
returns-else-answer-count c =
    let a = c.args in
    let b = a.chunk.now in
    let l = a.events.now in
    let e = c.judge-answer.ensures in
    let z = c.if-answer-ne0.false in
    let m = count-is b l a.count c.judge-answer.result e z in
    let now = laid-now b c.fill.new.events l c.fill.ensures in
    let put = now ∙ none-vacant zero_event a.count (events_in b) (rows_of l) (omega (arith, m, c.if-answer-count.false)) in
    (e, promised b l a.count c.judge-answer.result e z c.fill.new.events (search rules) put)
