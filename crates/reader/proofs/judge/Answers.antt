-- `judge` meets its contract: the tests in their order (Refusing), the later ones by what one pass over the body has seen.
use mathlib.Core.Bool.{not}
use mathlib.Core.Path.{◌≡◌, sym, ap, ◌∙◌}
use mathlib.Core.List.{List}
use Prim.Native.Nat.{ℕ, ◌-◌}
use native.Mathlib.Omega.{arith}
use lib.ListN.{length, take, drop}
use Rattle.laws.specs.Lists.{all}
use Rattle.laws.proofs.Bools.{not-not}
use Rattle.eventlist.proofs.EventRows.{length-rows_of}
use Rattle.chunks.specs.Writing.{head_bytes}
use Rattle.chunks.specs.Reader.{read_body}
use Rattle.reader.specs.declared.Outline.{Outline}
use Rattle.reader.specs.Reading.{kept_in, read_of, events_in, timely}
use Rattle.reader.specs.Steps.{outlined}
use Rattle.reader.proofs.Refusing.{chunk-fits, behind-head, no-list, no_chunk, faulty, no_room, too-late, well-read}
use Rattle.reader.proofs.judge.Goals as goal

-- what the pass over the body has seen
module _ (b : List ℕ) (o : Outline) (e : o ≡ outlined (read_body kept_in (take (length b - head_bytes) (drop head_bytes b)))) where
  seen : o ≡ outlined (read_of b)
  unfolding read_of
  seen = e ∙ ap (λ (k : List ℕ). outlined (read_body kept_in k)) (behind-head b)

  code_is : o.code ≡ (read_of b).code
  unfolding outlined
  code_is = ap (λ (r : Outline). r.code) seen

  kept-is : o.kept ≡ length (events_in b)
  unfolding outlined
  kept-is = ap (λ (r : Outline). r.kept) seen

  late_is : not o.late ≡ all timely (events_in b)
  unfolding outlined
  late_is = ap (λ (r : Outline). not r.late) seen ∙ not-not (all timely (events_in b))

pub returns-then-not-list_ok : goal.returns-then-not-list_ok
returns-then-not-list_ok c =
    let a = c.args in
    c.refuse.ensures ∙ no-list a.chunk.now a.events.now a.count (sym c.list_ok.ensures ∙ c.if-not-list_ok.true)

pub returns-then-not-is_chunk : goal.returns-then-not-is_chunk
returns-then-not-is_chunk c =
    let a = c.args in
    let listed = sym c.list_ok.ensures ∙ c.if-not-list_ok.false in
    c.refuse-then-not-is_chunk.ensures ∙ no_chunk a.chunk.now a.events.now a.count listed (sym c.is_chunk.ensures ∙ c.if-not-is_chunk.true)

pub slice_bounds-look_over-count : goal.slice_bounds-look_over-count
slice_bounds-look_over-count c =
    (chunk-fits c.args.chunk.now (sym c.is_chunk.ensures ∙ c.if-not-is_chunk.false) (λ i. omega (arith, c.type_inv.chunk i))).0

pub slice_bounds-look_over-start : goal.slice_bounds-look_over-start
slice_bounds-look_over-start c =
    (chunk-fits c.args.chunk.now (sym c.is_chunk.ensures ∙ c.if-not-is_chunk.false) (λ i. omega (arith, c.type_inv.chunk i))).0

pub look_over-o-requires : goal.look_over-o-requires
look_over-o-requires c =
    let b = c.args.chunk.now in
    rw (behind-head b) (chunk-fits b (sym c.is_chunk.ensures ∙ c.if-not-is_chunk.false) (λ i. omega (arith, c.type_inv.chunk i))).1

pub returns-then-o-ne0 : goal.returns-then-o-ne0
returns-then-o-ne0 c =
    let a = c.args in
    let b = a.chunk.now in
    let listed = sym c.list_ok.ensures ∙ c.if-not-list_ok.false in
    let chunked = sym c.is_chunk.ensures ∙ c.if-not-is_chunk.false in
    let code = code_is b c.look_over-o.result c.look_over-o.ensures in
    c.refuse-then-o-ne0.ensures
    ∙ ap (λ (i : ℕ). record { code = i; count = a.count }) code
    ∙ faulty b a.events.now a.count listed chunked (λ h. c.if-o-ne0.true (code ∙ h))

pub returns-then-events-o : goal.returns-then-events-o
returns-then-events-o c =
    let a = c.args in
    let b = a.chunk.now in
    let l = a.events.now in
    let o = c.look_over-o.result in
    let listed = sym c.list_ok.ensures ∙ c.if-not-list_ok.false in
    let chunked = sym c.is_chunk.ensures ∙ c.if-not-is_chunk.false in
    let well = sym (code_is b o c.look_over-o.ensures) ∙ c.if-o-ne0.false in
    c.refuse-then-events-o.ensures
    ∙ no_room b l a.count listed chunked well (omega (arith, kept-is b o c.look_over-o.ensures, c.if-events-o.true, length-rows_of l))

pub returns-then-o : goal.returns-then-o
returns-then-o c =
    let a = c.args in
    let b = a.chunk.now in
    let l = a.events.now in
    let o = c.look_over-o.result in
    let e = c.look_over-o.ensures in
    let listed = sym c.list_ok.ensures ∙ c.if-not-list_ok.false in
    let chunked = sym c.is_chunk.ensures ∙ c.if-not-is_chunk.false in
    let well = sym (code_is b o e) ∙ c.if-o-ne0.false in
    c.refuse-then-o.ensures
    ∙ too-late b l a.count listed chunked well (omega (arith, kept-is b o e, c.if-events-o.false, length-rows_of l)) (sym (late_is b o e) ∙ ap not c.if-o.true)

pub returns : goal.returns
returns c =
    let a = c.args in
    let b = a.chunk.now in
    let l = a.events.now in
    let o = c.look_over-o.result in
    let e = c.look_over-o.ensures in
    let listed = sym c.list_ok.ensures ∙ c.if-not-list_ok.false in
    let chunked = sym c.is_chunk.ensures ∙ c.if-not-is_chunk.false in
    let well = sym (code_is b o e) ∙ c.if-o-ne0.false in
    ap (λ (i : ℕ). record { code = 0; count = i }) (kept-is b o e)
    ∙ well-read b l a.count listed chunked well (omega (arith, kept-is b o e, c.if-events-o.false, length-rows_of l)) (sym (late_is b o e) ∙ ap not c.if-o.false)
