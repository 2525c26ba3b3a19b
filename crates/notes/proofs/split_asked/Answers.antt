-- `split_asked` meets its contract: the tests in their order (Refusing).
use Rattle.std.proofs.Common.{◌≡◌, refl, sym, ◌∙◌, ℕ, ◌%◌, ◌/◌, ◌≤◌, Bool, true, List, ℤ, length, Ok, arith}
use Rattle.std.proofs.lemmas.Result.{err_from_is_err_and}
use lib.Dec.{eqb}
use borrow.Author.Tests.{leb-true, leb-false}
use Rattle.laws.proofs.Ranges.{left}
use Rattle.laws.proofs.Tests.{both}
use Rattle.numbers.specs.declared.refusals.Refusal.{Refusal}
use Rattle.numbers.specs.Refusals.{asked}
use Rattle.numbers.proofs.Tested.{denied, granted}
use Rattle.eventlist.specs.Rows.{record_width, rows_of}
use Rattle.eventlist.specs.Sound.{is_list}
use Rattle.eventlist.proofs.Sound.{list-within}
use Rattle.notes.proofs.Refusing.{no-list, no-events, no-ends, no_room, well, lists}
use Rattle.notes.proofs.split_asked.Goals as goal

-- what was asked and held
held : {r b : Bool} (w : Refusal) → r ≡ b → Ok tt ≡ asked r w → b ≡ true
held {r} w e h = sym e ∙ granted r w h

within : (store : ℕ) (l : List ℤ) (count size : ℕ) → lists store l count size ≡ true → count ≤ length (rows_of l)
within store l count size h = list-within l count (left (is_list l count) (eqb (size % record_width) 0) h)

pub returns-in_err-ask : goal.returns-in_err-ask
returns-in_err-ask c =
    let s = c.args in
    let p = err_from_is_err_and c.from_residual.result c.from_residual.ensures.1 in
    let d = denied _ _ _ (sym c.in_err-ask.was ∙ c.ask.ensures) in
    rw (p.1, p.2, d.1) (no-list s.store s.events.now s.count s.size (sym (both c.list_ok.ensures refl) ∙ d.0))

pub records_ok-requires : goal.records_ok-requires
records_ok-requires c = let s = c.args in within s.store s.events.now s.count s.size (held _ (both c.list_ok.ensures refl) (sym c.in_ok-ask.was ∙ c.ask.ensures))

pub returns-in_err-ask-2 : goal.returns-in_err-ask-2
returns-in_err-ask-2 c =
    let s = c.args in
    let p = err_from_is_err_and c.from_residual-in_err-ask-2.result c.from_residual-in_err-ask-2.ensures.1 in
    let d = denied _ _ _ (sym c.in_err-ask-2.was ∙ c.ask-2.ensures) in
    let l : lists s.store s.events.now s.count s.size ≡ true = held _ (both c.list_ok.ensures refl) (sym c.in_ok-ask.was ∙ c.ask.ensures) in
    rw (p.1, p.2, d.1) (no-events s.store s.events.now s.count s.size l (sym c.records_ok.ensures ∙ d.0))

pub ends_ok-requires : goal.ends_ok-requires
ends_ok-requires c =
    let s = c.args in
    let l : lists s.store s.events.now s.count s.size ≡ true = held _ (both c.list_ok.ensures refl) (sym c.in_ok-ask.was ∙ c.ask.ensures) in
    (within s.store s.events.now s.count s.size l, held _ c.records_ok.ensures (sym c.in_ok-ask-2.was ∙ c.ask-2.ensures))

pub returns-in_err-ask-3 : goal.returns-in_err-ask-3
returns-in_err-ask-3 c =
    let s = c.args in
    let p = err_from_is_err_and c.from_residual-in_err-ask-3.result c.from_residual-in_err-ask-3.ensures.1 in
    let d = denied _ _ _ (sym c.in_err-ask-3.was ∙ c.ask-3.ensures) in
    let l : lists s.store s.events.now s.count s.size ≡ true = held _ (both c.list_ok.ensures refl) (sym c.in_ok-ask.was ∙ c.ask.ensures) in
    let o = held _ c.records_ok.ensures (sym c.in_ok-ask-2.was ∙ c.ask-2.ensures) in
    rw (p.1, p.2, d.1) (no-ends s.store s.events.now s.count s.size l o (sym c.ends_ok.ensures ∙ d.0))

pub split_count-total-requires : goal.split_count-total-requires
split_count-total-requires c = let s = c.args in within s.store s.events.now s.count s.size (held _ (both c.list_ok.ensures refl) (sym c.in_ok-ask.was ∙ c.ask.ensures))

pub returns-in_err-ask-4 : goal.returns-in_err-ask-4
returns-in_err-ask-4 c =
    let s = c.args in
    let p = err_from_is_err_and c.from_residual-in_err-ask-4.result c.from_residual-in_err-ask-4.ensures.1 in
    let d = denied _ _ _ (sym c.in_err-ask-4.was ∙ c.ask-4.ensures) in
    let l : lists s.store s.events.now s.count s.size ≡ true = held _ (both c.list_ok.ensures refl) (sym c.in_ok-ask.was ∙ c.ask.ensures) in
    let o = held _ c.records_ok.ensures (sym c.in_ok-ask-2.was ∙ c.ask-2.ensures) in
    let e = held _ c.ends_ok.ensures (sym c.in_ok-ask-3.was ∙ c.ask-3.ensures) in
    let b = leb-false c.split_count-total.result (s.size / record_width) d.0 in
    rw (p.1, p.2, d.1) (no_room s.store s.events.now s.count s.size l o e (omega (arith, c.split_count-total.ensures)))

pub returns : goal.returns
returns c =
    let s = c.args in
    let l : lists s.store s.events.now s.count s.size ≡ true = held _ (both c.list_ok.ensures refl) (sym c.in_ok-ask.was ∙ c.ask.ensures) in
    let o = held _ c.records_ok.ensures (sym c.in_ok-ask-2.was ∙ c.ask-2.ensures) in
    let e = held _ c.ends_ok.ensures (sym c.in_ok-ask-3.was ∙ c.ask-3.ensures) in
    let b = leb-true c.split_count-total.result (s.size / record_width) (granted _ _ (sym c.in_ok-ask-4.was ∙ c.ask-4.ensures)) in
    (well s.store s.events.now s.count s.size l o e (omega (arith, c.split_count-total.ensures)), c.split_count-total.ensures)
