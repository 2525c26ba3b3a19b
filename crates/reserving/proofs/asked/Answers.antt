-- `asked`: each answer is the refusal at the tests that led to it.
use Rattle.std.proofs.Common.{rules, ◌≡◌, refl, sym, ap, ◌∙◌, w32, Err}
use mathlib.Core.Bool.{true, ◌&&◌}
use Rattle.laws.proofs.Tests.{is_at, both}
use Rattle.numbers.specs.Ranges.{is_target}
use Rattle.numbers.specs.Refusals.{told}
use Rattle.tables.specs.declared.CycleTable.{CycleTable}
use Rattle.tables.specs.Tables.{ok_cycles, lone}
use Rattle.numbers.proofs.Asking.{told-asked, ask-ok, ask-err}
use Rattle.state.proofs.Lent.{untracked, tracked, behind}
use Rattle.state.proofs.Stored.{notes-few, waves-few, sines-few}
use Rattle.reserving.specs.Clearing.{refusal}
use Rattle.reserving.proofs.asked.Goals as goal

pub returns-in_err-ask : goal.returns-in_err-ask
unfolding refusal
returns-in_err-ask c =
    let a = c.args in
    let r : c.from_residual.result ≡ Err c.in_err-ask.field-0.0 = search rules in
    let e = ask-err _ _ c.ask.ensures c.in_err-ask.was in
    rw (r, e.1, e.0)

pub returns-in_err-ask-2 : goal.returns-in_err-ask-2
unfolding refusal
returns-in_err-ask-2 c =
    let a = c.args in
    let r : c.from_residual-in_err-ask-2.result ≡ Err c.in_err-ask-2.field-0.0 = search rules in
    let e = ask-err _ _ c.ask-2.ensures c.in_err-ask-2.was in
    let s = ask-ok _ _ c.ask.ensures c.in_ok-ask.was in
    let n = sym (is_at w32 {z = c.args.target} is_target c.ranges.target.sfits c.is_target.ensures) ∙ e.0 in
    rw (r, e.1, s, n)

pub returns-in_err-ask-3 : goal.returns-in_err-ask-3
unfolding refusal
returns-in_err-ask-3 c =
    let a = c.args in
    let r : c.from_residual-in_err-ask-3.result ≡ Err c.in_err-ask-3.field-0.0 = search rules in
    let e = ask-err _ _ c.ask-3.ensures c.in_err-ask-3.was in
    let s = ask-ok _ _ c.ask.ensures c.in_ok-ask.was in
    let t = sym (is_at w32 {z = c.args.target} is_target c.ranges.target.sfits c.is_target.ensures) ∙ ask-ok _ _ c.ask-2.ensures c.in_ok-ask-2.was in
    rw (r, e.1, s, t, e.0)

pub returns-in_err-ask-4 : goal.returns-in_err-ask-4
unfolding refusal
returns-in_err-ask-4 c =
    let a = c.args in
    let r : c.from_residual-in_err-ask-4.result ≡ Err c.in_err-ask-4.field-0.0 = search rules in
    let e = ask-err _ _ c.ask-4.ensures c.in_err-ask-4.was in
    let s = ask-ok _ _ c.ask.ensures c.in_ok-ask.was in
    let t = sym (is_at w32 {z = c.args.target} is_target c.ranges.target.sfits c.is_target.ensures) ∙ ask-ok _ _ c.ask-2.ensures c.in_ok-ask-2.was in
    let l = ask-ok _ _ c.ask-3.ensures c.in_ok-ask-3.was in
    let u = untracked a.track.now a.cycles.now true a.ok (sym (both c.track_ok.ensures refl) ∙ e.0) in
    rw (r, e.1, s, t, l, u)

pub lent_alone-requires : goal.lent_alone-requires
lent_alone-requires c =
    let a = c.args in
    let k = sym (both c.track_ok.ensures refl) ∙ ask-ok _ _ c.ask-4.ensures c.in_ok-ask-4.was in
    let t = tracked a.track.now a.cycles.now true a.ok k in
    (notes-few a.track.now t, waves-few a.track.now t, sines-few a.track.now t)

pub returns : goal.returns
unfolding refusal
returns c =
    let a = c.args in
    let s = ask-ok _ _ c.ask.ensures c.in_ok-ask.was in
    let t = sym (is_at w32 {z = c.args.target} is_target c.ranges.target.sfits c.is_target.ensures) ∙ ask-ok _ _ c.ask-2.ensures c.in_ok-ask-2.was in
    let l = ask-ok _ _ c.ask-3.ensures c.in_ok-ask-3.was in
    let k = sym (both c.track_ok.ensures refl) ∙ ask-ok _ _ c.ask-4.ensures c.in_ok-ask-4.was in
    let w =
    c.lent_alone.ensures
    ∙ ap (λ (t : CycleTable). ok_cycles t && lone a.track.now.notes a.track.now.waves a.track.now.sines t) c.cycles_of-own.ensures
    ∙ sym (behind a.track.now a.cycles.now true a.ok k) in
    ap told c.ask-5.ensures ∙ told-asked _ _ ∙ rw (s, t, l, ← w)
