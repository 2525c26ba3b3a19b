-- `current_cc_value` of a track asks the list's own call, and then the whole track.
use mathlib.Core.Path.{◌≡◌, refl, sym, ap, ◌∙◌}
use lib.ListN.{length}
use borrow.Author.Rules.{rules}
use Rattle.cutting.specs.declared.CcValue.{CcValue}
use Rattle.cutting.specs.Value.{cc_answer}
use Rattle.track.specs.Reading.{asked_of}
use Rattle.track.proofs.Reading.{refused, bad-track, told, asked-with}
use Rattle.track.proofs.current_cc_value.Goals as goal

code-of : (v w : CcValue) → v ≡ w → v.code ≡ w.code
code-of v w e = ap (λ (x : CcValue). x.code) e

pub returns-then-r-ne0 : goal.returns-then-r-ne0
returns-then-r-ne0 c =
    let a = c.args in
    let n = length a.store.now in
    let asked : c.current_cc_value-r.result ≡ cc_answer n a.events.now a.count (asked_of a.track a.number) =
    asked-with n a.track a.number a.events.now a.count _ _ _ _ (search rules) (search rules) (search rules) c.current_cc_value-r.ensures in
    asked ∙ refused n a.track a.number a.events.now a.count (λ h. c.if-r-ne0.true (code-of _ _ asked ∙ h))

pub returns-then-not-track_ok : goal.returns-then-not-track_ok
returns-then-not-track_ok c =
    let a = c.args in
    let n = length a.store.now in
    let asked : c.current_cc_value-r.result ≡ cc_answer n a.events.now a.count (asked_of a.track a.number) =
    asked-with n a.track a.number a.events.now a.count _ _ _ _ (search rules) (search rules) (search rules) c.current_cc_value-r.ensures in
    rw c.number.ensures (bad-track n a.track a.number a.events.now a.count (sym (code-of _ _ asked) ∙ c.if-r-ne0.false) (sym c.track_ok.ensures ∙ c.if-not-track_ok.true))

pub returns : goal.returns
returns c =
    let a = c.args in
    let n = length a.store.now in
    let asked : c.current_cc_value-r.result ≡ cc_answer n a.events.now a.count (asked_of a.track a.number) =
    asked-with n a.track a.number a.events.now a.count _ _ _ _ (search rules) (search rules) (search rules) c.current_cc_value-r.ensures in
    asked ∙ told n a.track a.number a.events.now a.count (sym (code-of _ _ asked) ∙ c.if-r-ne0.false) (sym c.track_ok.ensures ∙ c.if-not-track_ok.false)
