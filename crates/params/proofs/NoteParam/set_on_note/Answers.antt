-- A parameter in range has a delay and a repeat in range, so that what is reserved asks no more than the call.
use Rattle.std.proofs.Common.{◌≡◌, rules, arith, ◌&&◌, leb, ap, ◌∙◌}
use Rattle.laws.specs.Lists.{all}
use Rattle.numbers.specs.Ranges.{is_number}
use Rattle.counted.specs.Numbers.{numbers}
use Rattle.reserved.specs.Reserve.{notes_from}
use Rattle.reserved.specs.Setting.{notes_asked}
use Rattle.params.specs.Param.{ok_param}
use Rattle.params.specs.Calls.{reserving}
use Rattle.params.proofs.Calls.{by_making, param-delay, param-limits, limits-repeat}
use Rattle.params.proofs.NoteParam.set_on_note.Goals as goal

pub returns : goal.returns
unfolding notes_asked
returns c =
    let a = c.args.self in
    let v = c.args.values.now in
    let e : c.notes_asked.result ≡ notes_asked a.repeat v = search rules in
    c.reserving.ensures ∙ ap (reserving (ok_param a) a) e
    ∙ by_making v a (leb a.repeat 1 && all is_number v) (ok_param a && all is_number v) (notes_from a.repeat (numbers v))
    (λ e. let d = param-delay a e in let p = limits-repeat a (param-limits a e) in grind arith) (λ e. rw e)
