use Rattle.std.proofs.Common.{◌≡◌, rules, ◌&&◌, leb, ap, ◌∙◌}
use Rattle.laws.specs.Lists.{all}
use Rattle.numbers.specs.Ranges.{is_number}
use Rattle.counted.specs.Numbers.{numbers}
use Rattle.reserved.specs.Reserve.{notes_from}
use Rattle.reserved.specs.Setting.{notes_asked}
use Rattle.layers.specs.Layers.{ok_layers}
use Rattle.layers.specs.Calls.{reserving}
use Rattle.layers.proofs.Calls.{by_making}
use Rattle.layers.proofs.Layers.set_v_sub_on_note.Goals as goal

pub returns : goal.returns
unfolding notes_asked
returns c =
    let l = c.args.self in
    let v = c.args.values.now in
    let e : c.notes_asked.result ≡ notes_asked c.args.repeat v = search rules in
    c.reserving.ensures ∙ ap (reserving (ok_layers l) l c.args.index) e
    ∙ by_making v l c.args.index (leb c.args.repeat 1 && all is_number v) (ok_layers l && leb c.args.repeat 1 && all is_number v) (notes_from c.args.repeat (numbers v)) (λ e. rw e) (λ e. rw e)
