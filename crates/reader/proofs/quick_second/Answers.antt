-- `quick_second` meets its contract: the second data byte, where the status has two (Places).
use Rattle.std.proofs.Common.{◌+◌, refl, ap, sym, ◌∙◌, get_or, drop}
use Rattle.chunks.specs.Reader.{second_in}
use Rattle.reader.specs.Reading.{kept_in}
use Rattle.reader.specs.Steps.{tells}
use Rattle.reader.proofs.Places.{byte_left, second-well}
use Rattle.reader.proofs.quick_second.Goals as goal

pub returns : goal.returns
unfolding tells
returns c =
    let a = c.args in
    let x = get_or a.s.now (a.from + a.used) 0 in
    let l = drop (a.from + (a.used + 1)) a.s.now in
    let double = c.is_double.ensures c.if-not-is_double.false in
    rw c.sent.ensures (
      refl,
      c.requires.1,
      double,
      (λ t. double.counts (t + a.gap) a.first x),
      (λ t.
          second-well kept_in a.status (t + a.gap) a.gap a.used a.first x l c.if-second-ge-STATUS.false
          ∙ ap (second_in kept_in a.status (t + a.gap) a.gap a.used a.first) (sym (byte_left a.s.now a.from a.used c.requires.0))),
    )
