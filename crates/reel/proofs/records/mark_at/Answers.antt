-- `mark_at`: each way out is a case of the definition.
use Rattle.std.proofs.Common.{sym, ap, ◌∙◌, arith}
use Rattle.reel.specs.Marks.{mark_of}
use Rattle.reel.proofs.Reading.{no-letters, no-mark, unmarked, marked}
use Rattle.reel.proofs.records.mark_at.Goals as goal

pub returns-then-tape-lt2 : goal.returns-then-tape-lt2
returns-then-tape-lt2 c = no-letters c.args.tape.now c.args.at (omega arith)

pub returns-in_err-m : goal.returns-in_err-m
returns-in_err-m c =
    c.from_residual.ensures ∙ no-mark c.args.tape.now c.args.at (sym (c.in_err-m.was) ∙ c.mark_of.ensures ∙ ap mark_of c.letters_at.ensures)

pub returns-then-tape-at-2 : goal.returns-then-tape-at-2
returns-then-tape-at-2 c =
    unmarked c.args.tape.now c.args.at c.in_ok-m.m (sym (c.in_ok-m.was) ∙ c.mark_of.ensures ∙ ap mark_of c.letters_at.ensures)
    (omega (arith, c.width.ensures.value))

pub returns-else-tape-at-2 : goal.returns-else-tape-at-2
returns-else-tape-at-2 c =
    marked c.args.tape.now c.args.at c.in_ok-m.m (sym (c.in_ok-m.was) ∙ c.mark_of.ensures ∙ ap mark_of c.letters_at.ensures)
    (omega (arith, c.width.ensures.value))
