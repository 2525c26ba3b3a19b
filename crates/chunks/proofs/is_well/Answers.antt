-- `is_well` meets its contract: the time is asked first, so that the gap fits; then every test is made, and each answers its part of the definition.
use mathlib.Core.Path.{◌≡◌, ap, ◌∙◌, sym}
use mathlib.Core.Bool.{true}
use lib.Dec.{lit<}
use lib.IntN.{pos}
use mir.Syntax.{w64}
use mir.Val.{SFits}
use Rattle.laws.specs.Integers.{inside}
use Rattle.laws.proofs.Bits.{flag}
use Rattle.laws.proofs.Tests.{is_at, and_no, and_yes, both}
use Rattle.numbers.specs.Ranges.{is_event_time, is_channel, is_word}
use Rattle.chunks.specs.Writing.{longest_gap}
use Rattle.chunks.specs.Steps.{well_after}
use Rattle.chunks.proofs.Leaves.{gap-fits, gap_back}
use Rattle.chunks.proofs.is_well.Goals as goal

zero-fits : SFits w64 (pos 0)
zero-fits = record { sfits = lit< tt }

-- the time was asked
timed : (c : goal.After-struct_told-2-1) → is_event_time c.args.e.time ≡ true
timed c = sym (is_at w64 is_event_time c.struct_told-1.given.1.0.1 c.is_event_time.ensures) ∙ c.if-not-is_event_time.false

-- the time was asked
timed-at-2 : (c : goal.After-event_fits) → is_event_time c.args.e.time ≡ true
timed-at-2 c = sym (is_at w64 is_event_time c.struct_told-1.given.1.0.1 c.is_event_time.ensures) ∙ c.if-not-is_event_time.false

pub returns-then-not-is_event_time : goal.returns-then-not-is_event_time
unfolding well_after
returns-then-not-is_event_time c = and_no _ (sym (is_at w64 is_event_time c.struct_told-1.given.1.0.1 c.is_event_time.ensures) ∙ c.if-not-is_event_time.true)

pub overflow_sub-gap : goal.overflow_sub-gap
overflow_sub-gap c = gap-fits c.args.e.time c.args.last (timed c) c.requires

pub returns : goal.returns
unfolding well_after
returns c =
    let g = c.struct_told-1.given in
    let time = timed-at-2 c in
    let gap = gap_back c.args.e.time c.args.last time c.requires in
    and_yes time
    (both
    (both
    (both
    (both
    (both
    (both (c.within.ensures ∙ ap (inside (pos 0) (pos longest_gap)) gap) (is_at w64 is_channel g.1.1.0.1 c.is_channel.ensures))
    (is_at w64 is_word g.1.1.1.1.0.1 c.is_word.ensures))
    (is_at w64 is_word g.1.1.1.1.1.0.1 c.is_word-2.ensures))
    (flag {a = c.args.e.offset} (record { sfits = g.1.1.1.1.1.1.0.1 }) zero-fits))
    (flag {a = c.args.e.len} (record { sfits = g.1.1.1.1.1.1.1.0.1 }) zero-fits))
    c.event_fits.ensures)
