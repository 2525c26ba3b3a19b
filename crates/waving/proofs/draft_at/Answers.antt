use mathlib.Core.Path.{subst}
use native.Mathlib.Omega.{arith}
use Rattle.state.proofs.Stored.{waves-few, sines-few}
use Rattle.waving.specs.Drawings.{Drawing}
use Rattle.waving.specs.Passes.{Drafts}
use Rattle.waving.proofs.Places.{at-wave, at-sine, wave-stored, sine-stored}
use Rattle.waving.proofs.draft_at.Goals as goal

pub offset_bounds-waves-i : goal.offset_bounds-waves-i
offset_bounds-waves-i c = omega (arith, waves-few c.args.track c.requires.0.passed)

pub bounds-waves-i : goal.bounds-waves-i
bounds-waves-i c = omega (arith, waves-few c.args.track c.requires.0.passed)

pub wave_draft-requires : goal.wave_draft-requires
wave_draft-requires c = (c.requires.0.passed, wave-stored c.args.track c.requires.0 c.args.i _ c.if-i-waves.true, c.requires.2)

pub returns-then-i-waves : goal.returns-then-i-waves
returns-then-i-waves c =
    let A = c.args in
    subst (λ (d : Drawing). Drafts c.wave_draft.result d A.b) (at-wave A.track c.requires.0 A.n A.i _ c.if-i-waves.true) c.wave_draft.ensures

pub offset_bounds-sines-i : goal.offset_bounds-sines-i
offset_bounds-sines-i c = omega (arith, sines-few c.args.track c.requires.0.passed, c.requires.1)

pub bounds-sines-i : goal.bounds-sines-i
bounds-sines-i c = omega (arith, sines-few c.args.track c.requires.0.passed, c.requires.1)

pub sine_draft-requires : goal.sine_draft-requires
sine_draft-requires c =
    (c.requires.0.passed, sine-stored c.args.track c.requires.0 _ _ (omega (arith, c.requires.1, c.if-i-waves.false)))

pub returns-else-i-waves : goal.returns-else-i-waves
returns-else-i-waves c =
    let A = c.args in
    subst (λ (d : Drawing). Drafts c.sine_draft.result d A.b) (at-sine A.track c.requires.0 A.n A.i _ c.if-i-waves.false c.requires.1) (c.sine_draft.ensures A.b)
