-- `fits` meets its contract: a time that stays near enough fits whether the event is kept or not.
use mathlib.Core.Path.{◌≡◌, refl, sym, ap, ◌∙◌}
use mathlib.Core.Bool.{Bool, true, false, not, ◌||◌}
use native.Mathlib.Omega.{arith}
use mir.Syntax.{w64}
use Rattle.laws.proofs.Tests.{and_no, is_at}
use Rattle.numbers.specs.Ranges.{is_event_time}
use Rattle.events.specs.declared.Event.{Event}
use Rattle.events.proofs.Stored.{storable}
use Rattle.cutting.specs.Cuts.{fits_cut, keeps}
use Rattle.cutting.proofs.fits.Goals as goal

or_no : (b : Bool) → b ≡ (b || false)
or_no true = refl
or_no false = refl

or_yes : (b : Bool) → true ≡ (b || true)
or_yes true = refl
or_yes false = refl

pub returns-then-not-event_ok : goal.returns-then-not-event_ok
unfolding fits_cut
returns-then-not-event_ok c = and_no _ (sym c.event_ok.ensures ∙ c.if-not-event_ok.true)

pub shift-s-requires : goal.shift-s-requires
shift-s-requires c = (c.requires, (storable c.args.store c.args.e (sym c.event_ok.ensures ∙ c.if-not-event_ok.false)).time)

pub returns-then-not-is_event_time : goal.returns-then-not-is_event_time
unfolding fits_cut
returns-then-not-is_event_time c =
    let asked = is_at w64 is_event_time (omega arith) c.is_event_time.ensures ∙ ap (λ (x : Event). is_event_time x.time) c.shift-s.ensures in
    rw (sym c.event_ok.ensures ∙ c.if-not-event_ok.false, sym asked ∙ c.if-not-is_event_time.true)
    (ap not c.is_kept.ensures ∙ or_no (not (keeps c.args.c c.args.e)))

pub returns : goal.returns
unfolding fits_cut
returns c =
    let asked = is_at w64 is_event_time (omega arith) c.is_event_time.ensures ∙ ap (λ (x : Event). is_event_time x.time) c.shift-s.ensures in
    rw (sym c.event_ok.ensures ∙ c.if-not-event_ok.false, sym asked ∙ c.if-not-is_event_time.false)
    (or_yes (not (keeps c.args.c c.args.e)))
