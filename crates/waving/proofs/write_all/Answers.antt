-- The plan has the windows and counts what is added; the survey of the list says whether its events may be stored and how many
-- the windows leave. With that the laws Room tell the refusal and what is left.
use mathlib.Core.Path.{◌≡◌, refl, sym, ap, ◌∙◌}
use mathlib.Core.Bool.{true}
use mathlib.Core.List.{List}
use Prim.Native.Nat.{ℕ, ◌+◌, ◌-◌, ◌*◌, ◌/◌, ◌≤◌}
use native.Mathlib.Omega.{arith}
use lib.IntN.{ℤ}
use lib.ListN.{length, take}
use Rattle.laws.specs.Lists.{without, put_first}
use Rattle.events.specs.declared.Event.{Event}
use Rattle.events.specs.Events.{zero_event}
use Rattle.eventlist.specs.declared.Cleared.{Cleared}
use Rattle.eventlist.specs.declared.Window.{Window}
use Rattle.eventlist.specs.declared.Seen.{Seen}
use Rattle.std.specs.Prelude.{Ok}
use Rattle.budget.specs.declared.Budget.{Budget}
use Rattle.state.specs.declared.Track.{Track}
use Rattle.waving.specs.declared.Plan.{Plan}
use Rattle.eventlist.specs.Rows.{rows_of}
use Rattle.eventlist.specs.Sound.{ok_events}
use Rattle.eventlist.specs.Windows.{taken_by_any}
use Rattle.eventlist.specs.Clearing.{Surveyed, survey_of}
use Rattle.eventlist.proofs.EventRows.{length-rows_of, same_rows}
use Rattle.eventlist.proofs.Surveying.{refusing, surveyed}
use Rattle.waving.specs.Drawings.{Drawing, drawings_of}
use Rattle.waving.specs.Passes.{Passes, passes, without_all, Held, Plans}
use Rattle.waving.proofs.Parting.{Lone}
use Rattle.waving.proofs.Alone.{drawings-lone}
use Rattle.waving.proofs.Clearing.{at_once}
use Rattle.waving.proofs.Room.{kept-is, kept-fits, refused, room, accepted}
use Rattle.waving.proofs.write_all.Goals as goal

-- the list was looked at, and its events may be stored
module _ (track : Track) (n : ℕ) (b : Budget) (l : List ℤ) (count store : ℕ) (holds : Held track) (inside : count ≤ length (rows_of l)) (plan : Plan) (plans : Plans plan (passes (drawings_of track n) b))
    (saw : Seen) (told : Ok saw ≡ survey_of store (take plan.count plan.windows) l count) where
  abbrev ds : List Drawing
  ds = drawings_of track n

  abbrev R : List Event
  R = rows_of l

  abbrev es : List Event
  es = take count R

  abbrev p : Passes
  p = passes ds b

  -- what no window takes
  abbrev stays : List Event
  stays = without_all p.windows es

  lone : Lone ds
  lone = drawings-lone track n holds.passed

  abbrev ws : List Window
  ws = take plan.count plan.windows

  -- the windows take out what no window leaves
  out : without (taken_by_any ws) es ≡ stays
  out = ap (λ (x : List Window). without (taken_by_any x) es) plans.windows ∙ sym (at_once p.windows es)

  abbrev kept : ℕ
  kept = count - saw.taken

  stored : ok_events store l count ≡ true
  stored = (surveyed store ws l count inside saw told).0

  seen : Surveyed ws l count saw
  seen = (surveyed store ws l count inside saw told).1

  kept-stays : kept ≡ length stays
  kept-stays =
      kept-is ds lone b R count inside saw.taken
      (seen.taken ∙ ap (λ (x : List Window). count - length (without (taken_by_any x) es)) plans.windows)

  -- there is room
  module _ (free : plan.added ≤ length l / 8 - kept) where
    enough : plan.added ≤ length R - kept
    enough = let n = length-rows_of l in let h = free in omega arith

    fits : length stays + length p.news ≤ length R
    fits = room ds lone b R count inside kept kept-stays _ plans.added enough

pub returns-in-Err : goal.returns-in-Err
returns-in-Err c =
    let q = refusing c.args.store _ c.args.events.now c.args.count c.requires.2 _ (sym c.in-Err.is ∙ c.survey.ensures) in
    rw (c.number.ensures, q.0, q.1) (refl, refl)

pub overflow_sub-kept : goal.overflow_sub-kept
overflow_sub-kept c =
    let A = c.args in
    let t = (seen A.track A.n A.b A.events.now A.count A.store c.requires.0 c.requires.2 _ c.plan_of-plan.ensures _ (sym c.in-Ok.is ∙ c.survey.ensures)).taken in
    omega arith

pub overflow_sub-events : goal.overflow_sub-events
overflow_sub-events c =
    let A = c.args in
    let s = kept-stays A.track A.n A.b A.events.now A.count A.store c.requires.0 c.requires.2 _ c.plan_of-plan.ensures _ (sym c.in-Ok.is ∙ c.survey.ensures) in
    let k = kept-fits (drawings_of A.track A.n) (drawings-lone A.track A.n c.requires.0.passed) A.b (rows_of A.events.now) A.count c.requires.2 _ s in
    omega (arith, length-rows_of A.events.now)

pub returns-then-events-kept : goal.returns-then-events-kept
returns-then-events-kept c =
    let A = c.args in
    let told = sym c.in-Ok.is ∙ c.survey.ensures in
    let s = kept-stays A.track A.n A.b A.events.now A.count A.store c.requires.0 c.requires.2 _ c.plan_of-plan.ensures _ told in
    let n = length-rows_of A.events.now in
    rw (c.number-then-events-kept.ensures, stored A.track A.n A.b A.events.now A.count A.store c.requires.0 c.requires.2 _ c.plan_of-plan.ensures _ told)
    (refused (drawings_of A.track A.n) (drawings-lone A.track A.n c.requires.0.passed) A.b (rows_of A.events.now) A.count c.requires.2 _ s _ c.plan_of-plan.ensures.added
    (let h = c.if-events-kept.true in omega arith))

pub clear_windows-cleared-requires : goal.clear_windows-cleared-requires
clear_windows-cleared-requires c =
    let A = c.args in
    (c.requires.2, seen A.track A.n A.b A.events.now A.count A.store c.requires.0 c.requires.2 _ c.plan_of-plan.ensures _ (sym c.in-Ok.is ∙ c.survey.ensures))

pub add_all-requires : goal.add_all-requires
add_all-requires c =
    let A = c.args in
    let told = sym c.in-Ok.is ∙ c.survey.ensures in
    let n =
    ap (λ (x : Cleared). x.left) c.clear_windows-cleared.ensures.0
    ∙ ap length (out A.track A.n A.b A.events.now A.count A.store c.requires.0 c.requires.2 _ c.plan_of-plan.ensures _ told) in
    let r = fits A.track A.n A.b A.events.now A.count A.store c.requires.0 c.requires.2 _ c.plan_of-plan.ensures _ told c.if-events-kept.false in
    let m = same_rows c.clear_windows-cleared.new.events A.events.now c.clear_windows-cleared.auto.events in
    (c.requires.0, c.requires.1, c.quarter_table-quarter.ensures, omega arith)

pub returns : goal.returns
returns c =
    let A = c.args in
    let told = sym c.in-Ok.is ∙ c.survey.ensures in
    let o = out A.track A.n A.b A.events.now A.count A.store c.requires.0 c.requires.2 _ c.plan_of-plan.ensures _ told in
    let s = kept-stays A.track A.n A.b A.events.now A.count A.store c.requires.0 c.requires.2 _ c.plan_of-plan.ensures _ told in
    let left = ap (λ (x : Cleared). x.left) c.clear_windows-cleared.ensures.0 ∙ ap length o in
    let rows = c.clear_windows-cleared.ensures.1 ∙ ap (λ (x : List Event). put_first zero_event A.count x (rows_of A.events.now)) o in
    rw (stored A.track A.n A.b A.events.now A.count A.store c.requires.0 c.requires.2 _ c.plan_of-plan.ensures _ told)
    (accepted (drawings_of A.track A.n) (drawings-lone A.track A.n c.requires.0.passed) A.b (rows_of A.events.now) A.count c.requires.2 _ s _ c.plan_of-plan.ensures.added
    (enough A.track A.n A.b A.events.now A.count A.store c.requires.0 c.requires.2 _ c.plan_of-plan.ensures _ told c.if-events-kept.false) left rows c.add_all.ensures.0 c.add_all.ensures.1)
