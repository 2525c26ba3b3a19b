-- `take_bends` meets its contract: the tests in their order (Bends), then what is taken out, which for a whole number of records
-- says every number (`determined`).
use Rattle.std.proofs.Common.{◌≡◌, refl, ◌∙◌, ap, sym, ◌^◌, length, ℕ, Bool, true, false, ◌&&◌, List, [], ◌∷◌, ℤ, pos, ◌+ℤ◌, w64, FitsSigned, to_z, of_z, to_z-of_z, Ok, arith}
use Rattle.std.proofs.lemmas.Result.{err_from_is_err_and}
use lib.Dec.{eqb}
use Rattle.laws.proofs.Ranges.{right, sized-mag}
use Rattle.laws.proofs.Signed.{mag-add}
use Rattle.laws.proofs.Tests.{is_at, both}
use Rattle.numbers.specs.declared.refusals.Refusal.TheVariants.{NotAList, OutOfRange}
use Rattle.numbers.specs.Refusals.{asked}
use Rattle.numbers.specs.Ranges.{is_time}
use Rattle.numbers.proofs.Tested.{denied, granted}
use Rattle.laws.specs.Lists.{put_first, without}
use Rattle.events.specs.declared.Event.{Event}
use Rattle.events.specs.Events.{zero_event}
use Rattle.eventlist.specs.declared.Cleared.{Cleared}
use Rattle.eventlist.specs.declared.Window.{Window}
use Rattle.eventlist.specs.Rows.{rows_of, events_of}
use Rattle.eventlist.specs.Sound.{is_list}
use Rattle.eventlist.specs.Windows.{taken_by_any, kept_by}
use Rattle.eventlist.specs.Clearing.{kept_by_all}
use Rattle.eventlist.specs.Bends.{bends_in, bends_refusal, bends_left}
use Rattle.eventlist.proofs.EventRows.{determined}
use Rattle.eventlist.proofs.Sound.{list-whole, list-within}
use Rattle.eventlist.proofs.Surveying.{refusing, surveyed}
use Rattle.eventlist.proofs.Clearing.{windows-one}
use Rattle.eventlist.proofs.Bends.{no-list, no-times, no-events, well}
use Rattle.eventlist.proofs.take_bends.Goals as goal

-- where the call refuses the list is left
left-alone : (store : ℕ) (l : List ℤ) (count : ℕ) (start end : ℤ) {n : ℕ} → eqb n 0 ≡ false → bends_refusal store l count start end ≡ n → l ≡ bends_left store l count start end
left-alone store l count start end z q = rw (q, z)

-- what the tests say: of the list, of the times
listed : {r : Bool} (l : List ℤ) (count : ℕ) → r ≡ is_list l count → Ok tt ≡ asked r NotAList → is_list l count ≡ true
listed {r} l count e h = sym e ∙ granted r NotAList h

near : (end : ℤ) → is_time end ≡ true → FitsSigned w64 (end +ℤ pos 1)
unfolding is_time
near end e = let h = sized-mag (2 ^ 40) end e in let a = mag-add end (pos 1) in omega arith

module _ {r s : Bool} {start end : ℤ} (f : FitsSigned w64 start) (g : FitsSigned w64 end) (p : r ≡ is_time (to_z w64 (of_z w64 start))) (q : s ≡ is_time (to_z w64 (of_z w64 end))) where
  both-asked : (r && s) ≡ (is_time start && is_time end)
  both-asked = both (is_at w64 is_time f.sfits p) (is_at w64 is_time g.sfits q)

  timed : Ok tt ≡ asked (r && s) OutOfRange → (is_time start && is_time end) ≡ true
  timed h = sym both-asked ∙ granted (r && s) OutOfRange h

  past : Ok tt ≡ asked (r && s) OutOfRange → FitsSigned w64 (end +ℤ pos 1)
  past h = near end (right (is_time start) (is_time end) (timed h))

pub returns-in_err-ask-clause-answer : goal.returns-in_err-ask-clause-answer
returns-in_err-ask-clause-answer c =
    let p = err_from_is_err_and c.from_residual.result c.from_residual.ensures.1 in
    let d = denied _ _ _ (sym c.in_err-ask.was ∙ c.ask.ensures) in
    rw (p.1, p.2, d.1) (no-list c.args.store c.args.events.now c.args.count c.args.start c.args.end (sym c.list_ok.ensures ∙ d.0))

pub returns-in_err-ask-clause-list : goal.returns-in_err-ask-clause-list
returns-in_err-ask-clause-list c =
    let d = denied _ _ _ (sym c.in_err-ask.was ∙ c.ask.ensures) in
    left-alone c.args.store c.args.events.now c.args.count c.args.start c.args.end refl (no-list c.args.store c.args.events.now c.args.count c.args.start c.args.end (sym c.list_ok.ensures ∙ d.0))

pub returns-in_err-ask-2-clause-answer : goal.returns-in_err-ask-2-clause-answer
returns-in_err-ask-2-clause-answer c =
    let p = err_from_is_err_and c.from_residual-in_err-ask-2.result c.from_residual-in_err-ask-2.ensures.1 in
    let d = denied _ _ _ (sym c.in_err-ask-2.was ∙ c.ask-2.ensures) in
    rw (p.1, p.2, d.1)
    (no-times c.args.store c.args.events.now c.args.count c.args.start c.args.end (listed c.args.events.now c.args.count c.list_ok.ensures (sym c.in_ok-ask.was ∙ c.ask.ensures))
    (sym (both-asked c.ranges.start c.ranges.end c.is_time.ensures c.is_time-2.ensures) ∙ d.0))

pub returns-in_err-ask-2-clause-list : goal.returns-in_err-ask-2-clause-list
returns-in_err-ask-2-clause-list c =
    let d = denied _ _ _ (sym c.in_err-ask-2.was ∙ c.ask-2.ensures) in
    left-alone c.args.store c.args.events.now c.args.count c.args.start c.args.end refl
    (no-times c.args.store c.args.events.now c.args.count c.args.start c.args.end (listed c.args.events.now c.args.count c.list_ok.ensures (sym c.in_ok-ask.was ∙ c.ask.ensures))
    (sym (both-asked c.ranges.start c.ranges.end c.is_time.ensures c.is_time-2.ensures) ∙ d.0))

pub overflow_add-windows : goal.overflow_add-windows
overflow_add-windows c =
    rw (to_z-of_z c.ranges.end) (past c.ranges.start c.ranges.end c.is_time.ensures c.is_time-2.ensures (sym c.in_ok-ask-2.was ∙ c.ask-2.ensures))

pub survey-requires : goal.survey-requires
survey-requires c = list-within c.args.events.now c.args.count (listed c.args.events.now c.args.count c.list_ok.ensures (sym c.in_ok-ask.was ∙ c.ask.ensures))

pub returns-in_err-seen-clause-answer : goal.returns-in_err-seen-clause-answer
returns-in_err-seen-clause-answer c =
    let p = err_from_is_err_and c.from_residual-in_err-seen.result c.from_residual-in_err-seen.ensures.1 in
    let l : is_list c.args.events.now c.args.count ≡ true = listed c.args.events.now c.args.count c.list_ok.ensures (sym c.in_ok-ask.was ∙ c.ask.ensures) in
    let d = refusing c.args.store _ c.args.events.now c.args.count (list-within c.args.events.now c.args.count l) _ (sym c.in_err-seen.was ∙ c.survey.ensures) in
    rw (p.1, p.2, d.0)
    (no-events c.args.store c.args.events.now c.args.count c.args.start c.args.end l
    (timed c.ranges.start c.ranges.end c.is_time.ensures c.is_time-2.ensures (sym c.in_ok-ask-2.was ∙ c.ask-2.ensures)) d.1)

pub returns-in_err-seen-clause-list : goal.returns-in_err-seen-clause-list
returns-in_err-seen-clause-list c =
    let l : is_list c.args.events.now c.args.count ≡ true = listed c.args.events.now c.args.count c.list_ok.ensures (sym c.in_ok-ask.was ∙ c.ask.ensures) in
    let d = refusing c.args.store _ c.args.events.now c.args.count (list-within c.args.events.now c.args.count l) _ (sym c.in_err-seen.was ∙ c.survey.ensures) in
    left-alone c.args.store c.args.events.now c.args.count c.args.start c.args.end refl
    (no-events c.args.store c.args.events.now c.args.count c.args.start c.args.end l
    (timed c.ranges.start c.ranges.end c.is_time.ensures c.is_time-2.ensures (sym c.in_ok-ask-2.was ∙ c.ask-2.ensures)) d.1)

pub clear_windows-requires : goal.clear_windows-requires
clear_windows-requires c =
    let l : is_list c.args.events.now c.args.count ≡ true = listed c.args.events.now c.args.count c.list_ok.ensures (sym c.in_ok-ask.was ∙ c.ask.ensures) in
    let fit = list-within c.args.events.now c.args.count l in
    (fit, (surveyed c.args.store _ c.args.events.now c.args.count fit _ (sym c.in_ok-seen.was ∙ c.survey.ensures)).1)

-- what the window leaves, as the definition has it
kept-is : (start end : ℤ) (l : List ℤ) (count : ℕ) (ws : List Window) → ws ≡ bends_in start end ∷ [] → kept_by_all ws l count ≡ kept_by (bends_in start end) l count
kept-is start end l count ws e =
    ap (λ (x : List Window). without (taken_by_any x) (events_of l count)) e ∙ windows-one (bends_in start end) (events_of l count)

-- the window that was made is the definition's
window-is : {start end : ℤ} → FitsSigned w64 start → FitsSigned w64 end → FitsSigned w64 (end +ℤ pos 1)
    → ◌≡◌ {A = List Window} (record { kind = pos 3; number = pos 0; start = to_z w64 (of_z w64 start); end = to_z w64 (of_z w64 (to_z w64 (of_z w64 end) +ℤ pos 1)) } ∷ []) (bends_in start end ∷ [])
window-is f g h = rw (to_z-of_z f, to_z-of_z g, to_z-of_z h)

pub returns-clause-answer : goal.returns-clause-answer
returns-clause-answer c =
    let l : is_list c.args.events.now c.args.count ≡ true = listed c.args.events.now c.args.count c.list_ok.ensures (sym c.in_ok-ask.was ∙ c.ask.ensures) in
    let fit = list-within c.args.events.now c.args.count l in
    let t = timed c.ranges.start c.ranges.end c.is_time.ensures c.is_time-2.ensures (sym c.in_ok-ask-2.was ∙ c.ask-2.ensures) in
    let h = past c.ranges.start c.ranges.end c.is_time.ensures c.is_time-2.ensures (sym c.in_ok-ask-2.was ∙ c.ask-2.ensures) in
    let ok = (surveyed c.args.store _ c.args.events.now c.args.count fit _ (sym c.in_ok-seen.was ∙ c.survey.ensures)).0 in (
      well c.args.store c.args.events.now c.args.count c.args.start c.args.end l t ok,
      ap (λ (x : Cleared). x.left) c.clear_windows.ensures.0 ∙ ap length (kept-is c.args.start c.args.end c.args.events.now c.args.count _ (window-is c.ranges.start c.ranges.end h)),
    )

pub returns-clause-list : goal.returns-clause-list
returns-clause-list c =
    let l : is_list c.args.events.now c.args.count ≡ true = listed c.args.events.now c.args.count c.list_ok.ensures (sym c.in_ok-ask.was ∙ c.ask.ensures) in
    let fit = list-within c.args.events.now c.args.count l in
    let t = timed c.ranges.start c.ranges.end c.is_time.ensures c.is_time-2.ensures (sym c.in_ok-ask-2.was ∙ c.ask-2.ensures) in
    let h = past c.ranges.start c.ranges.end c.is_time.ensures c.is_time-2.ensures (sym c.in_ok-ask-2.was ∙ c.ask-2.ensures) in
    let ok = (surveyed c.args.store _ c.args.events.now c.args.count fit _ (sym c.in_ok-seen.was ∙ c.survey.ensures)).0 in
    rw (well c.args.store c.args.events.now c.args.count c.args.start c.args.end l t ok)
    (determined c.args.events.now c.clear_windows.new.events _ (list-whole c.args.events.now c.args.count l) c.clear_windows.auto.events
    (c.clear_windows.ensures.1 ∙ ap (λ (x : List Event). put_first zero_event c.args.count x (rows_of c.args.events.now)) (kept-is c.args.start c.args.end c.args.events.now c.args.count _ (window-is c.ranges.start c.ranges.end h))))
