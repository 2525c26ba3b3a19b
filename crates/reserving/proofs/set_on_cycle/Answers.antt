-- `set_on_cycle`: what is set, with a cycle, or what is freed (Settling).
use mathlib.Core.Path.{◌≡◌, sym, ap, ◌∙◌}
use mathlib.Core.Bool.{Bool, cond, ◌&&◌, ◌||◌}
use borrow.Author.Rules.{rules}
use mir.Syntax.{w32, w64}
use mir.Val.{SFits}
use mir.Facts.{to_z-of_z}
use Rattle.laws.proofs.Tests.{both, is_at}
use Rattle.numbers.specs.Ranges.{is_length}
use Rattle.counted.specs.declared.Numbers.{Numbers}
use Rattle.std.proofs.Common.{Result}
use Rattle.std.specs.Result.{is_ok, result_unwrap_or}
use Rattle.numbers.specs.declared.refusals.Refusal.{Refusal}
use Rattle.counted.specs.Numbers.{none, ok_numbers}
use Rattle.cycles.specs.declared.Cycle.{Cycle}
use Rattle.reserving.specs.declared.Kept.{Kept}
use Rattle.reserving.specs.Setting.{cycle_of, cycle_room, with_cycle, only_removes, set_on_cycle}
use Rattle.reserving.specs.Clearing.{reserving}
use Rattle.reserving.proofs.Settling.{relisted}
use Rattle.reserving.proofs.set_on_cycle.Goals.{After-numbers_ok}
use Rattle.reserving.proofs.set_on_cycle.Goals as goal

module _ (c : After-numbers_ok) where
  abbrev v : Result Numbers Refusal
  v = c.numbers_of-listed.result

  abbrev list : Numbers
  list = result_unwrap_or v none

  list_is : c.unwrap_or-values.result ≡ list
  list_is = rw c.empty.ensures at c.unwrap_or-values.ensures

  abbrev ok : Numbers → Bool
  ok x = is_length c.args.length && ok_numbers x

  abbrev gone : Numbers → Bool
  gone x = only_removes c.args.length x

  abbrev made : Numbers → Cycle
  made x = cycle_of c.args.target c.args.length c.args.track.timepos x

  abbrev room : Bool → Kept → Bool
  room b f = b || cycle_room f

  abbrev put : Numbers → Bool → Kept → Kept
  put x b f = cond b f (with_cycle (made x) f)

  tested : (c.is_length.result && c.numbers_ok.result) ≡ ok list
  tested = both (is_at w32 is_length c.ranges.length.sfits c.is_length.ensures) (c.numbers_ok.ensures ∙ ap ok_numbers list_is)

  abbrev by : Bool → Kept
  by b = reserving c.args.track c.args.size c.args.cycles c.args.target (is_ok v) (ok list) (room b) (put list b)

  whole : by (gone list) ≡ set_on_cycle c.args.track c.args.size c.args.cycles c.args.target c.args.length c.args.list.now
  unfolding set_on_cycle
  whole =
      relisted c.args.track c.args.size c.args.cycles c.args.target c.args.list.now ok (λ (x : Numbers). room (gone x))
      (λ (x : Numbers). put x (gone x)) c.numbers_of-listed.ensures

  -- by whether the call only removes
  chosen : {b : Bool} → gone list ≡ b → by b ≡ set_on_cycle c.args.track c.args.size c.args.cycles c.args.target c.args.length c.args.list.now
  chosen e = ap by (sym e) ∙ whole

pub returns-then-length-values : goal.returns-then-length-values
returns-then-length-values c =
    let d = (goal.at.returns-then-length-values c).After-numbers_ok in
    rw (to_z-of_z c.ranges.target, c.is_ok-short.ensures.value, tested d) at c.freed.ensures
    ∙ chosen d (rw (to_z-of_z c.ranges.length, list_is d) at c.if-length-values.true)

pub returns : goal.returns
returns c =
    let d = (goal.at.returns c).After-numbers_ok in
    let f : SFits w64 c.args.track.timepos = search rules in
    rw (to_z-of_z c.ranges.target, to_z-of_z c.ranges.length, to_z-of_z f, c.is_ok-short.ensures.value, tested d, list_is d) at c.set.ensures
    ∙ chosen d (rw (to_z-of_z c.ranges.length, list_is d) at c.if-length-values.false)
