-- `write_cc_on_cycle`: its number is asked by division (`quick`); where it is 0, the used records' run is what the call leaves, and
-- for a whole number of records that says every number of the list (`determined`).
use mathlib.Core.Path.{◌≡◌, sym, ap, ◌∙◌}
use mathlib.Core.Bool.{true, ◌&&◌}
use mathlib.Core.List.{List}
use Prim.Native.Nat.{ℕ}
use native.Mathlib.Omega.{arith}
use lib.IntN.{ℤ}
use mir.Syntax.{w32}
use mir.Val.{SFits}
use mir.Facts.{to_z-of_z}
use Rattle.laws.proofs.Ranges.{inside-mag}
use Rattle.numbers.specs.Ranges.{is_time, is_channel}
use Rattle.budget.specs.Budgets.{ok_budget}
use Rattle.eventlist.specs.Sound.{is_list}
use Rattle.eventlist.proofs.EventRows.{determined}
use Rattle.eventlist.proofs.Sound.{list-whole, list-within}
use Rattle.cycles.specs.declared.Called.{Called}
use Rattle.cycles.specs.Turns.{called_of}
use Rattle.state.specs.declared.Track.{Track}
use Rattle.state.specs.Tests.{ok_track, ok_lent}
use Rattle.state.proofs.Parts.{track-play}
use Rattle.state.proofs.Play.{play-channel}
use Rattle.state.proofs.Lent.{lent-track, lent-counted}
use Rattle.cycling.specs.declared.Cycled.{Cycled}
use Rattle.cycling.specs.Calls.{cycle_refusal}
use Rattle.cycling.proofs.Refusing.{quick, refused, listed, allowed, roomy, answer, list_left_lem, is-time, is-lent}
use Rattle.cycling.proofs.write_cc_on_cycle.Goals as goal
use Rattle.cycling.proofs.write_cc_on_cycle.Goals.{After-code_of-code}

channel-fits : (a : Track) → ok_track a ≡ true → SFits w32 a.channel
unfolding is_channel
channel-fits a e = record { sfits = omega (arith, inside-mag 15 a.channel (play-channel a (track-play a e))) }

-- a run's table, budget and count as the answer
abbrev as_cycled : Called → Cycled
as_cycled r = record { code = 0; count = r.count; budget = r.budget; cycles = r.table }

module _ (c : After-code_of-code) where
  abbrev l : List ℤ
  l = c.args.events.now

  abbrev number : ℕ
  number = cycle_refusal c.args.track c.args.size c.args.cycles c.args.until c.args.budget l c.args.count

  -- the number that was answered
  told : c.code_of-code.result ≡ number
  told =
      let a = c.args in
      c.code_of-code.ensures ∙ c.cycle_refusal.ensures ∙ rw (to_z-of_z c.ranges.until) (sym (quick a.track a.size a.cycles a.until a.budget l a.count))

  -- past it
  module _ (z : c.code_of-code.result ≡ 0) where
    zero : number ≡ 0
    zero = sym told ∙ z

    numbers-ok : (is_time c.args.until && ok_lent c.args.track c.args.cycles && ok_budget c.args.budget) ≡ true
    numbers-ok = allowed c.args.track c.args.size c.args.cycles c.args.until c.args.budget l c.args.count zero

    table-ok : ok_lent c.args.track c.args.cycles ≡ true
    table-ok = is-lent c.args.track c.args.cycles c.args.until c.args.budget numbers-ok

    list-ok : is_list l c.args.count ≡ true
    list-ok = listed c.args.track c.args.size c.args.cycles c.args.until c.args.budget l c.args.count zero

    on-channel : SFits w32 c.args.track.channel
    on-channel = channel-fits c.args.track (lent-track c.args.track c.args.cycles table-ok)

pub returns-then-code-ne0 : goal.returns-then-code-ne0
returns-then-code-ne0 c =
    let a = c.args in
    let s = (goal.at.returns-then-code-ne0 c).After-code_of-code in
    let r = refused a.track a.size a.cycles a.until a.budget (l s) a.count (λ z. c.if-code-ne0.true (told s ∙ z)) in
    (rw (told s) r.0, r.1)

pub run_table-r-requires : goal.run_table-r-requires
run_table-r-requires c =
    let a = c.args in
    let s = (goal.at.run_table-r-requires c).After-code_of-code in
    let z = c.if-code-ne0.false in
    rw (to_z-of_z c.ranges.until, to_z-of_z (on-channel s z)) (
      lent-counted a.track a.cycles (table-ok s z),
      is-time a.track a.cycles a.until a.budget (numbers-ok s z),
      list-within (l s) a.count (list-ok s z),
      roomy a.track a.size a.cycles a.until a.budget (l s) a.count (zero s z),
    )

pub returns : goal.returns
returns c =
    let a = c.args in
    let s = (goal.at.returns c).After-code_of-code in
    let z = c.if-code-ne0.false in
    let q = rw (to_z-of_z c.ranges.until, to_z-of_z (on-channel s z)) at c.run_table-r.ensures in (
      ap as_cycled q.0 ∙ unfold called_of in sym (answer a.track a.size a.cycles a.until a.budget (l s) a.count (zero s z)),
      determined (l s) c.run_table-r.new.events _ (list-whole (l s) a.count (list-ok s z)) c.run_table-r.auto.events q.1
          ∙ sym (list_left_lem a.track a.size a.cycles a.until a.budget (l s) a.count (zero s z)),
    )
