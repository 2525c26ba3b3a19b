-- `current_cc_value` meets its contract: the tests in their order (Asking), then the value.
use mathlib.Core.Path.{◌≡◌, sym, ◌∙◌}
use mathlib.Core.Bool.{Bool, ◌&&◌}
use mathlib.Core.List.{List}
use Prim.Native.Nat.{ℕ}
use lib.IntN.{ℤ}
use lib.ListN.{length}
use mir.Syntax.{w64}
use mir.Val.{SFits, to_z, of_z}
use mir.Facts.{to_z-of_z}
use Rattle.laws.proofs.Fitting.{back}
use Rattle.laws.proofs.Tests.{is_at, both}
use Rattle.numbers.specs.Ranges.{is_time, is_channel, is_controller}
use Rattle.eventlist.specs.Sound.{ok_events}
use Rattle.eventlist.proofs.Sound.{list-within}
use Rattle.cutting.specs.declared.Asked.{Asked}
use Rattle.cutting.proofs.Asking.{no-list, no-controller, no-numbers, well}
use Rattle.cutting.proofs.current_cc_value.Goals as goal

-- what is asked
abbrev asked : ℤ → ℤ → ℤ → Asked
asked channel time number = record { channel = channel; time = time; number = number }

-- the test of the numbers
tested : {time channel : ℤ} {t h r : Bool} (bytes : ℕ) (l : List ℤ) (count : ℕ) → SFits w64 time → SFits w64 channel
    → t ≡ is_time (to_z w64 (of_z w64 time)) → h ≡ is_channel (to_z w64 (of_z w64 channel)) → r ≡ ok_events bytes l count
    → (t && h && r) ≡ (is_time time && is_channel channel && ok_events bytes l count)
tested bytes l count p q a b d = both (both (is_at w64 is_time p.sfits a) (is_at w64 is_channel q.sfits b)) d

pub returns-then-not-list_ok : goal.returns-then-not-list_ok
returns-then-not-list_ok c =
    let a = c.args in
    let q = no-list (length a.store.now) a.events.now a.count (asked a.channel a.timepos a.number) (sym c.list_ok.ensures ∙ c.if-not-list_ok.true) in
    rw q

pub returns-then-not-is_controller : goal.returns-then-not-is_controller
returns-then-not-is_controller c =
    let a = c.args in
    let listed = sym c.list_ok.ensures ∙ c.if-not-list_ok.false in
    let n = sym (is_at w64 is_controller c.ranges.number.sfits c.is_controller.ensures) ∙ c.if-not-is_controller.true in
    let q = no-controller (length a.store.now) a.events.now a.count (asked a.channel a.timepos a.number) listed n in
    rw q

pub records_ok-requires : goal.records_ok-requires
records_ok-requires c = list-within c.args.events.now c.args.count (sym c.list_ok.ensures ∙ c.if-not-list_ok.false)

pub returns-then-not-is_time-is_channel : goal.returns-then-not-is_time-is_channel
returns-then-not-is_time-is_channel c =
    let a = c.args in
    let listed = sym c.list_ok.ensures ∙ c.if-not-list_ok.false in
    let n = sym (is_at w64 is_controller c.ranges.number.sfits c.is_controller.ensures) ∙ c.if-not-is_controller.false in
    let t = tested (length a.store.now) a.events.now a.count c.ranges.timepos c.ranges.channel c.is_time.ensures c.is_channel.ensures c.records_ok.ensures in
    let q = no-numbers (length a.store.now) a.events.now a.count (asked a.channel a.timepos a.number) listed n (sym t ∙ c.if-not-is_time-is_channel.true) in
    rw q

pub value_in-requires : goal.value_in-requires
value_in-requires c = list-within c.args.events.now c.args.count (sym c.list_ok.ensures ∙ c.if-not-list_ok.false)

pub returns : goal.returns
returns c =
    let a = c.args in
    let listed = sym c.list_ok.ensures ∙ c.if-not-list_ok.false in
    let n = sym (is_at w64 is_controller c.ranges.number.sfits c.is_controller.ensures) ∙ c.if-not-is_controller.false in
    let t = tested (length a.store.now) a.events.now a.count c.ranges.timepos c.ranges.channel c.is_time.ensures c.is_channel.ensures c.records_ok.ensures in
    let q = well (length a.store.now) a.events.now a.count (asked a.channel a.timepos a.number) listed n (sym t ∙ c.if-not-is_time-is_channel.false) in
    let e = rw (to_z-of_z c.ranges.channel, to_z-of_z c.ranges.timepos, to_z-of_z c.ranges.number) at c.value_in.ensures in
    rw (q, back w64 c.value_in.result c.value_in.type_inv, e)
