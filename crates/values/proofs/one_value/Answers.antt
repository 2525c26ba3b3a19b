-- The budget's random step and the option's range give the value that the definition says (`spread-seed`), the bytes are asked of the
-- budget after that step.
use mathlib.Core.Path.{◌≡◌, sym, ap, ap₂, subst, ◌∙◌}
use mathlib.Core.Bool.{Bool}
use native.Mathlib.Omega.{arith}
use Prim.Native.Nat.{◌≤◌, ◌<◌, ◌^◌}
use lib.IntN.{ℤ, pos, negsuc}
use lib.Signed.{mag}
use mir.Syntax.{w32, w64}
use mir.Val.{SFits, to_z, of_z}
use mir.Facts.{to_z-of_z}
use borrow.Author.Rules.{sfits_of}
use Rattle.laws.specs.Integers.{cut}
use Rattle.numbers.specs.Random.{spread, next_rand}
use Rattle.numbers.proofs.Spreading.{spread-mag}
use Rattle.budget.specs.declared.Rolled.{Rolled}
use Rattle.budget.specs.declared.Budget.{Budget}
use Rattle.budget.specs.Budgets.{rolled, reserved, fits}
use Rattle.events.specs.declared.Event.{Event}
use Rattle.values.specs.declared.Offer.{Offer}
use Rattle.values.specs.declared.Write.{Write}
use Rattle.values.specs.declared.Wrote.{Wrote}
use Rattle.values.specs.Options.{moved, limited, range_in}
use Rattle.values.specs.Clamp.{clamped}
use Rattle.values.specs.Value.{Near, event_for, event_of_offer, next_seed, time_of, wrote_of}
use Rattle.values.proofs.Paying.{spread-seed}
use borrow.Author.Rules.{rules}
use Rattle.values.proofs.one_value.Goals as goal
use Rattle.values.proofs.one_value.Goals.{After-make_event}

cut-le : (z : ℤ) → cut z ≤ mag z
cut-le (pos n) = omega arith
cut-le (negsuc n) = omega arith

event-same : {t u v w g h x y : ℤ} → t ≡ u → v ≡ w → g ≡ h → x ≡ y → event_for t v g x ≡ event_for u w h y
event-same p q r s = cc

wrote : {x y : Budget} {e f : Event} {s t : Bool} → x ≡ y → e ≡ f → s ≡ t → ◌≡◌ {A = Wrote} (record { budget = x; event = e; fits = s }) (record { budget = y; event = f; fits = t })
wrote p q r = cc

-- the value that random gave, and the budget after it
module _ (w : Write) (b : Budget) (o : Offer) {x : ℤ} {r : Rolled} (n : Near o) (m : mag w.option.random < 2 ^ 31)
    (p : x ≡ to_z w32 (of_z w32 w.option.random)) (q : r ≡ rolled (to_z w64 (of_z w64 o.value)) (to_z w64 (of_z w64 x)) b) where
  value-is : to_z w64 (of_z w64 o.value) ≡ o.value
  value-is = let k = n.value in to_z-of_z (let f : SFits w64 o.value = omega arith in f)

  random-is : to_z w64 (of_z w64 x) ≡ w.option.random
  random-is =
      let e = p ∙ to_z-of_z {w = w32} {z = w.option.random} (record { sfits = m }) in
      rw e (to_z-of_z (let f : SFits w64 w.option.random = omega arith in f))

  rolled-is : r ≡ rolled o.value w.option.random b
  rolled-is = q ∙ ap₂ (λ (v n : ℤ). rolled v n b) value-is random-is

  rolled-small : mag r.value < 2 ^ 38
  rolled-small =
      let e : r.value ≡ spread o.value w.option.random (next_rand b.seed) = ap (λ (r : Rolled). r.value) rolled-is in
      let v = n.value in
      let k = cut-le w.option.random in
      subst (λ (z : ℤ). mag z < 2 ^ 38) (sym e) (omega (arith, spread-mag o.value w.option.random (next_rand b.seed)))

  rolled-bits : to_z w64 (of_z w64 r.value) ≡ r.value
  rolled-bits = let h = rolled-small in to_z-of_z (let f : SFits w64 r.value = omega arith in f)

-- the value that is clamped, and the event that it becomes
module _ (c : After-make_event) where
  abbrev w : Write
  w = c.args.w

  random-small : mag w.option.random < 2 ^ 31
  random-small = search rules

  roll : c.calc_rand_value-moved.result ≡ rolled c.args.o.value w.option.random c.args.b
  roll = rolled-is w c.args.b c.args.o c.requires.1 random-small c.from.ensures c.calc_rand_value-moved.ensures

  seed-is : spread c.args.o.value w.option.random (next_rand c.args.b.seed) ≡ spread c.args.o.value w.option.random (next_seed w c.args.b.seed)
  seed-is = spread-seed c.args.o.value w.option.random c.args.b.seed

  limit_is : c.limit.result ≡ moved w.option c.args.o.value (next_seed w c.args.b.seed)
  unfolding moved
  limit_is =
      let bits = rolled-bits w c.args.b c.args.o c.requires.1 random-small c.from.ensures c.calc_rand_value-moved.ensures in
      c.limit.ensures.0 ∙ ap (limited (range_in w.option)) (bits ∙ ap (λ (r : Rolled). r.value) roll ∙ seed-is)

  target-bits : to_z w32 (of_z w32 w.target) ≡ w.target
  target-bits = to_z-of_z {w = w32} {z = w.target} (record { sfits = search rules })

  channel-bits : to_z w32 (of_z w32 w.channel) ≡ w.channel
  channel-bits = to_z-of_z {w = w32} {z = w.channel} (record { sfits = search rules })

  clamp-is : to_z w64 (of_z w64 c.clamp-v.result) ≡ clamped w.target (moved w.option c.args.o.value (next_seed w c.args.b.seed))
  clamp-is =
      to_z-of_z {w = w64} (sfits_of c.clamp-v.type_inv) ∙ c.clamp-v.ensures
      ∙ ap₂ clamped target-bits (to_z-of_z {w = w64} (sfits_of c.limit.type_inv) ∙ limit_is)

  time-is : to_z w64 (of_z w64 c.time_of.result) ≡ time_of w c.args.o.step
  time-is = to_z-of_z {w = w64} (sfits_of c.time_of.type_inv) ∙ c.time_of.ensures

  event-is : c.make_event.result ≡ event_of_offer w c.args.o (next_seed w c.args.b.seed)
  unfolding event_of_offer
  event-is = c.make_event.ensures ∙ event-same target-bits time-is channel-bits clamp-is

pub limit-requires : goal.limit-requires
limit-requires c =
    let m : mag c.args.w.option.random < 2 ^ 31 = search rules in
    let e = c.calc_rand_value-moved.ensures in
    let p = c.from.ensures in
    rw (rolled-bits c.args.w c.args.b c.args.o c.requires.1 m p e) (rolled-small c.args.w c.args.b c.args.o c.requires.1 m p e)

pub returns : goal.returns
unfolding wrote_of
returns c =
    wrote
    (c.reserve_event-asked.ensures.0 ∙ ap (λ (x : Rolled). reserved 8 x.budget) (roll c))
    (event-is c)
    (c.reserve_event-asked.ensures.1 ∙ ap (λ (x : Rolled). fits 8 x.budget) (roll c))
