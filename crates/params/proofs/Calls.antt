-- What a call answers that changes a parameter where its tests hold, and what the test of a parameter says of its parts.
use mathlib.Core.Path.{◌≡◌, refl, ap₂}
use mathlib.Core.Bool.{Bool, true, false, cond, ◌&&◌}
use mathlib.Core.List.{List}
use Prim.Native.Nat.{ℕ}
use lib.Dec.{ltb}
use lib.IntN.{ℤ}
use lib.ListN.{length}
use Rattle.laws.proofs.Ranges.{left, right}
use Rattle.std.proofs.Common.{Ok, Err}
use Rattle.numbers.specs.declared.refusals.Refusal.TheVariants.{TooMany, OutOfRange}
use Rattle.numbers.specs.Limits.{list_limit}
use Rattle.numbers.specs.Ranges.{is_number, is_length, is_random, absent_or}
use Rattle.reserved.specs.declared.Reserve.{Reserve}
use Rattle.reserved.specs.Reserve.{ok_reserve}
use Rattle.reserved.specs.Setting.{demand, list_demand, made_of}
use Rattle.params.specs.declared.NoteParam.{NoteParam}
use Rattle.params.specs.declared.ParamAnswer.{ParamAnswer}
use Rattle.params.specs.Param.{with_reserve, is_flag, ok_limits, ok_param}
use Rattle.params.specs.Calls.{answered, reserving}

-- what a call leaves that refuses where its tests fail, and changes the parameter where they hold
pub by_change : (ok : Bool) (a b : NoteParam) (r : ParamAnswer) → (ok ≡ false → r ≡ record { code = 4; param = a }) → (ok ≡ true → (r.code ≡ 0) × (r.param ≡ b)) → r ≡ answered (demand ok) a b
unfolding answered
by_change true a b r f g = ap₂ (λ (n : ℕ) (x : NoteParam). let left : ParamAnswer = record { code = n; param = x } in left) (g refl).0 (g refl).1
by_change false a b r f g = f refl

-- the same where something is to be reserved: n are the tests that the call makes, m those of what it reserves
pub by_making : (v : List ℤ) (a : NoteParam) (m n : Bool) (r : Reserve) → (ok_param a ≡ true → n ≡ m) → (ok_param a ≡ false → n ≡ false) → reserving (ok_param a) a (made_of v m r) ≡ answered (list_demand v (demand n)) a (with_reserve a r)
unfolding answered
by_making v a m n r f g = go (ltb list_limit (length v)) (ok_param a) m n f g
  where
    go : (l p m n : Bool) → (p ≡ true → n ≡ m) → (p ≡ false → n ≡ false) → reserving p a (cond l (Err TooMany) (cond m (Ok r) (Err OutOfRange))) ≡ answered (cond l 3 (demand n)) a (with_reserve a r)
    go true p m n f g = refl
    go false true true n f g = rw (f refl)
    go false true false n f g = rw (f refl)
    go false false true n f g = rw (g refl)
    go false false false n f g = rw (g refl)

module _ (a : NoteParam) (e : ok_param a ≡ true) where
  pub param-reserve : ok_reserve a.reserve ≡ true
  unfolding ok_param
  param-reserve = left (ok_reserve a.reserve) (is_length a.delay) (left (ok_reserve a.reserve && is_length a.delay) (ok_limits a) e)

  pub param-delay : is_length a.delay ≡ true
  unfolding ok_param
  param-delay = right (ok_reserve a.reserve) (is_length a.delay) (left (ok_reserve a.reserve && is_length a.delay) (ok_limits a) e)

  pub param-limits : ok_limits a ≡ true
  unfolding ok_param
  param-limits = right (ok_reserve a.reserve && is_length a.delay) (ok_limits a) e

pub limits-repeat : (a : NoteParam) → ok_limits a ≡ true → is_flag a.repeat ≡ true
unfolding ok_limits
limits-repeat a e =
    right
    (is_random a.random && is_flag a.ranged && absent_or a.ranged (is_number a.low && is_number a.high) && is_flag a.maxed && absent_or a.maxed (is_number a.max))
    (is_flag a.repeat) e
