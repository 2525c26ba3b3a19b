-- The number of a part's answer is the one that it was chosen by.
use mathlib.Core.Path.{◌≡◌, refl, sym}
use mathlib.Core.Bool.{Bool, true, false, cond}
use Prim.Native.Nat.{ℕ}
use borrow.Author.Tests.{eqb-true}
use lib.Dec.{eqb}
use lib.IntN.{ℤ, pos}
use Rattle.reserved.specs.declared.Taken.{Taken}
use Rattle.params.specs.declared.NoteParam.{NoteParam}
use Rattle.params.specs.declared.ParamAnswer.{ParamAnswer}
use Rattle.params.specs.declared.ParamValue.{ParamValue}
use Rattle.params.specs.Param.{with_reserve}
use Rattle.params.specs.Calls.{answered, given}

module _ (n : ℕ) (a : NoteParam) where
  abbrev left_by_lem : Bool → NoteParam → ParamAnswer
  left_by_lem t b = cond t (record { code = 0; param = b }) (record { code = n; param = a })

  abbrev given_by : Bool → Taken → ParamValue
  given_by t k =
      cond t (record { code = 0; value = k.value; param = with_reserve a k.reserve }) (record { code = n; value = pos 0; param = a })

  pub param-code : (b : NoteParam) → (answered n a b).code ≡ n
  unfolding answered
  param-code b = go (eqb n 0) (eqb-true n 0)
    where
      go : (t : Bool) → (t ≡ true → n ≡ 0) → (left_by_lem t b).code ≡ n
      go true f = sym (f refl)
      go false f = refl

  pub value-code : (k : Taken) → (given n a k).code ≡ n
  unfolding given
  value-code k = go (eqb n 0) (eqb-true n 0)
    where
      go : (t : Bool) → (t ≡ true → n ≡ 0) → (given_by t k).code ≡ n
      go true f = sym (f refl)
      go false f = refl

  -- ---- and what it carries is one of the two that it was chosen from
  module _ (good : NoteParam → Bool) (k : Taken) where
    pub given-param : good a ≡ true → good (with_reserve a k.reserve) ≡ true → good (given n a k).param ≡ true
    unfolding given
    given-param p q = go (eqb n 0)
      where
        go : (t : Bool) → good (given_by t k).param ≡ true
        go true = q
        go false = p

  module _ (good : ℤ → Bool) (k : Taken) where
    pub given-value : good (pos 0) ≡ true → good k.value ≡ true → good (given n a k).value ≡ true
    unfolding given
    given-value p q = go (eqb n 0)
      where
        go : (t : Bool) → good (given_by t k).value ≡ true
        go true = q
        go false = p
