-- A curve's list is laid into a counted one to be tested: the test is that of the list.
use mathlib.Core.Path.{◌≡◌, refl, sym, ap, ◌∙◌}
use mathlib.Core.Bool.{Bool, true, false, cond}
use mathlib.Core.List.{List}
use borrow.Author.Tests.{ltb-true, ltb-false, leb-true, lt-leb, le-leb, le-ltb}
use lib.Dec.{leb, ltb}
use lib.IntN.{ℤ}
use lib.ListN.{length}
use Rattle.numbers.specs.Limits.{list_limit}
use Rattle.std.proofs.Common.{Result, Ok, Err}
use Rattle.std.specs.Result.{is_ok, result_unwrap_or}
use Rattle.numbers.specs.declared.refusals.Refusal.{Refusal}
use Rattle.numbers.specs.declared.refusals.Refusal.TheVariants.{TooMany}
use Rattle.counted.specs.declared.Numbers.{Numbers}
use Rattle.counted.specs.Numbers.{none, numbers, numbers_of}
use Rattle.counted.specs.Curves.{is_curve, ok_curve}
use Rattle.counted.proofs.Counted.{laid-curve}

module _ (v : List ℤ) where
  abbrev laid : Bool → Result Numbers Refusal
  laid t = cond t (Err TooMany) (Ok (numbers v))

  pub laid-short : is_ok (numbers_of v) ≡ leb (length v) list_limit
  laid-short = go (ltb list_limit (length v)) refl
    where
      go : (t : Bool) → ltb list_limit (length v) ≡ t → is_ok (laid t) ≡ leb (length v) list_limit
      go true e = sym (lt-leb (length v) list_limit (ltb-true list_limit (length v) e))
      go false e = sym (le-leb (length v) list_limit (ltb-false list_limit (length v) e))

  pub laid-test : leb (length v) list_limit ≡ true → ok_curve (result_unwrap_or (numbers_of v) none) ≡ is_curve v
  laid-test e =
      let h = leb-true (length v) list_limit e in
      ap (λ (t : Bool). ok_curve (result_unwrap_or (laid t) none)) (le-ltb list_limit (length v) h) ∙ laid-curve v h
