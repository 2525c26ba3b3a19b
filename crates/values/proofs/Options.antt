-- What the test of an option says of its parts, and back.
--     option-ranged .. option-random   the parts
--     option-whole                     all of them make an option that passes
--     option-at                        a list of options that pass, read at any place
use mathlib.Core.Path.{◌≡◌, refl}
use mathlib.Core.Bool.{Bool, true, ◌&&◌, ◌||◌}
use mathlib.Core.List.{List}
use Prim.Native.Nat.{ℕ}
use lib.Dec.{eqb, leb}
use lib.ListN.{get_or}
use Rattle.laws.specs.Integers.{inside, sized}
use Rattle.laws.specs.Lists.{all}
use Rattle.laws.proofs.Ranges.{left, right}
use Rattle.laws.proofs.Parts.{all-get}
use Rattle.numbers.specs.Ranges.{is_number, is_length, is_random}
use Rattle.values.specs.declared.WriteOption.{WriteOption}
use Rattle.values.specs.Options.{new_option, ok_option}

module _ (o : WriteOption) where
  abbrev ends : Bool
  ends = eqb o.ranged 0 || (is_number o.low && is_number o.high)

  abbrev two : Bool
  two = leb o.ranged 1 && leb o.repeat 1

  abbrev three : Bool
  three = two && ends

  abbrev four : Bool
  four = three && is_length o.delay

  pub option-whole : leb o.ranged 1 ≡ true → leb o.repeat 1 ≡ true → ends ≡ true → is_length o.delay ≡ true → is_random o.random ≡ true → ok_option o ≡ true
  unfolding ok_option
  option-whole a b c d e = rw (a, b, c, d, e)

  module _ (e : ok_option o ≡ true) where
    to-four : four ≡ true
    unfolding ok_option
    to-four = left four (is_random o.random) e

    to-three : three ≡ true
    to-three = left three (is_length o.delay) to-four

    to-two : two ≡ true
    to-two = left two ends to-three

    pub option-ranged : leb o.ranged 1 ≡ true
    option-ranged = left (leb o.ranged 1) (leb o.repeat 1) to-two

    pub option-repeat : leb o.repeat 1 ≡ true
    option-repeat = right (leb o.ranged 1) (leb o.repeat 1) to-two

    pub option-ends : ends ≡ true
    option-ends = right two ends to-three

    pub option-delay : is_length o.delay ≡ true
    option-delay = right three (is_length o.delay) to-four

    pub option-random : is_random o.random ≡ true
    unfolding ok_option
    option-random = right four (is_random o.random) e

new-well : ok_option new_option ≡ true
unfolding ok_option is_length is_random sized inside
new-well = refl

pub option-at : (l : List WriteOption) (i : ℕ) → all ok_option l ≡ true → ok_option (get_or l i new_option) ≡ true
option-at l i e = all-get ok_option l i new_option new-well e
