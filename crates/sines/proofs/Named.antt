-- What a customer leans on of a sine's kind, an answer that is an enum.
--     named_back    the number of a kind names it
--     kind-once     no second kind has what is said of it
--     kind-told     so what is said of the kind that a number names is that kind
use mathlib.Core.Path.{◌≡◌, refl, sym, ap, ◌∙◌}
use lib.IntN.{ℤ, pos}
use lib.ListN.{get_or}
use Rattle.laws.specs.Answers.{Said}
use Rattle.sines.specs.declared.SineType.{SineType}
use Rattle.sines.specs.declared.SineType.TheVariants.{Sine, UpSine, DownSine}
use Rattle.sines.specs.Kinds.{sine_type, kind_said, kind_of}

abbrev named : Said → SineType
named s = sine_type (get_or s.values 0 (pos 0))

pub named_back : (k : SineType) → named (kind_said k) ≡ k
named_back Sine = refl
named_back UpSine = refl
named_back DownSine = refl

pub kind-once : (s : Said) (x y : SineType) → kind_said x ≡ s → kind_said y ≡ s → x ≡ y
kind-once s x y p q = sym (named_back x) ∙ ap named (p ∙ sym q) ∙ named_back y

pub kind-told : (v : ℤ) (r : SineType) → kind_said r ≡ kind_of v → r ≡ sine_type v
kind-told v r e = kind-once (kind_of v) r (sine_type v) e refl
