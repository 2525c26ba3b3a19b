-- The two options are equal where something was offered and its value is the last one's.
use mathlib.Core.Path.{◌≡◌, refl, ◌∙◌}
use mathlib.Core.Bool.{true, ◌&&◌}
use lib.IntN.{ℤ, pos}
use lib.Signed.{le_z}
use mir.Syntax.{w32, w64}
use mir.Val.{to_z, of_z}
use mir.Facts.{to_z-of_z}
use borrow.Author.Rules.{rules}
use Rattle.std.specs.Prelude.{Option, Some, None, is_some, unwrap_or}
use Rattle.std.specs.Option.{option_eq}
use Rattle.std.specs.Ordering.{int_eq}
use Rattle.laws.specs.Integers.{eq_z}
use Rattle.std.proofs.lemmas.Bool.Decides.{Decides-int_eq, same_from_decides}
use Rattle.laws.proofs.Bits.{eq_z-true, eq_z-refl}
use Rattle.laws.proofs.Signed.{le-back-l}
use Rattle.offers.specs.Rules.{rule_of}
use Rattle.offers.proofs.is_dropped.Goals as goal

int-eq : (a b : ℤ) → int_eq a b ≡ eq_z a b
int-eq a b = same_from_decides (int_eq a b) (eq_z a b) (Decides-int_eq a b) (eq_z-true a b, λ e. rw e (eq_z-refl b))

held : (k : Option ℤ) (v : ℤ) → option_eq int_eq k (Some v) ≡ (is_some k && eq_z (unwrap_or k (pos 0)) v)
held None v = refl
held (Some x) v = int-eq x v

pub returns-then-w-le0 : goal.returns-then-w-le0
unfolding rule_of
returns-then-w-le0 c =
    let q : le_z c.args.w.option.random (pos 0) ≡ true = le-back-l {w = w32} {a = c.args.w.option.random} (pos 0) (search rules) c.if-w-le0.true in
    let v : to_z w64 (of_z w64 c.args.o.value) ≡ c.args.o.value = to_z-of_z {w = w64} {z = c.args.o.value} (search rules) in
    c.eq.ensures ∙ rw (held, v, q)
