use mathlib.Core.Path.{◌≡◌, ap, ◌∙◌}
use native.Mathlib.Omega.{arith}
use lib.IntN.{ℤ, pos, ◌+ℤ◌}
use mir.Syntax.{w32, w64}
use mir.Val.{SFits, to_z, of_z}
use mir.Facts.{to_z-of_z, to_z_pos}
use borrow.Author.Rules.{rules, sfits_of}
use Rattle.laws.proofs.Signed.{mag-add}
use Rattle.eventlist.specs.declared.Window.{Window}
use Rattle.values.specs.Value.{kind_of}
use Rattle.writing.specs.Calls.{window_of}
use Rattle.writing.proofs.window_of.Goals as goal

window : {k l n m a b d e : ℤ} → k ≡ l → n ≡ m → a ≡ b → d ≡ e → ◌≡◌ {A = Window} (record { kind = k; number = n; start = a; end = d }) (record { kind = l; number = m; start = b; end = e })
window p q r s = cc

module _ (c : goal.After-from) where
  target_is : to_z w32 (of_z w32 c.args.w.target) ≡ c.args.w.target
  target_is = to_z-of_z {w = w32} {z = c.args.w.target} (search rules)

  start-bits : to_z w64 (of_z w64 c.start_of-start.result) ≡ c.start_of-start.result
  start-bits = to_z-of_z {w = w64} (sfits_of c.start_of-start.type_inv)

  long-is : to_z w64 c.args.long ≡ pos c.args.long
  long-is = let r = c.requires.1 in to_z_pos w64 (omega arith)

  fit : SFits w64 (c.start_of-start.result +ℤ pos c.args.long)
  fit =
      let m = c.start_of-start.ensures.1 in
      let r = c.requires.1 in
      omega (arith, mag-add c.start_of-start.result (pos c.args.long))

pub returns : goal.returns
unfolding window_of
returns c =
    window
    (to_z-of_z {w = w64} (sfits_of c.kind_of.type_inv) ∙ c.kind_of.ensures ∙ ap kind_of (target_is c))
    (to_z-of_z {w = w64} (sfits_of c.from.type_inv) ∙ c.from.ensures ∙ target_is c)
    (start-bits c ∙ c.start_of-start.ensures.0)
    (rw (start-bits c, long-is c) (to_z-of_z (fit c) ∙ ap (λ (z : ℤ). z +ℤ pos c.args.long) c.start_of-start.ensures.0))
