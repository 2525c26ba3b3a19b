-- `OnNoteSine::new` asks the target, makes the sine and tests that.
use mathlib.Core.Path.{◌≡◌, sym, ap, ◌∙◌}
use mathlib.Core.Bool.{true}
use Prim.Native.Nat.{ℕ}
use lib.IntN.{ℤ}
use mir.Syntax.{w32}
use mir.Facts.{to_z-of_z}
use Rattle.laws.proofs.Tests.{is_at}
use Rattle.numbers.specs.Ranges.{is_target}
use Rattle.tables.specs.declared.OnNoteSine.{OnNoteSine}
use Rattle.tables.specs.Reservations.{ok_sine}
use Rattle.tables.specs.Tables.{sine_of, new_sine}
use Rattle.tables.proofs.OnNoteSine.new.Goals as goal

same : (s : ℕ) {t t' l l' h h' n n' k k' : ℤ} → t ≡ t' → l ≡ l' → h ≡ h' → n ≡ n' → k ≡ k' → sine_of t s l h n k ≡ sine_of t' s l' h' n' k'
same s p q r u v = cc

made : (t : ℤ) (s : ℕ) (l h n k : ℤ) → is_target t ≡ true → ok_sine (sine_of t s l h n k) ≡ true → record { code = 0; sine = sine_of t s l h n k } ≡ new_sine t s l h n k
unfolding new_sine
made t s l h n k a e = rw (a, e)

pub returns-then-not-is_target : goal.returns-then-not-is_target
unfolding new_sine
returns-then-not-is_target c =
    let aimed = is_at w32 {z = c.args.target} is_target c.ranges.target.sfits c.is_target.ensures in
    rw (c.number.ensures, c.blank-none.ensures, sym aimed ∙ c.if-not-is_target.true)

pub returns-then-not-sine_ok : goal.returns-then-not-sine_ok
unfolding new_sine
returns-then-not-sine_ok c =
    let f = c.ranges in
    let aimed = is_at w32 {z = c.args.target} is_target f.target.sfits c.is_target.ensures in
    let tested = c.sine_ok.ensures ∙ ap ok_sine (same c.args.shape (to_z-of_z f.target) (to_z-of_z f.low) (to_z-of_z f.high) (to_z-of_z f.length) (to_z-of_z f.times)) in
    rw (c.number-then-not-sine_ok.ensures, c.blank-none.ensures, sym aimed ∙ c.if-not-is_target.false, sym tested ∙ c.if-not-sine_ok.true)

pub returns : goal.returns
returns c =
    let f = c.ranges in
    let a = c.args in
    let aimed = is_at w32 {z = c.args.target} is_target f.target.sfits c.is_target.ensures in
    let s = same a.shape (to_z-of_z f.target) (to_z-of_z f.low) (to_z-of_z f.high) (to_z-of_z f.length) (to_z-of_z f.times) in
    ap (λ (x : OnNoteSine). record { code = 0; sine = x }) s
    ∙ made a.target a.shape a.low a.high a.length a.times (sym aimed ∙ c.if-not-is_target.false) (sym (c.sine_ok.ensures ∙ ap ok_sine s) ∙ c.if-not-sine_ok.false)
