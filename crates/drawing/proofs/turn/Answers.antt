-- `turn`: the target, read back, has the key or not.
use mathlib.Core.Path.{◌≡◌, ap, ◌∙◌}
use Prim.Native.Nat.{ℕ}
use borrow.Author.Rules.{rules}
use borrow.Author.Tests.{eq-eqb, ne_eqb}
use lib.IntN.{ℤ}
use mir.Syntax.{w32}
use mir.Val.{SFits, to_z, of_z}
use mir.Facts.{to_z-of_z}
use Rattle.cycles.specs.Due.{key}
use Rattle.tables.specs.Sixteen.{keyed}
use Rattle.tables.specs.Tables.{note_at}
use Rattle.drawing.specs.Options.{turned}
use Rattle.drawing.proofs.turn.Goals as goal

same_key : {n : ℕ} (z : ℤ) → SFits w32 z → n ≡ key (to_z w32 (of_z w32 z)) → n ≡ key z
same_key z f e = e ∙ ap key (to_z-of_z f)

pub returns-then-key_of-k : goal.returns-then-key_of-k
unfolding turned keyed
returns-then-key_of-k c =
    let f : SFits w32 c.args.e.target = search rules in
    rw (to_z-of_z f, ← same_key c.args.e.target f c.key_of.ensures, eq-eqb _ _ c.if-key_of-k.true)

pub returns-else-key_of-k : goal.returns-else-key_of-k
unfolding turned keyed
returns-else-key_of-k c =
    let f : SFits w32 c.args.e.target = search rules in
    rw (← same_key c.args.e.target f c.key_of.ensures, ne_eqb _ _ c.if-key_of-k.false)
