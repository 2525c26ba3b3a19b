use mathlib.Core.Path.{◌≡◌, sym, ap, ap₂, subst, ◌∙◌}
use Prim.Native.Nat.{ℕ, ◌*◌, max}
use lib.IntN.{ℤ}
use mir.Syntax.{w64}
use mir.Val.{to_z, of_z}
use mir.Facts.{to_z-of_z}
use borrow.Author.Rules.{sfits_of}
use Rattle.laws.specs.Integers.{cut}
use Rattle.sines.specs.declared.SineType.{SineType}
use Rattle.offers.specs.declared.Piece.{Piece}
use Rattle.offers.specs.declared.Shape.TheVariants.{Turn}
use Rattle.offers.specs.Pieces.{Mild}
use Rattle.writing.specs.Sines.{sine_piece}
use Rattle.writing.proofs.Drawing.{sine-mild}
use Rattle.writing.proofs.sine_piece.Goals as goal
use Rattle.writing.proofs.sine_piece.Goals.{After-max}

piece : {stype : SineType} {a b c d : ℤ} {k l m n : ℕ} → a ≡ b → c ≡ d → k ≡ l → m ≡ n → ◌≡◌ {A = Piece} (record { low = a; high = c; len = k; shape = Turn stype m }) (record { low = b; high = d; len = l; shape = Turn stype n })
piece p q r s = cc

module _ (c : After-max) where
  abbrev turn : ℕ
  turn = c.length_of-turn.result

  abbrev turns : ℕ
  turns = c.max-turns.result

  turn_is : turn ≡ cut c.args.len
  turn_is =
      c.length_of-turn.ensures ∙ ap cut (to_z-of_z {w = w64} (sfits_of c.from.type_inv) ∙ c.from.ensures ∙ to_z-of_z c.ranges.len)

  turns-are : turns ≡ max (cut c.args.times) 1
  turns-are =
      c.max-turns.ensures
      ∙ ap (λ (n : ℕ). max n 1) (c.length_of.ensures ∙ ap cut (to_z-of_z {w = w64} (sfits_of c.from-2.type_inv) ∙ c.from-2.ensures ∙ to_z-of_z c.ranges.times))

  low-is : to_z w64 (of_z w64 c.from-3.result) ≡ c.args.low
  low-is = to_z-of_z {w = w64} (sfits_of c.from-3.type_inv) ∙ c.from-3.ensures ∙ to_z-of_z c.ranges.low

  high_is : to_z w64 (of_z w64 c.from-4.result) ≡ c.args.high
  high_is = to_z-of_z {w = w64} (sfits_of c.from-4.type_inv) ∙ c.from-4.ensures ∙ to_z-of_z c.ranges.high

pub returns : goal.returns
unfolding sine_piece
returns c =
    let A = c.args in
    let e : ◌≡◌ {A = Piece} (record { low = to_z w64 (of_z w64 c.from-3.result); high = to_z w64 (of_z w64 c.from-4.result); len = turn c * turns c; shape = Turn A.stype c.max.result }) (sine_piece A.stype A.low A.high A.len A.times) =
    piece (low-is c) (high_is c) (ap₂ (λ (x y : ℕ). x * y) (turn_is c) (turns-are c)) (c.max.ensures ∙ ap (λ (x : ℕ). max x 1) (turn_is c)) in
    (e, subst (λ (x : Piece). Mild x 0) (sym e) (sine-mild A.stype A.low A.high A.len A.times c.requires.0 c.requires.1 c.requires.2 c.requires.3))
