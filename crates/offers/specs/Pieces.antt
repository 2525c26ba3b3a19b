-- 01, "On-time curves" and "Sine": the offers of a list of pieces, each a glide or a sine, one after the other.
use Rattle.std.specs.Prelude.{List, [], ◌∷◌, ◌++◌, ℕ, zero, suc, ◌+◌, ◌-◌, ◌/◌, ◌%◌, ◌≤◌, ◌<◌, ◌^◌, min, ℤ}
use Rattle.std.specs.Int.Signed.{mag}
use Rattle.shapes.specs.Curve.{curve_of}
use Rattle.sines.specs.Sine.{sine_of}
use Rattle.values.specs.declared.Offer.{Offer}
use Rattle.offers.specs.declared.Piece.{Piece}
use Rattle.offers.specs.declared.Shape.{Shape}
use Rattle.offers.specs.declared.Shape.TheVariants.{Glide, Turn}

-- the value at step j: of a glide over the whole length, of a sine over the turn in which j lies
unfoldable pub value_by : Shape → ℤ → ℤ → ℕ → ℕ → ℤ
value_by Glide low high len j = curve_of low high j len
value_by (Turn stype turn) low high len j = sine_of stype low high (j % turn) turn

abbrev pub value_at : Piece → ℕ → ℤ
value_at t j = value_by t.shape t.low t.high t.len j

-- the point at step j of a piece that begins `at` steps after the start
abbrev pub point_at : ℕ → Piece → ℕ → Offer
point_at at t j = record { step = at + j; value = value_at t j }

-- how many of 0, f, 2f, .. lie below g
unfoldable pub steps : ℕ → ℕ → ℕ
steps zero f = zero
steps (suc d) f = suc (d / f)

-- n points, from step j on, freq apart
unfoldable pub points : ℕ → ℕ → Piece → ℕ → ℕ → List Offer
points freq at t zero j = []
points freq at t (suc n) j = point_at at t j ∷ points freq at t n (j + freq)

-- "at steps j divisible by the frequency", within the first k steps of the piece
abbrev pub points_of : ℕ → ℕ → Piece → ℕ → List Offer
points_of freq at t k = points freq at t (steps k freq) 0

-- s steps in all; a piece that outlasts them leaves 0 to the later ones, so nothing has to stop
unfoldable pub offers : ℕ → List Piece → ℕ → ℕ → List Offer
offers freq [] s at = []
offers freq (t ∷ ts) s at = points_of freq at t (min t.len s) ++ offers freq ts (s - t.len) (at + t.len)

-- "total being the sum of positive lengths"
unfoldable pub total : List Piece → ℕ
total [] = 0
total (t ∷ ts) = t.len + total ts

-- ---- a piece whose values and times stay in range
abbrev pub Drawn : Shape → ℤ → ℤ → ℕ → Type 0
Drawn Glide low high len = (mag low ≤ 2 ^ 22) × (mag high ≤ 2 ^ 22) × (len ≤ 2 ^ 24)
Drawn (Turn stype turn) low high len = (mag low ≤ 16383) × (mag high ≤ 16383) × (0 < turn) × (turn ≤ 2 ^ 20)

pub record Mild (t : Piece) (at : ℕ) : Type 0 where
  pub drawn : Drawn t.shape t.low t.high t.len
  pub ends : at + t.len ≤ 2 ^ 42
