-- A run over a source: each turn takes the next piece off what is left.
use mathlib.Core.Path.{◌≡◌, refl, sym, subst}
use mathlib.Core.Bool.{Bool, true, false, cond}
use mathlib.Core.List.{List, [], ◌∷◌, ◌++◌}
use Prim.Native.Nat.{ℕ, ◌+◌, ◌-◌, ◌≤◌, ◌<◌, ◌^◌, min}
use native.Mathlib.Omega.{arith}
use lib.ListN.{length, get_or}
use Rattle.std.specs.Prelude.{Option, Some, None}
use Rattle.offers.specs.declared.Piece.{Piece}
use Rattle.offers.specs.declared.Source.{Source}
use Rattle.offers.specs.Pieces.{total, offers, points_of, Drawn, Mild}
use Rattle.offers.specs.declared.Shape.{Shape}
use Rattle.offers.specs.Waves.{no_piece, with_len}
use Rattle.offers.specs.Sources.{rest_of, more_by, next_of, next_length, source_after, Sound, Tame}
use Rattle.offers.proofs.Sources.{rest-none, rest_more, sound-after}

pub record Ahead (ts : List Piece) (s₀ s : Source) (at : ℕ) : Type 0 where
  pub sound : Sound ts s
  pub tame : Tame (rest_of ts s)
  pub far : at + total (rest_of ts s) ≡ total (rest_of ts s₀)

-- what the next one says, by whether there is one
abbrev Says : List Piece → Source → Option (Piece × Source) → Type 0
Says ts s None = rest_of ts s ≡ []
Says ts s (Some (t, u)) = (rest_of ts s ≡ t ∷ rest_of ts u) × Sound ts u

says : (ts : List Piece) (s : Source) → Sound ts s → Says ts s (next_of ts s)
unfolding next_of
says ts s ok = go (more_by s.mode (length ts) s) refl
  where
    go : (b : Bool) → more_by s.mode (length ts) s ≡ b
        → Says ts s (cond b (Some (with_len (get_or ts s.at no_piece) (next_length ts s), source_after (length ts) s (next_length ts s))) None)
    go true e = (rest_more ts s ok e, sound-after ts s ok e _)
    go false e = rest-none ts s ok e

pub offers-more : (f : ℕ) (t : Piece) (us : List Piece) (m at : ℕ) → offers f (t ∷ us) m at ≡ points_of f at t (min t.len m) ++ offers f us (m - min t.len m) (at + t.len)
unfolding offers
offers-more f t us m at = let e : m - min t.len m ≡ m - t.len = omega arith in rw e

module _ {ts : List Piece} {s₀ s : Source} {at : ℕ} (v : Ahead ts s₀ s at) where
  pub over : next_of ts s ≡ None → rest_of ts s ≡ []
  over e = subst (λ (n : Option (Piece × Source)). Says ts s n) e (says ts s v.sound)

  module _ {t : Piece} {u : Source} (e : next_of ts s ≡ Some (t, u)) where
    told : (rest_of ts s ≡ t ∷ rest_of ts u) × Sound ts u
    told = subst (λ (n : Option (Piece × Source)). Says ts s n) e (says ts s v.sound)

    pub given : rest_of ts s ≡ t ∷ rest_of ts u
    given = told.0

    pub fewer : length (rest_of ts u) < length (rest_of ts s)
    fewer = rw given (omega arith)

    tames : Tame (t ∷ rest_of ts u)
    tames = rw given at v.tame

    pub reach : at + (t.len + total (rest_of ts u)) ≡ total (rest_of ts s₀)
    unfolding total
    reach = rw given at v.far

    pub mild : total (rest_of ts s₀) ≤ 2 ^ 40 → Mild t at
    mild h =
        let r = reach in
        let g = tames.0 in
        record {
          drawn = subst (λ (s : Shape). Drawn s t.low t.high t.len) (sym g.glide) (g.low, g.high, g.len);
          ends = omega arith;
        }

    pub on : Ahead ts s₀ u (at + t.len)
    on = let r = reach in record { sound = told.1; tame = tames.1; far = omega arith }
