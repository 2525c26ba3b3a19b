-- The published format's own table of quantities, and every edge of a form.
use mathlib.Core.Path.{◌≡◌, refl}
use mathlib.Core.List.{[], ◌∷◌, map}
use Rattle.quantities.specs.Quantities.{quantity_of, met, not_met, quantity_from, quantity_in}

pub one_byte : map quantity_of (0 ∷ 64 ∷ 127 ∷ []) ≡ (0 ∷ []) ∷ (64 ∷ []) ∷ (127 ∷ []) ∷ []
unfolding quantity_of
one_byte = refl

pub two_bytes : map quantity_of (128 ∷ 8192 ∷ 16383 ∷ []) ≡ (129 ∷ 0 ∷ []) ∷ (192 ∷ 0 ∷ []) ∷ (255 ∷ 127 ∷ []) ∷ []
unfolding quantity_of
two_bytes = refl

pub three-bytes : map quantity_of (16384 ∷ 1048576 ∷ 2097151 ∷ []) ≡ (129 ∷ 128 ∷ 0 ∷ []) ∷ (192 ∷ 128 ∷ 0 ∷ []) ∷ (255 ∷ 255 ∷ 127 ∷ []) ∷ []
unfolding quantity_of
three-bytes = refl

pub four_bytes : map quantity_of (2097152 ∷ 134217728 ∷ 268435455 ∷ [])
    ≡ (129 ∷ 128 ∷ 128 ∷ 0 ∷ []) ∷ (192 ∷ 128 ∷ 128 ∷ 0 ∷ []) ∷ (255 ∷ 255 ∷ 255 ∷ 127 ∷ []) ∷ []
unfolding quantity_of
four_bytes = refl

-- a longer form than is needed is read, a fifth byte is not, and neither is a quantity that the bytes end in
pub longer-form : quantity_in (128 ∷ 128 ∷ 5 ∷ []) ≡ met 5 3
unfolding quantity_from
longer-form = refl

pub fifth-byte : quantity_in (129 ∷ 128 ∷ 128 ∷ 128 ∷ 0 ∷ []) ≡ not_met
unfolding quantity_from
fifth-byte = refl

pub cut_off : quantity_in (129 ∷ 128 ∷ []) ≡ not_met
unfolding quantity_from
cut_off = refl
