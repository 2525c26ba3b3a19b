-- Standard MIDI Files 1.0, variable-length quantities: a number below 2^28 in groups of seven bits, the highest first; of its bytes
-- all but the last have their top bit set. 02, b): gaps are written "as variable-length quantities", in their shortest form.
use Rattle.std.specs.Prelude.{Option, Some, None, cond, List, [], ◌∷◌, ℕ, zero, suc, ◌+◌, ◌*◌, ◌-◌, ◌/◌, ◌%◌, ◌^◌, ltb}
use Rattle.quantities.specs.declared.Quantity.{Quantity}

-- at most four bytes
abbrev pub quantity_bytes : ℕ
quantity_bytes = 4

-- the first number that has no quantity: 02, b) refuses "a gap above 268,435,455"
abbrev pub quantity_top : ℕ
quantity_top = 2 ^ 28

-- ---- written
-- the group that counts so much, and its byte where another stands behind it
abbrev pub group : ℕ → ℕ → ℕ
group unit q = q / unit % 128

abbrev pub followed : ℕ → ℕ
followed g = 128 + g

-- the lowest groups: one, two, three, four
abbrev pub lowest1 : ℕ → List ℕ
lowest1 q = q % 128 ∷ []

abbrev pub lowest2 : ℕ → List ℕ
lowest2 q = followed (group 128 q) ∷ lowest1 q

abbrev pub lowest3 : ℕ → List ℕ
lowest3 q = followed (group 16384 q) ∷ lowest2 q

abbrev pub lowest4 : ℕ → List ℕ
lowest4 q = followed (group 2097152 q) ∷ lowest3 q

-- as few as hold the number
unfoldable pub quantity_of : ℕ → List ℕ
quantity_of q = cond (ltb q 128) (lowest1 q) (cond (ltb q 16384) (lowest2 q) (cond (ltb q 2097152) (lowest3 q) (lowest4 q)))

-- ---- read
-- a quantity stands at the front, and has so many bytes; or none does
abbrev pub met : ℕ → ℕ → Option Quantity
met q used = Some (record { value = q; used = used })

abbrev pub not_met : Option Quantity
not_met = None

-- behind `used` bytes that say `value`, with at most k more: a byte below 128 is the last
unfoldable pub quantity_from : ℕ → ℕ → ℕ → List ℕ → Option Quantity
quantity_from zero value used l = not_met
quantity_from (suc k) value used [] = not_met
quantity_from (suc k) value used (b ∷ l) =
    cond (ltb b 128) (met (value * 128 + b) (used + 1)) (quantity_from k (value * 128 + (b - 128)) (used + 1) l)

-- the quantity at the front of a list of bytes, also in a longer form than is needed
abbrev pub quantity_in : List ℕ → Option Quantity
quantity_in l = quantity_from quantity_bytes 0 0 l
