-- The document's counts, each under its one name.
use Rattle.std.specs.Prelude.{ℕ}

-- 01, "Numbers a caller may hand in": a list has at most 192 numbers (02, c)
abbrev pub list_limit : ℕ
list_limit = 192

-- 01, "Numbers a caller may hand in": sixteen reservations of each kind
abbrev pub places : ℕ
places = 16

-- 01, "Numbers a caller may hand in": layers 0 to 15
abbrev pub layer_limit : ℕ
layer_limit = 16

-- 01, "Cycles": one call makes at most 10,000 writes
abbrev pub cycle_writes : ℕ
cycle_writes = 10000

-- 01, "Numbers a caller may hand in": the budget's maximum and bytes used are at most 67,108,864
abbrev pub byte_limit : ℕ
byte_limit = 67108864

-- 01, "What comes across": a controller's or a bend's event counts 8 bytes
abbrev pub value_bytes : ℕ
value_bytes = 8
