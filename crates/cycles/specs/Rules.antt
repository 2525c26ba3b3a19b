-- 01, "Numbers a caller may hand in": what a stored cycle may hold.
use Rattle.std.specs.Prelude.{Bool, ◌&&◌, List, map, ℕ, ltb, pos}
use Rattle.std.specs.Int.Signed.{le_z}
use Rattle.laws.specs.Lists.{all}
use Rattle.laws.specs.Keys.{distinct}
use Rattle.numbers.specs.Ranges.{is_target, is_length, is_stored_time}
use Rattle.counted.specs.Numbers.{none, ok_numbers}
use Rattle.cycles.specs.declared.Cycle.{Cycle}
use Rattle.cycles.specs.Due.{key}

-- what an unused place of a table of cycles holds
abbrev pub no_cycle : Cycle
no_cycle = record { target = pos 0; length = pos 0; next = pos 0; index = 0; values = none }

-- "a stored target cycle has length and count of at least 1 and a position below its count"
unfoldable pub ok_cycle : Cycle → Bool
ok_cycle c =
    is_target c.target && le_z (pos 1) c.length && is_length c.length && is_stored_time c.next
    && ok_numbers c.values && ltb c.index c.values.count

abbrev pub keys_of : List Cycle → List ℕ
keys_of tab = map (λ (c : Cycle). key c.target) tab

-- each record well, and "a target has at most one reservation"
unfoldable pub ok_table : List Cycle → Bool
ok_table tab = all ok_cycle tab && distinct (keys_of tab)
