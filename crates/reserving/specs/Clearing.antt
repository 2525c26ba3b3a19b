-- 01, "Cycles" and "Numbers that come back": what every setter of a reservation does with a track and the cycle table that is
-- lent with it. The target's old reservations go, of whatever kind; then one is put at the end of its table.
use Rattle.std.specs.Prelude.{Bool, true, cond, ◌&&◌, List, ℕ, eqb, ℤ}
use Rattle.numbers.specs.Limits.{places}
use Rattle.numbers.specs.Ranges.{is_target}
use Rattle.cycles.specs.declared.Cycle.{Cycle}
use Rattle.cycles.specs.Due.{key}
use Rattle.tables.specs.Tables.{notes_without, waves_without, sines_without, cycles_without}
use Rattle.state.specs.declared.Track.{Track}
use Rattle.state.specs.Track.{cycles_of, with_tables}
use Rattle.state.specs.Tests.{ok_lent}
use Rattle.reserving.specs.declared.Kept.{Kept}

abbrev pub answer : ℕ → Track → List Cycle → Kept
answer n a cs = record { code = n; track = a; cycles = cs }

-- what is left by number n: r where it is 0, else what was given
unfoldable pub left : ℕ → Track → List Cycle → Kept → Kept
left n a cs r = cond (eqb n 0) r (answer n a cs)

-- "checked in that order": 1, 2, 3, 4, 6. `short` says that the list is not too long, `ok` that the numbers handed in are
-- allowed, `room` that a place is left
unfoldable pub refusal : Track → ℕ → List Cycle → ℤ → Bool → Bool → Bool → ℕ
refusal a size cs target short ok room =
    cond (eqb size places) (cond (is_target target) (cond short (cond (ok_lent a cs && ok) (cond room 0 6) 4) 3) 2) 1

-- "the target's old entries are taken out": of all four kinds, k being the target's key
unfoldable pub cleared : Track → List Cycle → ℕ → Kept
cleared a cs k =
    let rest = cycles_without (cycles_of a cs) k in
    answer 0 (with_tables a (notes_without a.notes k) (waves_without a.waves k) (sines_without a.sines k) rest.count) rest.items

-- what a setter leaves: `put` makes it of the tables that are cleared, if `room` says of these that a place is left
unfoldable pub reserving : Track → ℕ → List Cycle → ℤ → Bool → Bool → (Kept → Bool) → (Kept → Kept) → Kept
reserving a size cs target short ok room put =
    let f = cleared a cs (key target) in
    left (refusal a size cs target short ok (room f)) a cs (put f)

-- the same in two steps: first the old entries go, and then a place is asked for
abbrev pub freed : Track → ℕ → List Cycle → ℤ → Bool → Bool → Kept
freed a size cs target short ok = reserving a size cs target short ok (λ (f : Kept). true) (λ (f : Kept). f)

unfoldable pub placed : Track → List Cycle → (Kept → Bool) → (Kept → Kept) → Kept → Kept
placed a cs room put f = cond (eqb f.code 0) (cond (room f) (put f) (answer 6 a cs)) f
