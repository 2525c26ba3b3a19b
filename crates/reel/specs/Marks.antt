-- 01, "The tape program": the marks, how many numbers each has, and in which order they may stand.
use Rattle.std.specs.Prelude.{Bool, true, false, cond, Option, Some, None, ℕ, ◌+◌, ◌*◌, eqb}
use Rattle.reel.specs.declared.marks.Mark.{Mark}
use Rattle.reel.specs.declared.marks.Mark.TheVariants.{Track, Budget, Time, Freqs, Curve, Cycle, Turn, Cut}

-- two letters, the first the low byte
abbrev pub letters : ℕ → ℕ → ℕ
letters a b = a + 256 * b

-- TK, MX, TP, FQ, OT, CY, RC, PF
unfoldable pub mark_of : ℕ → Option Mark
mark_of m =
    cond (eqb m (letters 84 75)) (Some Track)
    (cond (eqb m (letters 77 88)) (Some Budget)
    (cond (eqb m (letters 84 80)) (Some Time)
    (cond (eqb m (letters 70 81)) (Some Freqs)
    (cond (eqb m (letters 79 84)) (Some Curve)
    (cond (eqb m (letters 67 89)) (Some Cycle)
    (cond (eqb m (letters 82 67)) (Some Turn)
    (cond (eqb m (letters 80 70)) (Some Cut) None)))))))

-- how many numbers stand behind the mark, before a list
abbrev pub width_of : Mark → ℕ
width_of Track = 2
width_of Budget = 2
width_of Time = 1
width_of Freqs = 2
width_of Curve = 2
width_of Cycle = 3
width_of Turn = 1
width_of Cut = 1

-- whether a list follows, counted by the last of those numbers
abbrev pub has_list : Mark → Bool
has_list Track = false
has_list Budget = false
has_list Time = false
has_list Freqs = false
has_list Curve = true
has_list Cycle = true
has_list Turn = false
has_list Cut = false

-- "TK timebase channel, then MX maximum seed, must come first and once": how many of the two stand before the mark
abbrev pub order_of : Mark → ℕ
order_of Track = 0
order_of Budget = 1
order_of Time = 2
order_of Freqs = 2
order_of Curve = 2
order_of Cycle = 2
order_of Turn = 2
order_of Cut = 2

-- the mark's turn has come: so many of TK and MX were read
unfoldable pub is_due : ℕ → Mark → Bool
is_due due m = eqb (order_of m) due
