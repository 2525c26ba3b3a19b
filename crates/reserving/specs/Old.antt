-- The Rust's older calls, by a controller's number or for a bend. 01, "Numbers that come back": 2 where the number is not a
-- controller's.
use Rattle.std.specs.Prelude.{cond, List, ℕ, ℤ, pos}
use Rattle.numbers.specs.Ranges.{is_target}
use Rattle.reserved.specs.Setting.{demand}
use Rattle.cycles.specs.declared.Cycle.{Cycle}
use Rattle.cycles.specs.Due.{key}
use Rattle.tables.specs.Tables.{notes_without, waves_without, sines_without}
use Rattle.state.specs.declared.Track.{Track}
use Rattle.state.specs.declared.TrackAnswer.{TrackAnswer}
use Rattle.state.specs.Track.{with_tables}
use Rattle.state.specs.Tests.{ok_track}
use Rattle.state.specs.Calls.{answered}
use Rattle.drawing.specs.Calls.{cc_target, pb_target}
use Rattle.reserving.specs.declared.Kept.{Kept}
use Rattle.reserving.specs.Setting.{remove_reserve, set_on_note, set_on_note_wave}

abbrev pub normal : ℕ
normal = 0

abbrev pub remove_cc_on : Track → ℕ → List Cycle → ℤ → Kept
remove_cc_on a size cs number = remove_reserve a size cs (cc_target number)

abbrev pub set_cc_on_note : Track → ℕ → List Cycle → ℤ → List ℤ → Kept
set_cc_on_note a size cs number v = set_on_note a size cs (cc_target number) v

abbrev pub set_cc_on_note_wave : Track → ℕ → List Cycle → ℤ → List ℤ → Kept
set_cc_on_note_wave a size cs number v = set_on_note_wave a size cs (cc_target number) normal v

abbrev pub set_pb_on_note_wave : Track → ℕ → List Cycle → ℤ → List ℤ → Kept
set_pb_on_note_wave a size cs big v = set_on_note_wave a size cs (pb_target big) normal v

-- both bends are one target
abbrev pub remove_pb_on_note_wave : Track → ℕ → List Cycle → Kept
remove_pb_on_note_wave a size cs = remove_reserve a size cs (pos 129)

-- ---- calls that are handed the track alone: 2, then 4
unfoldable pub alone_refusal : Track → ℤ → ℕ
alone_refusal a target = cond (is_target target) (demand (ok_track a)) 2

-- its lists for notes alone
unfoldable pub remove_cc_on_note : Track → ℤ → TrackAnswer
remove_cc_on_note a number =
    let target = cc_target number in
    answered (alone_refusal a target) a (with_tables a (notes_without a.notes (key target)) a.waves a.sines a.cycles)

-- its waves and sines alone
unfoldable pub remove_cc_on_note_wave : Track → ℤ → TrackAnswer
remove_cc_on_note_wave a number =
    let target = cc_target number in
    answered (alone_refusal a target) a
    (with_tables a a.notes (waves_without a.waves (key target)) (sines_without a.sines (key target)) a.cycles)
