-- The nine kinds of event in the Rust's order, NoteOn 0 to DirectSMF 8, and what each kind is given.
use Rattle.std.specs.Prelude.{◌≡◌, Bool, false, cond, ◌||◌, ℕ, ◌+◌, ℤ, pos, Result, Ok, Err}
use Rattle.laws.specs.Integers.{eq_z, inside, cut}
use Rattle.numbers.specs.declared.refusals.Refusal.{Refusal}
use Rattle.numbers.specs.declared.refusals.Refusal.TheVariants.{OutOfRange}
use Rattle.events.specs.declared.Kind.{Kind}
use Rattle.events.specs.declared.Kind.TheVariants.{NoteOn, NoteOff, ControlChange, PitchBend, PitchBendRange, Voice, Meta, SysEx, DirectSmf}

abbrev pub note_on : ℤ
note_on = pos 0

abbrev pub note_off : ℤ
note_off = pos 1

abbrev pub control_change : ℤ
control_change = pos 2

abbrev pub pitch_bend : ℤ
pitch_bend = pos 3

abbrev pub pitch_bend_range : ℤ
pitch_bend_range = pos 4

abbrev pub voice : ℤ
voice = pos 5

abbrev pub meta : ℤ
meta = pos 6

abbrev pub sys_ex : ℤ
sys_ex = pos 7

abbrev pub direct_smf : ℤ
direct_smf = pos 8

unfoldable pub is_kind : ℤ → Bool
is_kind k = inside note_on direct_smf k

-- the number of a kind
abbrev pub kind_number : Kind → ℤ
kind_number NoteOn = note_on
kind_number NoteOff = note_off
kind_number ControlChange = control_change
kind_number PitchBend = pitch_bend
kind_number PitchBendRange = pitch_bend_range
kind_number Voice = voice
kind_number Meta = meta
kind_number SysEx = sys_ex
kind_number DirectSmf = direct_smf

-- what a record's number is read as: the kind whose number it is, or 4 where it is none's
abbrev pub Reads : ℤ → Result Kind Refusal → Type 0
Reads n (Ok kind) = n ≡ kind_number kind
Reads n (Err why) = (why ≡ OutOfRange) × (is_kind n ≡ false)

-- 01, "Stored events": the kinds that have data
unfoldable pub has_data : ℤ → Bool
has_data k = eq_z k meta || eq_z k sys_ex || eq_z k direct_smf

-- 01, item 2: "NoteOn and PitchBendRange 16; NoteOff, ControllChange, PitchBend, Voice 8; Meta and SysEx 12,
-- DirectSMF 8, each plus data length"
unfoldable pub bytes_of : ℤ → ℤ → ℕ
bytes_of k len =
    cond (eq_z k note_on || eq_z k pitch_bend_range) 16
    (cond (eq_z k meta || eq_z k sys_ex) (12 + cut len)
    (cond (eq_z k direct_smf) (8 + cut len)
    8))
