-- 01, "Numbers a caller may hand in": what a track may hold.
use Rattle.std.specs.Prelude.{Bool, ◌&&◌, List, ℕ, leb, ℤ}
use Rattle.laws.specs.Lists.{all}
use Rattle.numbers.specs.Limits.{places}
use Rattle.numbers.specs.Ranges.{is_time, is_number, is_length, is_channel, is_timebase}
use Rattle.params.specs.declared.NoteParam.{NoteParam}
use Rattle.params.specs.Param.{is_flag, ok_param}
use Rattle.layers.specs.Layers.{ok_layers}
use Rattle.values.specs.declared.WriteOption.{WriteOption}
use Rattle.values.specs.Options.{ok_option}
use Rattle.tables.specs.declared.NoteTable.{NoteTable}
use Rattle.tables.specs.declared.WaveTable.{WaveTable}
use Rattle.tables.specs.declared.SineTable.{SineTable}
use Rattle.tables.specs.Tables.{ok_notes, ok_waves, ok_sines, ok_cycles, lone}
use Rattle.state.specs.declared.Track.{Track}
use Rattle.cycles.specs.declared.Cycle.{Cycle}
use Rattle.state.specs.Track.{no_cycles, cycles_of}

-- "times within ±2^40; timebase 1 to 32,767; channel 0..15; frequency ±2^20; velocities, timing, octave, qlen ±2^22"
abbrev pub playable : ℤ → ℤ → ℤ → ℤ → ℤ → ℤ → ℤ → ℤ → ℤ → ℕ → Bool
playable tb tp ch cf pf ve ti oc ql st =
    is_timebase tb && is_time tp && is_channel ch && is_length cf && is_length pf && is_number ve && is_number ti && is_number oc && is_number ql && is_flag st

unfoldable pub ok_play : Track → Bool
ok_play a =
    playable a.timebase a.timepos a.channel a.ccfreq a.pbfreq a.velocity a.timing a.octave a.qlen a.step

unfoldable pub ok_params : NoteParam → NoteParam → NoteParam → NoteParam → NoteParam → Bool
ok_params v q t o l = ok_param v && ok_param q && ok_param t && ok_param o && ok_param l

unfoldable pub ok_options : List WriteOption → Bool
ok_options l = all ok_option l

-- "sixteen reservations of each kind; a target has at most one reservation over all four kinds": here over the three that a
-- track holds
unfoldable pub ok_tables : NoteTable → WaveTable → SineTable → Bool
ok_tables n w s = ok_notes n && ok_waves w && ok_sines s && lone n w s no_cycles

unfoldable pub ok_track : Track → Bool
ok_track a =
    ok_play a && ok_params a.v a.q a.t a.o a.l && ok_layers a.layers && ok_options a.options
    && ok_tables a.notes a.waves a.sines && leb a.cycles places

-- the same of a track and the cycle table that is lent with it: "over all four kinds"
unfoldable pub ok_lent : Track → List Cycle → Bool
ok_lent a cs = ok_track a && ok_cycles (cycles_of a cs) && lone a.notes a.waves a.sines (cycles_of a cs)
