-- A track, the track that is made, and a track with one thing changed.
use Rattle.std.specs.Prelude.{List, ℕ, ℤ, pos, replicate}
use Rattle.numbers.specs.Limits.{places}
use Rattle.params.specs.declared.NoteParam.{NoteParam}
use Rattle.params.specs.Param.{fresh}
use Rattle.layers.specs.declared.Layers.{Layers}
use Rattle.layers.specs.Layers.{one_layer}
use Rattle.values.specs.declared.WriteOption.{WriteOption}
use Rattle.values.specs.Options.{new_option}
use Rattle.cycles.specs.declared.Cycle.{Cycle}
use Rattle.tables.specs.declared.NoteTable.{NoteTable}
use Rattle.tables.specs.declared.WaveTable.{WaveTable}
use Rattle.tables.specs.declared.SineTable.{SineTable}
use Rattle.tables.specs.declared.CycleTable.{CycleTable}
use Rattle.cycles.specs.Rules.{no_cycle}
use Rattle.tables.specs.Tables.{no_note, no_wave, no_sine}
use Rattle.state.specs.declared.Track.{Track}

-- ---- nothing reserved
abbrev pub no_notes : NoteTable
no_notes = record { count = 0; items = replicate places no_note }

abbrev pub no_waves : WaveTable
no_waves = record { count = 0; items = replicate places no_wave }

abbrev pub no_sines : SineTable
no_sines = record { count = 0; items = replicate places no_sine }

abbrev pub no_cycles : CycleTable
no_cycles = record { count = 0; items = replicate places no_cycle }

-- the controllers' options, and behind them that of both bends
abbrev pub option_count : ℕ
option_count = 129

-- a track of timebase b on channel c, as the Rust makes it
unfoldable pub new_track : ℤ → ℤ → Track
new_track b c =
    record {
      timebase = b;
      timepos = pos 0;
      channel = c;
      ccfreq = pos 4;
      pbfreq = pos 0;
      velocity = pos 100;
      timing = pos 0;
      octave = pos 5;
      qlen = pos 90;
      step = 0;
      v = fresh;
      q = fresh;
      t = fresh;
      o = fresh;
      l = fresh;
      layers = one_layer;
      options = replicate option_count new_option;
      notes = no_notes;
      waves = no_waves;
      sines = no_sines;
      cycles = 0;
    }

-- the cycles of a track: the lent records, as many as the track counts
abbrev pub cycles_of : Track → List Cycle → CycleTable
cycles_of a cs = record { count = a.cycles; items = cs }

-- ---- one thing changed: of the numbers, of the parameters, of the rest
abbrev pub with_play : Track → ℤ → ℤ → ℤ → ℤ → ℤ → ℤ → ℤ → ℤ → ℕ → Track
with_play a tp ch cf pf ve ti oc ql st =
    record {
      timebase = a.timebase;
      timepos = tp;
      channel = ch;
      ccfreq = cf;
      pbfreq = pf;
      velocity = ve;
      timing = ti;
      octave = oc;
      qlen = ql;
      step = st;
      v = a.v;
      q = a.q;
      t = a.t;
      o = a.o;
      l = a.l;
      layers = a.layers;
      options = a.options;
      notes = a.notes;
      waves = a.waves;
      sines = a.sines;
      cycles = a.cycles;
    }

abbrev pub with_timepos : Track → ℤ → Track
with_timepos a x =
    with_play a x a.channel a.ccfreq a.pbfreq a.velocity a.timing a.octave a.qlen a.step

abbrev pub with_channel : Track → ℤ → Track
with_channel a x =
    with_play a a.timepos x a.ccfreq a.pbfreq a.velocity a.timing a.octave a.qlen a.step

abbrev pub with_cc_freq : Track → ℤ → Track
with_cc_freq a x =
    with_play a a.timepos a.channel x a.pbfreq a.velocity a.timing a.octave a.qlen a.step

abbrev pub with_pb_freq : Track → ℤ → Track
with_pb_freq a x =
    with_play a a.timepos a.channel a.ccfreq x a.velocity a.timing a.octave a.qlen a.step

abbrev pub with_velocity : Track → ℤ → Track
with_velocity a x =
    with_play a a.timepos a.channel a.ccfreq a.pbfreq x a.timing a.octave a.qlen a.step

abbrev pub with_timing : Track → ℤ → Track
with_timing a x =
    with_play a a.timepos a.channel a.ccfreq a.pbfreq a.velocity x a.octave a.qlen a.step

abbrev pub with_octave : Track → ℤ → Track
with_octave a x =
    with_play a a.timepos a.channel a.ccfreq a.pbfreq a.velocity a.timing x a.qlen a.step

abbrev pub with_qlen : Track → ℤ → ℕ → Track
with_qlen a x s =
    with_play a a.timepos a.channel a.ccfreq a.pbfreq a.velocity a.timing a.octave x s

abbrev pub with_params : Track → NoteParam → NoteParam → NoteParam → NoteParam → NoteParam → Track
with_params a v q t o l =
    record {
      timebase = a.timebase;
      timepos = a.timepos;
      channel = a.channel;
      ccfreq = a.ccfreq;
      pbfreq = a.pbfreq;
      velocity = a.velocity;
      timing = a.timing;
      octave = a.octave;
      qlen = a.qlen;
      step = a.step;
      v = v;
      q = q;
      t = t;
      o = o;
      l = l;
      layers = a.layers;
      options = a.options;
      notes = a.notes;
      waves = a.waves;
      sines = a.sines;
      cycles = a.cycles;
    }

abbrev pub with_rest : Track → Layers → List WriteOption → NoteTable → WaveTable → SineTable → ℕ → Track
with_rest a la op nt wv sn cy =
    record {
      timebase = a.timebase;
      timepos = a.timepos;
      channel = a.channel;
      ccfreq = a.ccfreq;
      pbfreq = a.pbfreq;
      velocity = a.velocity;
      timing = a.timing;
      octave = a.octave;
      qlen = a.qlen;
      step = a.step;
      v = a.v;
      q = a.q;
      t = a.t;
      o = a.o;
      l = a.l;
      layers = la;
      options = op;
      notes = nt;
      waves = wv;
      sines = sn;
      cycles = cy;
    }

abbrev pub with_layers : Track → Layers → Track
with_layers a x = with_rest a x a.options a.notes a.waves a.sines a.cycles

abbrev pub with_options : Track → List WriteOption → Track
with_options a x = with_rest a a.layers x a.notes a.waves a.sines a.cycles

abbrev pub with_tables : Track → NoteTable → WaveTable → SineTable → ℕ → Track
with_tables a n w s c = with_rest a a.layers a.options n w s c
