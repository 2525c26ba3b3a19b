-- The kinds that a cut asks for fit a record's number, so that a test on bits is one on the kinds.
use lib.Dec.{lit<}
use mir.Syntax.{w64}
use mir.Val.{SFits}
use Rattle.events.specs.Kinds.{note_on, control_change, pitch_bend, voice, meta, sys_ex}

pub note-fits : SFits w64 note_on
note-fits = record { sfits = lit< tt }

pub control-fits : SFits w64 control_change
control-fits = record { sfits = lit< tt }

pub bend-fits : SFits w64 pitch_bend
bend-fits = record { sfits = lit< tt }

pub program-fits : SFits w64 voice
program-fits = record { sfits = lit< tt }

pub meta-fits : SFits w64 meta
meta-fits = record { sfits = lit< tt }

pub system-fits : SFits w64 sys_ex
system-fits = record { sfits = lit< tt }
