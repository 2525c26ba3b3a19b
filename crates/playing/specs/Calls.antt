-- 01, "Values per note" and "Numbers that come back": what a track's calls on its parameters and layers answer and leave, from what the
-- parameter's or the layers' own call answers.
use Rattle.std.specs.Prelude.{Bool, cond, ◌&&◌, ℕ, eqb, ℤ, pos}
use Rattle.reserved.specs.Reserve.{on_note}
use Rattle.params.specs.declared.ParamAnswer.{ParamAnswer}
use Rattle.params.specs.declared.ParamValue.{ParamValue}
use Rattle.params.specs.Calls.{calc_on_time, calc_on_note}
use Rattle.layers.specs.declared.LayersAnswer.{LayersAnswer}
use Rattle.layers.specs.declared.Velocity.{Velocity}
use Rattle.state.specs.declared.Track.{Track}
use Rattle.state.specs.declared.TrackAnswer.{TrackAnswer}
use Rattle.state.specs.Track.{with_layers}
use Rattle.state.specs.Tests.{ok_track}
use Rattle.state.specs.Calls.{answered}
use Rattle.playing.specs.declared.TrackValue.{TrackValue}
use Rattle.playing.specs.declared.TrackVelocity.{TrackVelocity}
use Rattle.playing.specs.Which.{is_param, param_of, with_param, with_value}

-- "checked in that order": a part's number n, with the test of the whole track in 4's place
unfoldable pub asked : Bool → ℕ → ℕ
asked ok n = cond (eqb n 3) 3 (cond ok n 4)

abbrev pub param_asked : ℕ → Track → ℕ → ℕ
param_asked w a n = asked (ok_track a && is_param w) n

unfoldable pub on_param : ℕ → Track → ParamAnswer → TrackAnswer
on_param w a r = answered (param_asked w a r.code) a (with_param w a r.param)

unfoldable pub on_layers : Track → LayersAnswer → TrackAnswer
on_layers a r = answered (asked (ok_track a) r.code) a (with_layers a r.layers)

-- what is left by number n, with a value: v and the track b where it is 0
unfoldable pub given : ℕ → Track → ℤ → Track → TrackValue
given n a v b = cond (eqb n 0) (record { code = 0; value = v; track = b }) (record { code = n; value = pos 0; track = a })

unfoldable pub time_taken : ℕ → Track → ParamValue → TrackValue
time_taken w a r = given (param_asked w a r.code) a r.value (with_param w a r.param)

-- the track takes a list's value only if the list is still there after the call
unfoldable pub after_note : ℕ → Track → ParamValue → Track
after_note w a r =
    cond (eqb r.param.reserve.kind on_note) (with_value w (with_param w a r.param) r.value) (with_param w a r.param)

unfoldable pub note_taken : ℕ → Track → ParamValue → TrackValue
note_taken w a r = given (param_asked w a r.code) a r.value (after_note w a r)

unfoldable pub summed_up : Track → Velocity → TrackVelocity
summed_up a s =
    cond (eqb (asked (ok_track a) s.code) 0) (record { code = 0; value = s.value; track = with_layers a s.layers })
    (record { code = asked (ok_track a) s.code; value = pos 0; track = a })

-- a note's value at the track's time, and the next of a list
abbrev pub value_on_time : ℕ → Track → ℤ → TrackValue
value_on_time w a def = time_taken w a (calc_on_time (param_of w a) a.timepos def)

abbrev pub value_on_note : ℕ → Track → ℤ → TrackValue
value_on_note w a def = note_taken w a (calc_on_note (param_of w a) def)
