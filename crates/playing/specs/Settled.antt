-- A parameter's answer with the test of the whole track in it: what a note's call puts into the track, field by field.
use Rattle.std.specs.Prelude.{Bool, cond, ◌&&◌, eqb, pos}
use Rattle.reserved.specs.Reserve.{on_note}
use Rattle.params.specs.declared.NoteParam.{NoteParam}
use Rattle.params.specs.declared.ParamValue.{ParamValue}
use Rattle.playing.specs.Calls.{asked}

-- refused, the parameter is the one that was given
unfoldable pub settled : Bool → ParamValue → NoteParam → ParamValue
settled ok r p =
    cond (eqb (asked ok r.code) 0) (record { code = 0; value = r.value; param = r.param })
    (record { code = asked ok r.code; value = pos 0; param = p })

-- not refused, and the list is still there
unfoldable pub listed : ParamValue → Bool
listed r = eqb r.code 0 && eqb r.param.reserve.kind on_note
