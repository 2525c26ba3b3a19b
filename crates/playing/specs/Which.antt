-- 01, "Values per note": a track's five note parameters by number, and where a note's value is kept.
use Rattle.std.specs.Prelude.{Bool, cond, ℕ, eqb, leb, ℤ}
use Rattle.params.specs.declared.NoteParam.{NoteParam}
use Rattle.state.specs.declared.Track.{Track}
use Rattle.state.specs.Track.{with_params, with_velocity, with_timing, with_octave, with_qlen}

abbrev pub velocity : ℕ
velocity = 0

abbrev pub gate : ℕ
gate = 1

abbrev pub timing : ℕ
timing = 2

abbrev pub octave : ℕ
octave = 3

abbrev pub span : ℕ
span = 4

abbrev pub is_param : ℕ → Bool
is_param w = leb w span

-- one of five, by number
abbrev pub chosen : {A : Type 0} → ℕ → A → A → A → A → A → A
chosen w v q t o l = cond (eqb w velocity) v (cond (eqb w gate) q (cond (eqb w timing) t (cond (eqb w octave) o l)))

unfoldable pub param_of : ℕ → Track → NoteParam
param_of w a = chosen w a.v a.q a.t a.o a.l

unfoldable pub with_param : ℕ → Track → NoteParam → Track
with_param w a p =
    chosen w (with_params a p a.q a.t a.o a.l) (with_params a a.v p a.t a.o a.l)
    (with_params a a.v a.q p a.o a.l) (with_params a a.v a.q a.t p a.l)
    (with_params a a.v a.q a.t a.o p)

-- a gate's value is no longer one in steps; a length is not kept
unfoldable pub with_value : ℕ → Track → ℤ → Track
with_value w a x = chosen w (with_velocity a x) (with_qlen a x 0) (with_timing a x) (with_octave a x) a
