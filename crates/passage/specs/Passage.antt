-- What the trade asks of a passage, beside what a player has (`Player`): what travels, what sounds from the cut on, and from where a cut
-- may fold. The cut is the full one, at `at`.
use Rattle.std.specs.Prelude.{Bool, true, cond, not, ◌&&◌, ◌||◌, ◌≡◌, List, map, ℕ, ℤ, pos, ◌-ℤ◌}
use Rattle.std.specs.Int.Signed.{lt_z, le_z}
use Rattle.laws.specs.Integers.{eq_z}
use Rattle.laws.specs.Lists.{all, only}
use Rattle.events.specs.declared.Event.{Event}
use Rattle.events.specs.Kinds.{note_on, note_off, control_change, pitch_bend, pitch_bend_range, voice, meta, sys_ex, direct_smf}
use Rattle.eventlist.specs.declared.Taken.{Taken}
use Rattle.notes.specs.Notes.{split_taken, split_left}
use Rattle.cutting.specs.Cuts.{with_time, folds, tells, whole, cut_taken, cut_left}

-- notes, controllers, programs and bends
unfoldable pub sounds : Event → Bool
sounds e = eq_z e.kind note_on || eq_z e.kind control_change || eq_z e.kind voice || eq_z e.kind pitch_bend

-- what a cut keeps and never folds: notes, Meta and SysEx
unfoldable pub unfolded : Event → Bool
unfolded e = eq_z e.kind note_on || eq_z e.kind meta || eq_z e.kind sys_ex

-- 01: "ranges, NoteOff and DirectSMF are dropped"
unfoldable pub dropped : Event → Bool
dropped e = eq_z e.kind note_off || eq_z e.kind pitch_bend_range || eq_z e.kind direct_smf

-- Meta and SysEx travel, and what sounds at or after the cut,
abbrev pub travels : ℤ → Event → Bool
travels at e = eq_z e.kind meta || eq_z e.kind sys_ex || (sounds e && le_z at e.time)

-- each at its time less the cut's, what stood before the cut at 0
abbrev pub arrives : ℤ → Event → Event
arrives at e = with_time (cond (lt_z e.time at) (pos 0) (e.time -ℤ at)) e

-- an event at its time less the cut's
abbrev pub less_cut : ℤ → Event → Event
less_cut at e = with_time (e.time -ℤ at) e

-- what sounds of a list at or after the cut, each at its time less the cut's, in the list's order
abbrev pub from_cut : ℤ → List Event → List Event
from_cut at es = map (less_cut at) (only (λ e. sounds e && le_z at e.time) es)

-- controllers and programs before the cut are on one channel, and bends before it are on one
pub record FromOne (at : ℤ) (es : List Event) : Type 0 where
  pub told : ℤ
  pub bent : ℤ
  pub all_told : all (λ e. not (tells at e) || eq_z e.channel told) es ≡ true
  pub all-bent : all (λ e. not (folds pitch_bend at e) || eq_z e.channel bent) es ≡ true

-- `full_cut`, called on the first `count` events of l, answered 0 and `left`, and left the list l': its contract, with the number 0
pub record CutOut (store : ℕ) (l : List ℤ) (count : ℕ) (at : ℤ) (left : ℕ) (l' : List ℤ) : Type 0 where
  pub answer : ◌≡◌ {A = Taken} (record { code = 0; count = left }) (cut_taken store l count (whole at))
  pub list : l' ≡ cut_left store l count (whole at)

-- `normalize`, called on the first `count` events of l, answered 0 and `left`, and left the list l': the same of its contract
pub record SplitUp (store : ℕ) (l : List ℤ) (count left : ℕ) (l' : List ℤ) : Type 0 where
  pub answer : ◌≡◌ {A = Taken} (record { code = 0; count = left }) (split_taken store l count l)
  pub list : l' ≡ split_left store l count l count
