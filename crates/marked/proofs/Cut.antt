-- The marked cuts, of the public calls on a list of two events that is full.
use mathlib.Core.Path.{refl}
use mathlib.Core.List.{[], ◌∷◌}
use lib.IntN.{pos}
use Rattle.laws.specs.Integers.{inside, sized}
use Rattle.laws.specs.Lists.{all}
use Rattle.laws.specs.Rows.{flat}
use Rattle.numbers.specs.Ranges.{is_time, is_event_time, is_channel, is_controller, is_word}
use Rattle.events.specs.Kinds.{is_kind, has_data}
use Rattle.events.specs.Events.{ok_numbered, ok_data, ok_event}
use Rattle.eventlist.specs.Rows.{numbers_of, rows_of}
use Rattle.eventlist.specs.Sound.{is_list}
use Rattle.cutting.specs.Cuts.{folds, controls_from, folded, keeps, shifted, plain, whole, cut_of, fits_cut, cut_refusal}
use Rattle.marked.specs.Subjects.{control, CutLeaves}

pub both : CutLeaves (plain (pos 10)) (flat numbers_of (control 7 0 100 ∷ control 7 0 90 ∷ []))
    × CutLeaves (whole (pos 10)) (flat numbers_of (control 7 0 90 ∷ control 7 0 100 ∷ []))
unfolding cut_refusal fits_cut is_list is_time is_event_time sized inside all ok_event ok_numbered ok_data is_kind has_data is_channel is_controller is_word rows_of cut_of folded controls_from keeps shifted folds
both = (record { answer = refl; left = refl }, record { answer = refl; left = refl })
