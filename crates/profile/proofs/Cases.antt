-- Lists computed, at the edges of the rule: what passes, what does not, what fitting makes of a list, and what is refused first.
use mathlib.Core.Bool.{true, false}
use mathlib.Core.Path.{◌≡◌, refl}
use mathlib.Core.List.{[], ◌∷◌, map}
use lib.IntN.{ℤ, pos, negsuc}
use Rattle.laws.specs.Integers.{inside, sized}
use Rattle.laws.specs.Lists.{all, any}
use Rattle.laws.specs.Rows.{flat}
use Rattle.numbers.specs.Ranges.{is_bend, is_event_time, is_channel, is_word, is_controller}
use Rattle.events.specs.declared.Event.{Event}
use Rattle.events.specs.Kinds.{note_off, meta, sys_ex, direct_smf, is_kind, has_data}
use Rattle.events.specs.Events.{ok_numbered, is_stretch, ok_data, ok_event, zero_event, plain_event, note_event, voice_event, cc_event, pitch_bend_event, pitch_bend_range_event}
use Rattle.eventlist.specs.Rows.{rows_of, numbers_of}
use Rattle.eventlist.specs.Sound.{is_list, ok_events}
use Rattle.profile.specs.Profile.{is_heeded, accepts, twins, channel_of, one_channel, no_twins, passes, fitted}
use Rattle.profile.specs.Calls.{check_refusal, check_answer, fit_refusal, fit_taken, fit_left}

-- controller n at time t on channel 0, with a value
abbrev cc : ℤ → ℤ → ℤ → Event
cc t n v = cc_event t (pos 0) n v

-- a Meta event at t on channel c, with no data
abbrev meta_on : ℤ → ℤ → Event
meta_on t c = plain_event meta t c (pos 0) (pos 0) (pos 0)

-- ---- an event
pub five : all (λ n. accepts (cc (pos 0) n (pos 0))) (pos 1 ∷ pos 7 ∷ pos 10 ∷ pos 11 ∷ pos 64 ∷ []) ≡ true
unfolding all accepts is_heeded
five = refl

pub neighbours : any (λ n. accepts (cc (pos 0) n (pos 0))) (pos 0 ∷ pos 2 ∷ pos 6 ∷ pos 8 ∷ pos 9 ∷ pos 12 ∷ pos 63 ∷ pos 65 ∷ pos 127 ∷ []) ≡ false
unfolding any accepts is_heeded
neighbours = refl

pub bends : map (λ v. accepts (pitch_bend_event (pos 0) (pos 0) v)) (negsuc 0 ∷ pos 0 ∷ pos 16383 ∷ pos 16384 ∷ []) ≡ false ∷ true ∷ true ∷ false ∷ []
unfolding accepts is_bend inside
bends = refl

-- ---- a list
pub nothing : passes [] ≡ true
unfolding passes all one_channel no_twins
nothing = refl

-- Meta, SysEx and DirectSMF are on no channel that counts, wherever they stand
pub data-elsewhere : passes (meta_on (pos 0) (pos 5) ∷ note_event (pos 0) (pos 1) (pos 60) (pos 4) (pos 100) ∷ plain_event sys_ex (pos 2) (pos 6) (pos 0) (pos 0) (pos 0)
    ∷ plain_event direct_smf (pos 3) (pos 7) (pos 0) (pos 0) (pos 0) ∷ cc_event (pos 4) (pos 1) (pos 64) (pos 127) ∷ []) ≡ true
unfolding passes all any accepts is_heeded one_channel channel_of has_data no_twins twins
data-elsewhere = refl

-- a bend range counts, and so do the end of a note and a program
pub range-elsewhere : passes (note_event (pos 0) (pos 1) (pos 60) (pos 4) (pos 100) ∷ pitch_bend_range_event (pos 0) (pos 2) (pos 12) ∷ []) ≡ false
unfolding passes all accepts one_channel channel_of has_data
range-elsewhere = refl

pub end-elsewhere : passes (plain_event note_off (pos 0) (pos 1) (pos 60) (pos 0) (pos 0) ∷ voice_event (pos 0) (pos 2) (pos 12) ∷ []) ≡ false
unfolding passes all accepts one_channel channel_of has_data
end-elsewhere = refl

pub early-meta : passes (meta_on (negsuc 0) (pos 0) ∷ []) ≡ false
unfolding passes all any accepts one_channel channel_of has_data no_twins
early-meta = refl

pub one_time : passes (cc (pos 3) (pos 7) (pos 1) ∷ cc (pos 3) (pos 10) (pos 2) ∷ meta_on (pos 3) (pos 0) ∷ []) ≡ true
unfolding passes all any accepts is_heeded one_channel channel_of has_data no_twins twins
one_time = refl

pub falling : passes (note_event (pos 3) (pos 0) (pos 60) (pos 4) (pos 100) ∷ meta_on (pos 2) (pos 0) ∷ []) ≡ false
unfolding passes all any accepts one_channel channel_of has_data no_twins twins
falling = refl

-- of one controller at one time, with the same value too; at two times
pub twice : passes (cc (pos 3) (pos 7) (pos 1) ∷ cc (pos 3) (pos 7) (pos 1) ∷ []) ≡ false
unfolding passes all any accepts is_heeded one_channel channel_of has_data no_twins twins
twice = refl

pub at-two-times : passes (cc (pos 3) (pos 7) (pos 1) ∷ cc (pos 4) (pos 7) (pos 1) ∷ []) ≡ true
unfolding passes all any accepts is_heeded one_channel channel_of has_data no_twins twins
at-two-times = refl

-- with others of that time between them
pub twins-afar : passes (cc (pos 3) (pos 7) (pos 1) ∷ cc (pos 3) (pos 10) (pos 7) ∷ note_event (pos 3) (pos 0) (pos 60) (pos 4) (pos 100) ∷ cc (pos 3) (pos 7) (pos 2) ∷ []) ≡ false
unfolding passes all any accepts is_heeded one_channel channel_of has_data no_twins twins
twins-afar = refl

-- other kinds may stand twice
pub bends-twice : passes (pitch_bend_event (pos 3) (pos 0) (pos 0) ∷ pitch_bend_event (pos 3) (pos 0) (pos 0) ∷ voice_event (pos 3) (pos 0) (pos 1) ∷ voice_event (pos 3) (pos 0) (pos 2) ∷ []) ≡ true
unfolding passes all any accepts is_bend inside one_channel channel_of has_data no_twins twins
bends-twice = refl

-- ---- fitted
-- the last stays, at its own place
pub afar-fitted : fitted (cc (pos 3) (pos 7) (pos 1) ∷ cc (pos 3) (pos 10) (pos 7) ∷ note_event (pos 3) (pos 0) (pos 60) (pos 4) (pos 100) ∷ cc (pos 3) (pos 7) (pos 2) ∷ [])
    ≡ cc (pos 3) (pos 10) (pos 7) ∷ note_event (pos 3) (pos 0) (pos 60) (pos 4) (pos 100) ∷ cc (pos 3) (pos 7) (pos 2) ∷ []
unfolding any accepts is_heeded twins
afar-fitted = refl

-- the last of its time in the list's order, which may stand before one of another time
pub last-by-list : fitted (cc (pos 5) (pos 7) (pos 1) ∷ cc (pos 5) (pos 7) (pos 2) ∷ cc (pos 0) (pos 7) (pos 3) ∷ [])
    ≡ cc (pos 0) (pos 7) (pos 3) ∷ cc (pos 5) (pos 7) (pos 2) ∷ []
unfolding any accepts is_heeded twins
last-by-list = refl

-- what is not accepted goes, and what has data stays, sorted
pub dropped-fitted : fitted (cc (pos 9) (pos 64) (pos 127) ∷ cc (pos 1) (pos 2) (pos 5) ∷ pitch_bend_event (pos 1) (pos 0) (pos 16384) ∷ pitch_bend_event (pos 1) (pos 0) (pos 16383)
    ∷ pitch_bend_event (pos 0) (pos 0) (negsuc 0) ∷ meta_on (pos 0) (pos 9) ∷ cc (pos 0) (pos 65) (pos 0) ∷ [])
    ≡ meta_on (pos 0) (pos 9) ∷ pitch_bend_event (pos 1) (pos 0) (pos 16383) ∷ cc (pos 9) (pos 64) (pos 127) ∷ []
unfolding any accepts is_heeded is_bend inside twins
dropped-fitted = refl

-- a controller that is not accepted takes none of its time away
pub none_left : fitted (cc (pos 1) (pos 2) (pos 5) ∷ cc (pos 1) (pos 2) (pos 6) ∷ []) ≡ []
unfolding any accepts is_heeded twins
none_left = refl

-- ---- the calls
pub check-nothing : check_answer 0 [] 0 ≡ record { code = 0; yes = 1 }
unfolding check_refusal is_list ok_events rows_of passes all one_channel no_twins
check-nothing = refl

pub fit-nothing : fit_taken 0 [] 0 ≡ record { code = 0; count = 0 }
unfolding fit_refusal is_list ok_events rows_of all one_channel
fit-nothing = refl

-- both would be dropped, and their channels count
pub two-channels : fit_refusal 0 (flat numbers_of (cc_event (pos 0) (pos 0) (pos 2) (pos 5) ∷ cc_event (pos 0) (pos 1) (pos 2) (pos 5) ∷ [])) 2 ≡ 17
unfolding fit_refusal is_list ok_events rows_of all one_channel channel_of has_data ok_event is_kind is_event_time is_channel is_word is_controller ok_numbered ok_data sized inside
two-channels = refl

-- 17 is asked before 18, 4 before both, 1 before all
pub several-and-early : fit_refusal 0 (flat numbers_of (cc_event (negsuc 0) (pos 0) (pos 7) (pos 5) ∷ cc_event (pos 0) (pos 1) (pos 7) (pos 5) ∷ [])) 2 ≡ 17
unfolding fit_refusal is_list ok_events rows_of all one_channel channel_of has_data ok_event is_kind is_event_time is_channel is_word is_controller ok_numbered ok_data sized inside
several-and-early = refl

pub early : fit_refusal 0 (flat numbers_of (meta_on (negsuc 0) (pos 0) ∷ [])) 1 ≡ 18
unfolding fit_refusal is_list ok_events rows_of all one_channel channel_of has_data ok_event is_kind is_event_time is_channel is_word is_controller ok_numbered ok_data is_stretch sized inside
early = refl

pub no-event : fit_refusal 0 (flat numbers_of (cc_event (negsuc 0) (pos 0) (pos 7) (pos 5) ∷ cc_event (pos 0) (pos 16) (pos 7) (pos 5) ∷ [])) 2 ≡ 4
unfolding fit_refusal is_list ok_events rows_of all ok_event is_kind is_event_time is_channel is_word is_controller ok_numbered ok_data has_data sized inside
no-event = refl

pub no_record : fit_refusal 0 (pos 9 ∷ []) 0 ≡ 1
unfolding fit_refusal is_list
no_record = refl

-- a place that falls vacant is zeroed, and what stands past the count is as it was, whatever it is
pub every-number : fit_left 0 (flat numbers_of (cc (pos 3) (pos 7) (pos 1) ∷ cc (pos 3) (pos 7) (pos 2) ∷ cc (negsuc 8) (pos 900) (pos 4) ∷ [])) 2
    ≡ flat numbers_of (cc (pos 3) (pos 7) (pos 2) ∷ zero_event ∷ cc (negsuc 8) (pos 900) (pos 4) ∷ [])
unfolding fit_refusal is_list ok_events rows_of all any one_channel channel_of has_data ok_event is_kind is_event_time is_channel is_word is_controller ok_numbered ok_data sized inside accepts is_heeded twins
every-number = refl
