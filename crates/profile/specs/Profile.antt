-- 02, j): the rehearsal player's profile. Which lists the player accepts, and what fitting makes of a list.
use Rattle.std.specs.Prelude.{Bool, true, cond, not, ◌&&◌, ◌||◌, List, [], ◌∷◌, ℤ, pos}
use Rattle.std.specs.Int.Signed.{le_z}
use Rattle.laws.specs.Integers.{eq_z}
use Rattle.laws.specs.Lists.{all, any, only, thinned}
use Rattle.numbers.specs.Ranges.{is_bend}
use Rattle.events.specs.declared.Event.{Event}
use Rattle.events.specs.Kinds.{control_change, pitch_bend, has_data}
use Rattle.sorting.specs.Stable.{stable_sort, rising}
use Rattle.sorting.specs.Sorting.{earlier}

-- ---- an event
-- "controllers 1, 7, 10, 11 and 64 only"
unfoldable pub is_heeded : ℤ → Bool
is_heeded n = eq_z n (pos 1) || eq_z n (pos 7) || eq_z n (pos 10) || eq_z n (pos 11) || eq_z n (pos 64)

-- a controller has to be one of these, and "bends 0..16,383"
unfoldable pub accepts : Event → Bool
accepts e = cond (eq_z e.kind control_change) (is_heeded e.v1) (cond (eq_z e.kind pitch_bend) (is_bend e.v1) true)

-- on channel j, or of a kind that has data: "Meta, SysEx and DirectSMF events don't count"
abbrev pub is_on : ℤ → Event → Bool
is_on j e = has_data e.kind || eq_z e.channel j

-- "times from 0"
abbrev pub from_zero : Event → Bool
from_zero e = le_z (pos 0) e.time

-- events of one controller at one time
unfoldable pub twins : Event → Event → Bool
twins a b = eq_z a.kind control_change && eq_z b.kind control_change && eq_z a.v1 b.v1 && eq_z a.time b.time

-- ---- a list
-- the channel of the first event that counts
unfoldable pub channel_of : List Event → ℤ
channel_of [] = pos 0
channel_of (e ∷ es) = cond (has_data e.kind) (channel_of es) e.channel

-- "at most one channel for a whole track": each event that counts is on the channel of the first
unfoldable pub one_channel : List Event → Bool
one_channel es = all (is_on (channel_of es)) es

-- "at most one event of a given controller at a given time": none has a twin behind it
unfoldable pub no_twins : List Event → Bool
no_twins [] = true
no_twins (e ∷ es) = not (any (twins e) es) && no_twins es

-- the rule; "never falling" is `rising`
unfoldable pub passes : List Event → Bool
passes es = all accepts es && one_channel es && no_twins es && all from_zero es && rising earlier es

-- ---- fitting
-- "all but the last of a controller's events at one time" go: those that have a twin behind them
abbrev pub last_ones : List Event → List Event
last_ones es = thinned (λ e behind. any (twins e) behind) es

-- "drops other controllers, bends outside that range and all but the last of a controller's events at one time, after sorting"
abbrev pub fitted : List Event → List Event
fitted es = last_ones (only accepts (stable_sort earlier es))
