-- Words for the steps of the two calls.
use Rattle.std.specs.Prelude.{Bool, cond, not, ◌||◌, List, ℕ, ℤ, Result, Ok, Err}
use Rattle.laws.specs.Lists.{all, any}
use Rattle.numbers.specs.declared.refusals.Refusal.{Refusal}
use Rattle.numbers.specs.declared.refusals.Refusal.TheVariants.{OutOfRange}
use Rattle.events.specs.declared.Event.{Event}
use Rattle.eventlist.specs.Rows.{events_of}
use Rattle.eventlist.specs.Sound.{ok_events}
use Rattle.sorting.specs.Stable.{rising}
use Rattle.sorting.specs.Sorting.{earlier}
use Rattle.profile.specs.declared.Look.{Look}
use Rattle.profile.specs.Profile.{accepts, one_channel, from_zero, twins}

-- what one look over events that may be stored tells
abbrev pub looked : List Event → Look
looked es = record { accepted = all accepts es; single = one_channel es; timely = all from_zero es; rising = rising earlier es }

-- 4 where one may not
unfoldable pub look_of : ℕ → List ℤ → ℕ → Result Look Refusal
look_of store l count = cond (ok_events store l count) (Ok (looked (events_of l count))) (Err OutOfRange)

-- an event is dropped, in a sorted list: it is not accepted, or has a twin behind it
abbrev pub dropped : Event → List Event → Bool
dropped e behind = not (accepts e) || any (twins e) behind
