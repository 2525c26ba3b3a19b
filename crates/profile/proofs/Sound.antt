-- What `fit_profile` leaves passes the tests of the next call.
use mathlib.Core.Path.{◌≡◌}
use mathlib.Core.List.{List}
use Prim.Native.Nat.{ℕ}
use native.Mathlib.Omega.{arith}
use lib.IntN.{ℤ}
use lib.ListN.{length-take}
use Rattle.events.specs.Events.{ok_event}
use Rattle.eventlist.specs.Rows.{rows_of, events_of}
use Rattle.eventlist.specs.Sound.{ok_events}
use Rattle.eventlist.proofs.Sound.{list-within, SoundList, left-sound}
use Rattle.profile.specs.Profile.{fitted}
use Rattle.profile.specs.Calls.{fit_refusal, fit_taken, fit_left}
use Rattle.profile.proofs.Promises.{all-fitted, few-fitted}
use Rattle.profile.proofs.Refusing.{fits}

pub fit-sound : (store : ℕ) (l : List ℤ) (count : ℕ) → fit_refusal store l count ≡ 0 → SoundList store (fit_left store l count) (fit_taken store l count).count
unfolding ok_events
fit-sound store l count e =
    let f = fits store l count e in
    rw e
    (left-sound l count (fitted (events_of l count)) f.list
    (omega (arith, few-fitted (events_of l count), length-take count (rows_of l), list-within l count f.list))
    store (all-fitted (events_of l count) (ok_event store) f.events))
