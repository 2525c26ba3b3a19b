-- What `remove_pitch_bend_in_range` leaves passes the tests of the next call.
use mathlib.Core.Path.{◌≡◌}
use mathlib.Core.Bool.{◌&&◌}
use mathlib.Core.List.{List}
use Prim.Native.Nat.{ℕ}
use native.Mathlib.Omega.{arith}
use lib.IntN.{ℤ}
use lib.ListN.{length-take}
use Rattle.laws.proofs.Ranges.{right}
use Rattle.laws.proofs.Compact.{length_without}
use Rattle.laws.proofs.Parts.{all_without}
use Rattle.numbers.specs.Ranges.{is_time}
use Rattle.events.specs.Events.{ok_event}
use Rattle.eventlist.specs.Rows.{rows_of, events_of}
use Rattle.eventlist.specs.Sound.{is_list, ok_events}
use Rattle.eventlist.specs.Windows.{taken_by, kept_by}
use Rattle.eventlist.specs.Bends.{bends_in, bends_refusal, bends_taken, bends_left}
use Rattle.eventlist.proofs.Sound.{list-within, passed, SoundList, left-sound}

pub bends-sound : (store : ℕ) (l : List ℤ) (count : ℕ) (start end : ℤ) → bends_refusal store l count start end ≡ 0
    → SoundList store (bends_left store l count start end) (bends_taken store l count start end).count
unfolding ok_events
bends-sound store l count start end e =
    let p = passed (is_list l count) (is_time start && is_time end && ok_events store l count) 0 (unfold bends_refusal in e) in
    let ok = right (is_time start && is_time end) (ok_events store l count) p.numbers in
    rw e
    (left-sound l count (kept_by (bends_in start end) l count) p.list
    (omega (arith, length_without (taken_by (bends_in start end)) (events_of l count), length-take count (rows_of l), list-within l count p.list))
    store (all_without (ok_event store) (taken_by (bends_in start end)) (events_of l count) ok))
