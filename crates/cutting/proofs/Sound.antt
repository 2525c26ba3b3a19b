-- What `play_from` and `full_cut` leave passes the tests of the next call. A kept event's time was asked for; a folded one stands at
-- time 0 and has its numbers and its channel from events that were there.
--     timed-stored               an event at another time
--     kept-stored                what is kept
--     last-of, controls-stored   what is folded
--     cut-sound                  the calls
use mathlib.Core.Path.{◌≡◌, refl}
use mathlib.Core.Bool.{Bool, true, false, cond, not, ◌||◌, ◌&&◌}
use mathlib.Core.List.{List, [], ◌∷◌, ◌++◌, map}
use Prim.Native.Nat.{ℕ, zero, suc, ◌+◌, ◌≤◌}
use native.Mathlib.Omega.{arith}
use borrow.Author.Tests.{le-leb}
use lib.IntN.{ℤ, pos}
use lib.ListN.{length-take}
use lib.Signed.{lt_z}
use Rattle.laws.specs.Integers.{eq_z, inside, sized}
use Rattle.laws.specs.Lists.{all, unless, without}
use Rattle.laws.proofs.Ranges.{left, right}
use Rattle.laws.proofs.Parts.{all_append}
use Rattle.laws.proofs.Every.{all-imply}
use Rattle.numbers.specs.Ranges.{is_time, is_event_time, is_channel, is_word, is_controller}
use Rattle.events.specs.declared.Event.{Event}
use Rattle.events.specs.Events.{cc_event, voice_event, ok_numbered, ok_data, ok_event}
use Rattle.events.specs.Kinds.{control_change, pitch_bend, voice, is_kind, has_data}
use Rattle.events.proofs.Stored.{storable, storable-ok, cc-stored, plain-stored}
use Rattle.eventlist.specs.Rows.{rows_of, events_of}
use Rattle.eventlist.specs.Sound.{is_list}
use Rattle.eventlist.proofs.Sound.{list-within, passed, SoundList, left-sound}
use Rattle.sorting.specs.Stable.{stable_sort}
use Rattle.sorting.specs.Sorting.{earlier}
use Rattle.sorting.proofs.Sound.{all-sort}
use Rattle.cutting.specs.declared.Cut.{Cut}
use Rattle.cutting.specs.Choice.{last_of}
use Rattle.cutting.specs.Cuts.{controllers, unset, with_time, folds, control_at, program_at, channel_at, bend_at, controls_from, program_on, in_order, folded, keeps, shifted, kept_of, cut_of, fits_cut, cut_refusal, cut_taken, cut_left}
use Rattle.cutting.proofs.Room.{room}
use Rattle.cutting.proofs.Refusing.{same_count}

-- ---- numbers
zero-time : is_event_time (pos 0) ≡ true
unfolding is_event_time sized inside
zero-time = refl

zero-channel : is_channel (pos 0) ≡ true
unfolding is_channel inside
zero-channel = refl

unset-word : is_word unset ≡ true
unfolding is_word inside
unset-word = refl

number-controller : (n : ℕ) → suc n ≤ controllers → is_controller (pos n) ≡ true
unfolding is_controller inside
number-controller n h = rw (le-leb 0 n (omega arith), le-leb n 127 (omega arith))

voice-kind : is_kind voice ≡ true
unfolding is_kind inside
voice-kind = refl

voice-bare : has_data voice ≡ false
unfolding has_data
voice-bare = refl

module _ (store : ℕ) where
  -- ---- what is kept
  timed-stored : (t : ℤ) (e : Event) → is_event_time t ≡ true → ok_event store e ≡ true → ok_event store (with_time t e) ≡ true
  unfolding ok_numbered ok_data
  timed-stored t e h y =
      let s = storable store e y in
      storable-ok store (with_time t e)
      (record {
        kind = s.kind;
        time = h;
        channel = s.channel;
        v1 = s.v1;
        v2 = s.v2;
        v3 = s.v3;
        numbered = s.numbered;
        bytes = s.bytes;
      })

  module _ (c : Cut) where
    fit-stored : (e : Event) → fits_cut store c e ≡ true → ok_event store e ≡ true
    unfolding fits_cut
    fit-stored e y = left (ok_event store e) (not (keeps c e) || is_event_time (shifted c e).time) y

    shifted-stored : (e : Event) → fits_cut store c e ≡ true → keeps c e ≡ true → ok_event store (shifted c e) ≡ true
    unfolding fits_cut shifted
    shifted-stored e y k =
        let t : (not (keeps c e) || is_event_time (shifted c e).time) ≡ true = right (ok_event store e) (not (keeps c e) || is_event_time (shifted c e).time) y in
        timed-stored (shifted c e).time e (rw k at t) (fit-stored e y)

    kept-stored : (es : List Event) → all (fits_cut store c) es ≡ true → all (ok_event store) (kept_of c es) ≡ true
    unfolding all
    kept-stored [] y = refl
    kept-stored (e ∷ es) y = go (keeps c e) refl (kept-stored es (right (fits_cut store c e) (all (fits_cut store c) es) y))
      where
        go : (t : Bool) → keeps c e ≡ t → all (ok_event store) (kept_of c es) ≡ true
            → all (ok_event store) (map (shifted c) (unless (not t) e (without (λ x. not (keeps c x)) es))) ≡ true
        go true k ih = rw (shifted-stored e (left (fits_cut store c e) (all (fits_cut store c) es) y) k) ih
        go false k ih = ih

  -- ---- what is folded
  -- what holds of each event's answer, and of the default, holds of the last one's
  last-of : {A : Type 0} (p : Event → Bool) (f : Event → A) (q : A → Bool) → ((e : Event) → ok_event store e ≡ true → q (f e) ≡ true)
      → (d : A) → q d ≡ true → (es : List Event) → all (ok_event store) es ≡ true → q (last_of p f d es) ≡ true
  unfolding all
  last-of p f q h d y [] a = y
  last-of p f q h d y (e ∷ es) a =
      last-of p f q h (cond (p e) (f e) d) (go (p e)) es (right (ok_event store e) (all (ok_event store) es) a)
    where
      go : (t : Bool) → q (cond t (f e) d) ≡ true
      go true = h e (left (ok_event store e) (all (ok_event store) es) a)
      go false = y

  controls-stored : (value : ℕ → ℤ) (channel : ℤ) → is_channel channel ≡ true → ((n : ℕ) → is_word (value n) ≡ true)
      → (k n : ℕ) → k + n ≤ controllers → all (ok_event store) (controls_from value channel k n) ≡ true
  unfolding all controls_from
  controls-stored value channel c w zero n h = refl
  controls-stored value channel c w (suc k) n h = go (lt_z (value n) (pos 0)) (controls-stored value channel c w k (suc n) (omega arith))
    where
      go : (t : Bool) → all (ok_event store) (controls_from value channel k (suc n)) ≡ true
          → all (ok_event store) (unless t (cc_event (pos 0) channel (pos n) (value n)) (controls_from value channel k (suc n))) ≡ true
      go true ih = ih
      go false ih = rw (cc-stored store (pos 0) channel zero-time c (pos n) (value n) (number-controller n (omega arith)) (w n)) ih

  program-stored : (program channel : ℤ) → is_channel channel ≡ true → is_word program ≡ true → all (ok_event store) (program_on program channel) ≡ true
  unfolding all
  program-stored program channel c w = go (lt_z program (pos 0))
    where
      go : (t : Bool) → all (ok_event store) (unless t (voice_event (pos 0) channel program) []) ≡ true
      go true = refl
      go false = rw (plain-stored store (pos 0) channel zero-time c voice program voice-kind refl voice-bare w)

  module _ (c : Cut) (es : List Event) (y : all (ok_event store) es ≡ true) where
    channel-well : is_channel (channel_at c.at es) ≡ true
    channel-well =
        last-of (λ e. folds voice c.at e || folds control_change c.at e) (λ e. e.channel) is_channel (λ e h. (storable store e h).channel) (pos 0) zero-channel es y

    control-word : (n : ℕ) → is_word (control_at c.at es n) ≡ true
    control-word n = last-of (λ e. folds control_change c.at e && eq_z e.v1 (pos n)) (λ e. e.v2) is_word (λ e h. (storable store e h).v2) unset unset-word es y

    program-word : is_word (program_at c.at es) ≡ true
    program-word = last-of (folds voice c.at) (λ e. e.v1) is_word (λ e h. (storable store e h).v1) unset unset-word es y

    bend-stored : all (ok_event store) (bend_at c.at es) ≡ true
    unfolding all
    bend-stored =
        last-of (folds pitch_bend c.at) (λ e. with_time (pos 0) e ∷ []) (all (ok_event store)) (λ e h. rw (timed-stored (pos 0) e zero-time h)) [] refl es y

    folded-stored : all (ok_event store) (folded c es) ≡ true
    unfolding folded all
    folded-stored =
        all_append (ok_event store) (controls_from (control_at c.at es) (channel_at c.at es) controllers 0)
        (program_on (program_at c.at es) (channel_at c.at es) ++ cond c.full (bend_at c.at es) [])
        (controls-stored (control_at c.at es) (channel_at c.at es) channel-well control-word controllers 0 (omega arith))
        (all_append (ok_event store) (program_on (program_at c.at es) (channel_at c.at es)) (cond c.full (bend_at c.at es) [])
        (program-stored (program_at c.at es) (channel_at c.at es) channel-well program-word)
        (go c.full))
      where
        go : (t : Bool) → all (ok_event store) (cond t (bend_at c.at es) []) ≡ true
        go true = bend-stored
        go false = refl

  cut-stored : (c : Cut) (es : List Event) → all (fits_cut store c) es ≡ true → all (ok_event store) (cut_of c es) ≡ true
  unfolding cut_of
  cut-stored c es y = go c.full
    where
      kept : all (ok_event store) (kept_of c es) ≡ true
      kept = kept-stored c es y

      stored : all (ok_event store) es ≡ true
      stored = all-imply (fits_cut store c) (ok_event store) (fit-stored c) es y

      ordered : (t : Bool) → all (ok_event store) (cond t (stable_sort earlier es) es) ≡ true
      ordered true = all-sort earlier (ok_event store) es stored
      ordered false = stored

      fold : all (ok_event store) (folded c (in_order c es)) ≡ true
      fold = folded-stored c (in_order c es) (ordered c.full)

      go : (t : Bool) → all (ok_event store) (cond t (folded c (in_order c es) ++ kept_of c es) (kept_of c es ++ folded c (in_order c es))) ≡ true
      go true = all_append (ok_event store) (folded c (in_order c es)) (kept_of c es) fold kept
      go false = all_append (ok_event store) (kept_of c es) (folded c (in_order c es)) kept fold

-- ---- the calls: `play_from` is the cut `plain at`, `full_cut` the cut `whole at`
pub cut-sound : (store : ℕ) (l : List ℤ) (count : ℕ) (c : Cut) → cut_refusal store l count c ≡ 0 → SoundList store (cut_left store l count c) (cut_taken store l count c).count
cut-sound store l count c e =
    let es = events_of l count in
    let p = passed (is_list l count) (is_time c.at && all (fits_cut store c) es) 0 (unfold cut_refusal in e) in
    rw e
    (left-sound l count (cut_of c es) p.list
    (omega (arith, same_count c es, room c es, length-take count (rows_of l), list-within l count p.list))
    store (cut-stored store c es (right (is_time c.at) (all (fits_cut store c) es) p.numbers)))
