-- 01, "The cut" and "Full cut (added)", with 02, a), which replaces what counts in the full cut.
use Rattle.std.specs.Prelude.{Bool, true, false, cond, not, ◌&&◌, ◌||◌, List, [], ◌∷◌, ◌++◌, map, ℕ, zero, suc, eqb, ℤ, pos, negsuc, ◌-ℤ◌, length}
use Rattle.std.specs.Int.Signed.{lt_z, le_z}
use Rattle.laws.specs.Integers.{eq_z}
use Rattle.laws.specs.Lists.{all, unless, without, put_first}
use Rattle.laws.specs.Rows.{flat}
use Rattle.numbers.specs.Ranges.{is_time, is_event_time}
use Rattle.events.specs.declared.Event.{Event}
use Rattle.events.specs.Events.{zero_event, cc_event, voice_event, ok_event}
use Rattle.events.specs.Kinds.{note_on, control_change, pitch_bend, voice, meta, sys_ex}
use Rattle.eventlist.specs.declared.Taken.{Taken}
use Rattle.eventlist.specs.Rows.{numbers_of, rows_of, events_of}
use Rattle.eventlist.specs.Sound.{is_list}
use Rattle.sorting.specs.Stable.{stable_sort}
use Rattle.sorting.specs.Sorting.{earlier}
use Rattle.cutting.specs.declared.Cut.{Cut}
use Rattle.cutting.specs.Choice.{last_of}

-- "128 remembered values"
abbrev pub controllers : ℕ
controllers = 128

-- "all unset at the start"; "a negative value unsets"
abbrev pub unset : ℤ
unset = negsuc 0

-- the event at another time
abbrev pub with_time : ℤ → Event → Event
with_time t e =
    record {
      kind = e.kind;
      time = t;
      channel = e.channel;
      v1 = e.v1;
      v2 = e.v2;
      v3 = e.v3;
      offset = e.offset;
      len = e.len;
    }

-- an event of the kind before the cut
unfoldable pub folds : ℤ → ℤ → Event → Bool
folds kind at e = eq_z e.kind kind && lt_z e.time at

module _ (at : ℤ) where
  -- an event of controller n before the cut; one that gives the channel
  abbrev pub controls : ℕ → Event → Bool
  controls n e = folds control_change at e && eq_z e.v1 (pos n)

  abbrev pub tells : Event → Bool
  tells e = folds voice at e || folds control_change at e

  -- of events in the order in which they count, the last before the cut: of a controller, of the program,
  abbrev pub control_at : List Event → ℕ → ℤ
  control_at es n = last_of (controls n) (λ e. e.v2) unset es

  abbrev pub program_at : List Event → ℤ
  program_at es = last_of (folds voice at) (λ e. e.v1) unset es

  -- of the channel, "all on the last folded channel",
  abbrev pub channel_at : List Event → ℤ
  channel_at es = last_of tells (λ e. e.channel) (pos 0) es

  -- and of the bend, "on its own channel, at time 0"
  abbrev pub bend_at : List Event → List Event
  bend_at es = last_of (folds pitch_bend at) (λ e. with_time (pos 0) e ∷ []) [] es

-- k controllers from number n on, rising, at time 0 on the channel, without those that are unset
unfoldable pub controls_from : (ℕ → ℤ) → ℤ → ℕ → ℕ → List Event
controls_from value channel zero n = []
controls_from value channel (suc k) n =
    unless (lt_z (value n) (pos 0)) (cc_event (pos 0) channel (pos n) (value n)) (controls_from value channel k (suc n))

-- the program at time 0 on the channel, unless it is unset
abbrev pub program_on : ℤ → ℤ → List Event
program_on program channel = unless (lt_z program (pos 0)) (voice_event (pos 0) channel program) []

module _ (c : Cut) where
  -- 01: in the cut "the last in list order before the cut counts"; 02, a): "in the full cut the latest time before the cut
  -- counts, and among equal times the later in the list", which is the last of the list sorted stably by time
  abbrev pub in_order : List Event → List Event
  in_order es = cond c.full (stable_sort earlier es) es

  -- "controllers rising, program", and in the full cut "then the last bend", of events in the order in which they count
  unfoldable pub folded : List Event → List Event
  folded es =
      controls_from (control_at c.at es) (channel_at c.at es) controllers 0
      ++ (program_on (program_at c.at es) (channel_at c.at es) ++ cond c.full (bend_at c.at es) [])

  -- Meta and SysEx are kept; NoteOn, controllers and programs are from the cut on, and in the full cut bends;
  -- "ranges, NoteOff and DirectSMF are dropped"
  unfoldable pub keeps : Event → Bool
  keeps e =
      eq_z e.kind meta || eq_z e.kind sys_ex
      || ((eq_z e.kind note_on || eq_z e.kind control_change || eq_z e.kind voice || (c.full && eq_z e.kind pitch_bend))
      && le_z c.at e.time)

  -- a kept event counts its time from the cut, one before it 0
  unfoldable pub shifted : Event → Event
  shifted e = with_time (cond (lt_z e.time c.at) (pos 0) (e.time -ℤ c.at)) e

  abbrev pub kept_of : List Event → List Event
  kept_of es = map shifted (without (λ e. not (keeps e)) es)

-- the cut of `play_from`, and the full one
abbrev pub plain : ℤ → Cut
plain at = record { at = at; full = false }

abbrev pub whole : ℤ → Cut
whole at = record { at = at; full = true }

-- "folded events come after the kept ones"; in the full cut "the folded events stand first"
unfoldable pub cut_of : Cut → List Event → List Event
cut_of c es = cond c.full (folded c (in_order c es) ++ kept_of c es) (kept_of c es ++ folded c (in_order c es))

-- an event that may be stored, and whose time, if it is kept, stays within ±2^42
unfoldable pub fits_cut : ℕ → Cut → Event → Bool
fits_cut store c e = ok_event store e && (not (keeps c e) || is_event_time (shifted c e).time)

-- a list that is none gives 1; a cut outside ±2^40, or an event below the count that does not fit, gives 4
unfoldable pub cut_refusal : ℕ → List ℤ → ℕ → Cut → ℕ
cut_refusal store l count c =
    cond (is_list l count) (cond (is_time c.at && all (fits_cut store c) (events_of l count)) 0 4) 1

-- the answer: a call that is refused hands the count back
abbrev pub cut_taken : ℕ → List ℤ → ℕ → Cut → Taken
cut_taken store l count c =
    record {
      code = cut_refusal store l count c;
      count = cond (eqb (cut_refusal store l count c) 0) (length (cut_of c (events_of l count))) count;
    }

-- every number of the list afterwards
abbrev pub cut_left : ℕ → List ℤ → ℕ → Cut → List ℤ
cut_left store l count c =
    cond (eqb (cut_refusal store l count c) 0)
    (flat numbers_of (put_first zero_event count (cut_of c (events_of l count)) (rows_of l)))
    l
