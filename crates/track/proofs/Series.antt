-- A product that starts from what the makers hand out never holds what 1 or 4 refuses: whatever calls it makes, accepted or refused, with whatever
-- arguments, what it then holds passes those tests again.
--     made-sound     what the makers hand out
--     sound-next     one call
--     sound-series   any series of calls
use mathlib.Core.Path.{◌≡◌, refl, ap, ◌∙◌}
use mathlib.Core.Bool.{Bool, true, false, cond}
use mathlib.Core.List.{List, [], ◌∷◌}
use Prim.Native.Nat.{ℕ}
use borrow.Author.Tests.{eqb-true}
use lib.Dec.{eqb}
use lib.IntN.{ℤ}
use lib.ListN.{length}
use Rattle.numbers.specs.Limits.{places}
use Rattle.budget.specs.declared.Budget.{Budget}
use Rattle.budget.specs.Budgets.{new_budget}
use Rattle.eventlist.specs.Sound.{is_list, ok_events}
use Rattle.eventlist.proofs.Sound.{SoundList}
use Rattle.notes.specs.Notes.{split_taken, split_left}
use Rattle.laws.specs.Lists.{all}
use Rattle.cycles.specs.declared.Cycle.{Cycle}
use Rattle.state.specs.declared.Track.{Track}
use Rattle.state.specs.Calls.{new_of}
use Rattle.track.specs.Series.{Held, Sound, Call, after, after_all, with_track, with_list}
use Rattle.track.specs.Series.{set-timepos, set-channel, set-cc-on-time-freq, set-pb-on-time-freq, calc-v-on-time, calc-t-on-time, calc-qlen-on-time, calc-o-on-time, calc-l-on-time, calc-v-on-note, calc-t-on-note, calc-qlen-on-note, calc-o-on-note, calc-l-on-note, set-v-sub, set-v-sub-random, set-v-sub-on-time, set-v-sub-on-cycle, set-v-sub-on-note, apply-v-sub, set-param-on-time, set-param-on-cycle, set-param-on-note, clear-param-reserve, set-param-random, set-param-range, clear-param-range, set-param-delay, set-param-max, clear-param-max, set-param-repeat, set-delay, set-random, set-range, clear-range, set-repeat, remove-cc-on-note, remove-cc-on-note-wave, get-write-opt, remove-reserve, set-on-note, set-on-note-wave, set-on-note-sine, set-on-cycle, remove-cc-on, set-cc-on-note, set-cc-on-note-wave, set-pb-on-note-wave, remove-pb-on-note-wave, write-on-time, write-cc-on-time, write-pb-on-time, write-sine, write-cc-on-note, write-cc-on-note-wave, write-cc-on-cycle, remove-pitch-bend-in-range, normalize, play-from, full-cut, events-sort, split-note-off, current-cc-value, write-chunk, read-chunk, check-profile, fit-profile}
use Rattle.track.proofs.Sound as sound
use Rattle.track.proofs.Sound.{Follows}
use Rattle.track.proofs.SoundLent as lent
use Rattle.track.proofs.SoundLent.{Lendable, Spendable}

module _ (h : Held) (s : Sound h) where
  lendable : Lendable h.track h.cycles
  lendable = record { lent = s.track; sixteen = s.sixteen; filled = s.layers }

  listed : SoundList h.store h.list h.count
  listed = record { list = s.list; events = s.events }

  spendable : Spendable h.store h.list h.count h.budget
  spendable = record { list = listed; budget = s.budget }

  on-track : (a : Track) → Follows h.track a → Sound (with_track h a)
  on-track a f = record { track = f.lent h.cycles s.track; sixteen = s.sixteen; layers = f.filled; budget = s.budget; list = s.list; events = s.events }

  on-table : (a : Track) (cs : List Cycle) → Lendable a cs → Sound (record { track = a; cycles = cs; budget = h.budget; list = h.list; count = h.count; store = h.store })
  on-table a cs f = record { track = f.lent; sixteen = f.sixteen; layers = f.filled; budget = s.budget; list = s.list; events = s.events }

  on_list : (l : List ℤ) (n : ℕ) → SoundList h.store l n → Sound (with_list h l n)
  on_list l n f = record { track = s.track; sixteen = s.sixteen; layers = s.layers; budget = s.budget; list = f.list; events = f.events }

  on_both : (l : List ℤ) (n : ℕ) (b : Budget) → Spendable h.store l n b
      → Sound (record { track = h.track; cycles = h.cycles; budget = b; list = l; count = n; store = h.store })
  on_both l n b f = record { track = s.track; sixteen = s.sixteen; layers = s.layers; budget = f.budget; list = f.list.list; events = f.list.events }

  abbrev t : sound.OfTrack h.track
  t = sound.of-track h.track s.layers

  abbrev k : lent.OfReserving h.track (length h.cycles) h.cycles
  k = lent.of-reserving h.track (length h.cycles) h.cycles lendable

  abbrev w : lent.OfWrites h.track h.budget h.list h.count h.store
  w = lent.of-writes h.track h.budget h.list h.count h.store s.layers spendable

  abbrev l : lent.OfList h.store h.list h.count
  l = lent.of-list h.store h.list h.count listed

  parted : (out : List ℤ) → Sound (after (split-note-off out) h)
  unfolding after
  parted out = go (eqb (split_taken h.store h.list h.count out).code 0) refl
    where
      go : (t : Bool) → eqb (split_taken h.store h.list h.count out).code 0 ≡ t
          → Sound (cond t (with_list h (split_left h.store h.list h.count out 0) (split_taken h.store h.list h.count out).count) h)
      go true q = on_list _ _ (l.split-note-off out (eqb-true _ 0 q))
      go false q = s

pub sound-next : (c : Call) (h : Held) → Sound h → Sound (after c h)
unfolding after
sound-next (set-timepos x) h s = on-track h s _ ((t h s).set-timepos x)
sound-next (set-channel x) h s = on-track h s _ ((t h s).set-channel x)
sound-next (set-cc-on-time-freq x) h s = on-track h s _ ((t h s).set-cc-on-time-freq x)
sound-next (set-pb-on-time-freq x) h s = on-track h s _ ((t h s).set-pb-on-time-freq x)
sound-next (calc-v-on-time def) h s = on-track h s _ ((t h s).calc-v-on-time def)
sound-next (calc-t-on-time def) h s = on-track h s _ ((t h s).calc-t-on-time def)
sound-next (calc-qlen-on-time def) h s = on-track h s _ ((t h s).calc-qlen-on-time def)
sound-next (calc-o-on-time def) h s = on-track h s _ ((t h s).calc-o-on-time def)
sound-next (calc-l-on-time def) h s = on-track h s _ ((t h s).calc-l-on-time def)
sound-next (calc-v-on-note def) h s = on-track h s _ ((t h s).calc-v-on-note def)
sound-next (calc-t-on-note def) h s = on-track h s _ ((t h s).calc-t-on-note def)
sound-next (calc-qlen-on-note def) h s = on-track h s _ ((t h s).calc-qlen-on-note def)
sound-next (calc-o-on-note def) h s = on-track h s _ ((t h s).calc-o-on-note def)
sound-next (calc-l-on-note def) h s = on-track h s _ ((t h s).calc-l-on-note def)
sound-next (set-v-sub i v) h s = on-track h s _ ((t h s).set-v-sub i v)
sound-next (set-v-sub-random i n) h s = on-track h s _ ((t h s).set-v-sub-random i n)
sound-next (set-v-sub-on-time i v) h s = on-track h s _ ((t h s).set-v-sub-on-time i v)
sound-next (set-v-sub-on-cycle i v) h s = on-track h s _ ((t h s).set-v-sub-on-cycle i v)
sound-next (set-v-sub-on-note i v) h s = on-track h s _ ((t h s).set-v-sub-on-note i v)
sound-next (apply-v-sub v) h s = on-track h s _ ((t h s).apply-v-sub v)
sound-next (set-param-on-time w v) h s = on-track h s _ ((t h s).set-param-on-time w v)
sound-next (set-param-on-cycle w v) h s = on-track h s _ ((t h s).set-param-on-cycle w v)
sound-next (set-param-on-note w v) h s = on-track h s _ ((t h s).set-param-on-note w v)
sound-next (clear-param-reserve w) h s = on-track h s _ ((t h s).clear-param-reserve w)
sound-next (set-param-random w n) h s = on-track h s _ ((t h s).set-param-random w n)
sound-next (set-param-range w low high) h s = on-track h s _ ((t h s).set-param-range w low high)
sound-next (clear-param-range w) h s = on-track h s _ ((t h s).clear-param-range w)
sound-next (set-param-delay w x) h s = on-track h s _ ((t h s).set-param-delay w x)
sound-next (set-param-max w x) h s = on-track h s _ ((t h s).set-param-max w x)
sound-next (clear-param-max w) h s = on-track h s _ ((t h s).clear-param-max w)
sound-next (set-param-repeat w n) h s = on-track h s _ ((t h s).set-param-repeat w n)
sound-next (set-delay target x) h s = on-track h s _ ((t h s).set-delay target x)
sound-next (set-random target x) h s = on-track h s _ ((t h s).set-random target x)
sound-next (set-range target low high) h s = on-track h s _ ((t h s).set-range target low high)
sound-next (clear-range target) h s = on-track h s _ ((t h s).clear-range target)
sound-next (set-repeat target n) h s = on-track h s _ ((t h s).set-repeat target n)
sound-next (remove-cc-on-note number) h s = on-track h s _ ((t h s).remove-cc-on-note number)
sound-next (remove-cc-on-note-wave number) h s = on-track h s _ ((t h s).remove-cc-on-note-wave number)
sound-next (get-write-opt target) h s = s
sound-next (remove-reserve target) h s = on-table h s _ _ ((k h s).remove-reserve target)
sound-next (set-on-note target v) h s = on-table h s _ _ ((k h s).set-on-note target v)
sound-next (set-on-note-wave target mode v) h s = on-table h s _ _ ((k h s).set-on-note-wave target mode v)
sound-next (set-on-note-sine target sine) h s = on-table h s _ _ ((k h s).set-on-note-sine target sine)
sound-next (set-on-cycle target len v) h s = on-table h s _ _ ((k h s).set-on-cycle target len v)
sound-next (remove-cc-on number) h s = on-table h s _ _ ((k h s).remove-cc-on number)
sound-next (set-cc-on-note number v) h s = on-table h s _ _ ((k h s).set-cc-on-note number v)
sound-next (set-cc-on-note-wave number v) h s = on-table h s _ _ ((k h s).set-cc-on-note-wave number v)
sound-next (set-pb-on-note-wave big v) h s = on-table h s _ _ ((k h s).set-pb-on-note-wave big v)
sound-next remove-pb-on-note-wave h s = on-table h s _ _ (k h s).remove-pb-on-note-wave
sound-next (write-on-time target v) h s = on_both h s _ _ _ ((w h s).write-on-time target v)
sound-next (write-cc-on-time number v) h s = on_both h s _ _ _ ((w h s).write-cc-on-time number v)
sound-next (write-pb-on-time big v) h s = on_both h s _ _ _ ((w h s).write-pb-on-time big v)
sound-next (write-sine target shape low high len times) h s = on_both h s _ _ _ ((w h s).write-sine target shape low high len times)
sound-next (write-cc-on-note start) h s =
    let r = (w h s).write-cc-on-note start in
    let o = on_both h s _ _ _ r.left in
    record { track = r.track.lent h.cycles s.track; sixteen = s.sixteen; layers = r.track.filled; budget = o.budget; list = o.list; events = o.events }
sound-next (write-cc-on-note-wave start) h s = on_both h s _ _ _ ((w h s).write-cc-on-note-wave start)
sound-next (write-cc-on-cycle until) h s =
    let r = (w h s).write-cc-on-cycle (length h.cycles) h.cycles until (lendable h s) in
    let o = on_both h s _ _ _ r.left in
    record { track = r.table.lent; sixteen = r.table.sixteen; layers = s.layers; budget = o.budget; list = o.list; events = o.events }
sound-next (remove-pitch-bend-in-range start end) h s = on_list h s _ _ ((l h s).remove-pitch-bend-in-range start end)
sound-next normalize h s = on_list h s _ _ (l h s).normalize
sound-next (play-from cut) h s = on_list h s _ _ ((l h s).play-from cut)
sound-next (full-cut cut) h s = on_list h s _ _ ((l h s).full-cut cut)
sound-next events-sort h s = on_list h s _ _ (l h s).events-sort
sound-next (split-note-off out) h s = parted h s out
sound-next (current-cc-value number) h s = s
sound-next (write-chunk out) h s = s
sound-next (read-chunk c) h s = on_list h s _ _ ((l h s).read-chunk c)
sound-next check-profile h s = s
sound-next fit-profile h s = on_list h s _ _ (l h s).fit-profile

pub sound-series : (cs : List Call) (h : Held) → Sound h → Sound (after_all cs h)
unfolding after_all
sound-series [] h s = s
sound-series (c ∷ cs) h s = sound-series cs (after c h) (sound-next c h s)

-- ---- what the makers hand out: a track and a budget that were accepted, sixteen cycle records, whatever is in them, and whole records
-- of which none counts
module _ (timebase channel : ℤ) (cs : List Cycle) (seed maximum : ℕ) (l : List ℤ) (store : ℕ) where
  abbrev pub made : Held
  made = record { track = (new_of timebase channel).track; cycles = cs; budget = (new_budget seed maximum).budget; list = l; count = 0; store = store }

  pub made-sound : (new_of timebase channel).code ≡ 0 → length cs ≡ places → (new_budget seed maximum).code ≡ 0 → is_list l 0 ≡ true → Sound made
  unfolding ok_events all
  made-sound a n m e =
      let t = (sound.of-makers).track-new timebase channel a in
      record { track = t.lent cs; sixteen = n; layers = t.filled; budget = (sound.of-makers).budget-new seed maximum m; list = e; events = refl }

  pub made-stays-sound : (new_of timebase channel).code ≡ 0 → length cs ≡ places → (new_budget seed maximum).code ≡ 0 → is_list l 0 ≡ true → (calls : List Call) → Sound (after_all calls made)
  made-stays-sound a n m e calls = sound-series calls made (made-sound a n m e)
