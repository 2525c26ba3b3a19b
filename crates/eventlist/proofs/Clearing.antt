-- What taking windows out of the list leaves and moves.
--     first-within       the first that is taken stands among the events, or there is none
--     some-taken         where some event is taken, one is counted
--     untouched          where none is taken nothing is moved
--     counted-moves      as many are moved as are kept behind the first that is taken
--     moved-once, none-in-front, moves-arrive, moved-few   02, d): each kept record is moved at most once, and none before the first that is taken
--     windows-one, windows-more                             one window; windows taken out one after the other are windows taken out at once
use mathlib.Core.Bool.{Bool, true, false, not, ◌||◌}
use mathlib.Core.Path.{◌≡◌, refl, sym, ap, ◌∙◌, fun_ext}
use mathlib.Core.List.{List, [], ◌∷◌}
use Prim.Native.Nat.{ℕ, ◌+◌, ◌-◌, ◌≤◌, ◌<◌}
use native.Mathlib.Omega.{arith}
use lib.IntN.{ℤ}
use lib.ListN.{length, take}
use lib.Seq.{length-take-le, take_all}
use Rattle.laws.specs.Lists.{any, without, put_first}
use Rattle.laws.specs.Moves.{times_moved, carried, in_front, moves}
use Rattle.laws.proofs.Compact.{without-twice, kept-most}
use Rattle.laws.proofs.Taking.{begun}
use Rattle.laws.proofs.Firsts.{put_same}
use Rattle.laws.proofs.Leading.{leading_le}
use Rattle.laws.proofs.Moves as moving
use Rattle.events.specs.declared.Event.{Event}
use Rattle.events.specs.Events.{zero_event}
use Rattle.eventlist.specs.declared.Cleared.{Cleared}
use Rattle.eventlist.specs.declared.Seen.{Seen}
use Rattle.eventlist.specs.declared.Window.{Window}
use Rattle.eventlist.specs.Rows.{rows_of, events_of}
use Rattle.eventlist.specs.Windows.{taken_by, taken_by_any}
use Rattle.eventlist.specs.Clearing.{kept_by_all, Surveyed, cleared_by, rows_cleared}

module _ (ws : List Window) (l : List ℤ) (count : ℕ) (fit : count ≤ length (rows_of l)) where
  abbrev out : Event → Bool
  out = taken_by_any ws

  abbrev es : List Event
  es = events_of l count

  long : length es ≡ count
  long = length-take-le count (rows_of l) fit

  module _ (seen : Seen) (v : Surveyed ws l count seen) where
    pub first-within : seen.first ≤ count
    first-within = let a = v.first in let b = leading_le (λ e. not (out e)) es in let n = long in omega arith

    -- where some event is taken, one is counted
    pub some-taken : seen.first < count → 1 ≤ seen.taken
    some-taken e =
        let b = begun rows_of zero_event out l count seen.first fit v.first e in
        let m = count - (seen.first + 1) in
        let end : seen.first + 1 + m ≡ count = omega arith in
        let k = rw end at (kept-most out zero_event (rows_of l) (seen.first + 1) m (omega arith)) in
        omega (arith, b.counted, v.taken)

    module _ (e : seen.first ≡ count) where
      all-kept : kept_by_all ws l count ≡ es
      all-kept =
          let n : in_front out es ≡ count = sym v.first ∙ e in
          let whole : take count es ≡ es = take_all count es (let m = long in omega arith) in
          ap (without out) (sym whole) ∙ ap (λ (k : ℕ). without out (take k es)) (sym n) ∙ moving.front_kept out es ∙ ap (λ (k : ℕ). take k es) n ∙ whole

      pub untouched : (◌≡◌ {A = Cleared} (record { left = count; moved = 0 }) (cleared_by ws l count)) × (rows_of l ≡ rows_cleared ws l count)
      untouched =
          let a = ap length all-kept ∙ long in
          let m = moving.moved-count out es in
          let f = v.first in
          let none : length (moves out es) ≡ 0 = omega arith in
          (rw (a, none), sym (ap (λ (x : List Event). put_first zero_event count x (rows_of l)) all-kept ∙ put_same zero_event count (rows_of l) fit))

    pub counted-moves : (n moved : ℕ) → n ≡ length (kept_by_all ws l count) → moved + seen.first ≡ n → ◌≡◌ {A = Cleared} (record { left = n; moved = moved }) (cleared_by ws l count)
    counted-moves n moved a b =
        let m = moving.moved-count out es in
        let f = v.first in
        let c : moved ≡ length (moves out es) = omega arith in
        rw (a, c)

  -- ---- 02, d)
  -- the record at place k moves once, or not at all
  pub moved-once : (k : ℕ) → times_moved k (moves (taken_by_any ws) (events_of l count)) ≤ 1
  moved-once k = moving.once out k es

  -- not at all, where it stands before the first that is taken
  pub none-in-front : (k : ℕ) → k ≤ in_front (taken_by_any ws) (events_of l count) → times_moved k (moves (taken_by_any ws) (events_of l count)) ≡ 0
  none-in-front k = moving.front out k es

  -- these moves, made one after the other, bring what is kept to the front
  pub moves-arrive : take (length (kept_by_all ws l count)) (carried zero_event (moves (taken_by_any ws) (events_of l count)) (events_of l count)) ≡ kept_by_all ws l count
  moves-arrive = moving.arrive out zero_event es

  -- so no more are moved than are kept, less those before the first that is taken
  pub moved-few : (cleared_by ws l count).moved + in_front (taken_by_any ws) (events_of l count) ≡ (cleared_by ws l count).left
  moved-few = moving.moved-count out es

-- one window
pub windows-one : (w : Window) (es : List Event) → without (taken_by_any (w ∷ [])) es ≡ without (taken_by w) es
unfolding any
windows-one w es = ap (λ (p : Event → Bool). without p es) (fun_ext (λ (e : Event). or_off (taken_by w e)))
  where
    or_off : (b : Bool) → (b || false) ≡ b
    or_off true = refl
    or_off false = refl

-- one more window: what it leaves, and then the others leave, is what all leave
pub windows-more : (w : Window) (ws : List Window) (es : List Event) → without (taken_by_any ws) (without (taken_by w) es) ≡ without (taken_by_any (w ∷ ws)) es
unfolding any
windows-more w ws es = without-twice (taken_by w) (taken_by_any ws) es
