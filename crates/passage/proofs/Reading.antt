-- How a state may be read. Without a sort: what counts is what the latest event at or before t says, and of equal times the later in the
-- list (`Counts`). By the library: what `current_cc_value` answers of the sorted list is what a player of that channel has, or the default,
-- where no controller's value is negative; so it answers of the sorted passage at t what it answers of the sorted song at the cut's time and t.
--     latest-counts, none-counts   of the list as it stands
--     reads-state    the value that it answers, and the state
--     reads-alike    of the song and of the passage
use mathlib.Core.Bool.{Bool, true, not, ◌&&◌, ◌||◌}
use mathlib.Core.Path.{◌≡◌, refl, sym, ap, ◌∙◌}
use mathlib.Core.List.{List, map}
use mathlib.Core.Option.{Option, none, get_or}
use Prim.Native.Nat.{ℕ, ◌<◌}
use lib.IntN.{ℤ, pos, ◌+ℤ◌}
use lib.Signed.{le_z}
use Rattle.laws.specs.Integers.{eq_z}
use Rattle.laws.specs.Lists.{all, only}
use Rattle.laws.proofs.Bools.{not-not}
use Rattle.laws.proofs.Order.{nlt-le, le_not_lt}
use Rattle.laws.proofs.Parts.{all_append, all_map, all_without}
use Rattle.laws.proofs.Ranges.{left}
use Rattle.events.specs.declared.Event.{Event}
use Rattle.events.specs.Kinds.{control_change}
use Rattle.sorting.specs.Sorting.{earlier}
use Rattle.sorting.proofs.Sound.{all-sort}
use Rattle.cutting.specs.declared.Asked.{Asked}
use Rattle.cutting.specs.Choice.{last_of}
use Rattle.cutting.specs.Cuts.{controllers, control_at, folded, whole, cut_of}
use Rattle.cutting.specs.Value.{default_of, speaks, cc_value}
use Rattle.cutting.specs.Counting.{Counts}
use Rattle.cutting.proofs.ByTime.{last-map}
use Rattle.cutting.proofs.Counting.{last-counts}
use Rattle.cutting.proofs.Lasts.{last_none, last-without, last-same, last-alike}
use Rattle.passage.specs.Player.{heard, played_by, held, on, says, controller_of}
use Rattle.passage.specs.Passage.{travels, arrives, FromOne}
use Rattle.passage.proofs.Folded.{all-folded, bend-by-kind}
use Rattle.passage.proofs.Passage.{controller-of, plays-as-in-the-song}
use Rattle.passage.proofs.Played.{travelled}

-- ---- of the list as it stands
module _ {A : Type 0} (p : Event → Bool) (f : Event → A) (d : A) (es : List Event) (t : ℤ) where
  by-then : last_of p f d (played_by t es) ≡ last_of (λ e. p e && le_z e.time t) f d (heard es)
  by-then =
      last-without p f (λ e. not (le_z e.time t)) d (heard es)
      ∙ last-same (λ e. p e && not (not (le_z e.time t))) f (λ e. p e && le_z e.time t) (λ e. ap (λ (b : Bool). p e && b) (not-not (le_z e.time t))) d (heard es)

  pub latest-counts : (k : Counts (λ e. p e && le_z e.time t) es) → last_of p f d (played_by t es) ≡ f k.event
  latest-counts k = by-then ∙ last-counts (λ e. p e && le_z e.time t) f d es k

  pub none-counts : all (λ e. not (p e && le_z e.time t)) es ≡ true → last_of p f d (played_by t es) ≡ d
  none-counts h = by-then ∙ last_none (λ e. p e && le_z e.time t) f d (heard es) (all-sort earlier (λ e. not (p e && le_z e.time t)) es h)

-- ---- what the library answers
-- no controller's value unsets
abbrev pub is_set : Event → Bool
is_set e = not (eq_z e.kind control_change) || le_z (pos 0) e.v2

-- what is asked of controller n on channel j at t
abbrev pub asks : ℤ → ℤ → ℕ → Asked
asks j t n = record { channel = j; time = t; number = pos n }

pub reads-state : (es : List Event) → all is_set es ≡ true → (j t : ℤ) (n : ℕ) → cc_value (asks j t n) (heard es) ≡ get_or (controller_of (played_by t es) (on j) n) (default_of (pos n))
unfolding speaks
reads-state es h j t n =
    let p : Event → Bool = λ e. says control_change (on j) e && eq_z e.v1 (pos n) in
    let f : Event → ℤ = λ e. get_or (held e.v2) (default_of (pos n)) in
    let d = default_of (pos n) in
    last-alike (speaks (asks j t n)) (λ e. e.v2) is_set (λ e. p e && le_z e.time t) f (λ e y. refl) (λ e y q. value e y q) d (heard es) (all-sort earlier is_set es h)
    ∙ sym (by-then p f d es t)
    ∙ sym (last-map (λ (o : Option ℤ). get_or o (default_of (pos n))) p (λ e. held e.v2) none (played_by t es))
  where
    value : (e : Event) → is_set e ≡ true → speaks (asks j t n) e ≡ true → e.v2 ≡ get_or (held e.v2) (default_of (pos n))
    value e y q =
        let a = left (eq_z e.kind control_change && eq_z e.channel j && eq_z e.v1 (pos n)) (le_z e.time t) q in
        let b = left (eq_z e.kind control_change && eq_z e.channel j) (eq_z e.v1 (pos n)) a in
        let k = left (eq_z e.kind control_change) (eq_z e.channel j) b in
        let z : le_z (pos 0) e.v2 ≡ true = rw k at y in
        rw (le_not_lt (pos 0) e.v2 z)

module _ (at : ℤ) (es : List Event) (h : all is_set es ≡ true) where
  -- what is folded is set, and what is kept is as it was
  set-too : all is_set (cut_of (whole at) es) ≡ true
  set-too =
      rw (travelled at es)
      (all_append is_set (folded (whole at) (heard es)) (map (arrives at) (only (travels at) es))
      (all-folded is_set at (heard es) (λ n y. nlt-le (control_at at (heard es) n) (pos 0) y) (λ y. refl) (bend-by-kind is_set at (heard es) (λ e k. rw k)))
      (all_map is_set is_set (arrives at) (λ e y. y) (only (travels at) es) (all_without is_set (λ e. not (travels at e)) es h)))

  pub reads-alike : FromOne at es → (j t : ℤ) → le_z (pos 0) t ≡ true → (n : ℕ) → n < controllers
      → cc_value (asks j t n) (heard (cut_of (whole at) es)) ≡ cc_value (asks j (at +ℤ t) n) (heard es)
  reads-alike o j t from n m =
      reads-state (cut_of (whole at) es) set-too j t n
      ∙ ap (λ (v : Option ℤ). get_or v (default_of (pos n))) (controller-of (played_by t (cut_of (whole at) es)) (played_by (at +ℤ t) es) (on j) (plays-as-in-the-song at es o j t from) n m)
      ∙ sym (reads-state es h j (at +ℤ t) n)
