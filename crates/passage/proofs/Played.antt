-- What a passage plays: what was folded, and then what the song plays from the cut on, in the song's order, each event at its time less
-- the cut's; Meta and SysEx aside, which make no sound, and of which those before the cut travel too.
--     travelled      the passage's list: what was folded, and then what travels, in the list's order, and nothing else
--     in_list        of that, what sounds,
--     played         and what sounds as it is played, in all
--     played-around, played-by   before and after an event, and at or before t
use mathlib.Core.Bool.{Bool, true, false, cond, not, ◌&&◌, ◌||◌}
use mathlib.Core.Path.{◌≡◌, refl, sym, ap, ap₂, ◌∙◌, fun_ext}
use mathlib.Core.List.{List, ◌∷◌, ◌++◌, map, append_assoc, map-append}
use lib.IntN.{ℤ, pos, neg_ℤ, ◌+ℤ◌, ◌-ℤ◌}
use lib.Signed.{lt_z, le_z}
use Rattle.laws.specs.Integers.{eq_z}
use Rattle.laws.specs.Lists.{all, without, only}
use Rattle.laws.proofs.Bits.{eq_z-true}
use Rattle.laws.proofs.Bools.{not-not}
use Rattle.laws.proofs.Compact.{without-twice}
use Rattle.laws.proofs.Every.{all-imply}
use Rattle.laws.proofs.Order.{lt-moved, le-until, le_not_lt, from_zero_lem, nlt-le}
use Rattle.laws.proofs.Parts.{all_map, all_left, map-alike, without-append, without-swap, map-without, without-none}
use Rattle.laws.proofs.Ranges.{right}
use Rattle.events.specs.declared.Event.{Event}
use Rattle.events.specs.Kinds.{note_on, control_change, pitch_bend, voice, meta, sys_ex}
use Rattle.sorting.specs.Sorting.{earlier}
use Rattle.sorting.proofs.Earlier.{earlier-asym, earlier-trans}
use Rattle.sorting.proofs.Thinning.{without-sort, sort-front, map-sort}
use Rattle.cutting.specs.Cuts.{folded, keeps, shifted, kept_of, whole, cut_of}
use Rattle.passage.specs.Player.{heard, played_by}
use Rattle.passage.specs.Passage.{sounds, travels, arrives, less_cut, from_cut}
use Rattle.passage.proofs.Folded.{any-event, folded-sounds, folded-begins}

module _ (at : ℤ) where
  -- ---- of what is kept, what sounds
  -- the kinds that sound or have data, and the time
  kinds : (n c v b m s t : Bool) → (m ≡ true → (n || c || v || b) ≡ false) → (s ≡ true → (n || c || v || b) ≡ false)
      → (not (m || s || ((n || c || v || b) && t)) || not (n || c || v || b)) ≡ not ((n || c || v || b) && t)
  kinds n c v b true s t h k = rw (h refl)
  kinds n c v b false true t h k = rw (k refl)
  kinds n c v b false false t h k = go (n || c || v || b) t
    where
      go : (x y : Bool) → (not (x && y) || not x) ≡ not (x && y)
      go true true = refl
      go true false = refl
      go false y = refl

  kept_or_not : (e : Event) → (not (keeps (whole at) e) || not (sounds e)) ≡ not (sounds e && le_z at e.time)
  unfolding keeps sounds
  kept_or_not e =
      kinds (eq_z e.kind note_on) (eq_z e.kind control_change) (eq_z e.kind voice) (eq_z e.kind pitch_bend) (eq_z e.kind meta) (eq_z e.kind sys_ex) (le_z at e.time)
      (λ h. rw (eq_z-true e.kind meta h)) (λ h. rw (eq_z-true e.kind sys_ex h))

  shifted-late : (e : Event) → not (not (sounds e && le_z at e.time)) ≡ true → shifted (whole at) e ≡ less_cut at e
  unfolding shifted
  shifted-late e h = rw (le_not_lt at e.time (right (sounds e) (le_z at e.time) (sym (not-not (sounds e && le_z at e.time)) ∙ h)))

  pub kept-sounds : (es : List Event) → only sounds (kept_of (whole at) es) ≡ from_cut at es
  unfolding shifted sounds
  kept-sounds es =
      sym (map-without (shifted (whole at)) (λ e. not (sounds e)) (without (λ e. not (keeps (whole at) e)) es))
      ∙ ap (map (shifted (whole at))) (without-twice (λ e. not (keeps (whole at) e)) (λ e. not (sounds e)) es ∙ ap (λ (out : Event → Bool). without out es) (fun_ext kept_or_not))
      ∙ map-alike (λ e. not (not (sounds e && le_z at e.time))) (shifted (whole at)) (less_cut at) shifted-late (without (λ e. not (sounds e && le_z at e.time)) es)
      (all_left (λ e. not (sounds e && le_z at e.time)) es)

  pub folded-all : (es : List Event) → only sounds (folded (whole at) es) ≡ folded (whole at) es
  folded-all es =
      without-none (λ e. not (sounds e)) (folded (whole at) es) (all-imply sounds (λ e. not (not (sounds e))) (λ e h. rw h) (folded (whole at) es) (folded-sounds at es))

  -- ---- the list
  pub travelled : (es : List Event) → cut_of (whole at) es ≡ folded (whole at) (heard es) ++ map (arrives at) (only (travels at) es)
  unfolding cut_of keeps shifted sounds
  travelled es = refl

  pub in_list : (es : List Event) → only sounds (cut_of (whole at) es) ≡ folded (whole at) (heard es) ++ from_cut at es
  unfolding cut_of
  in_list es =
      without-append (λ e. not (sounds e)) (folded (whole at) (heard es)) (kept_of (whole at) es) ∙ ap₂ (λ (x y : List Event). x ++ y) (folded-all (heard es)) (kept-sounds es)

  -- ---- what is played
  -- nothing that is kept stands before the passage's beginning
  begins : (e : Event) → le_z (pos 0) (shifted (whole at) e).time ≡ true
  unfolding shifted
  begins e = go (lt_z e.time at) refl
    where
      go : (t : Bool) → lt_z e.time at ≡ t → le_z (pos 0) (cond t (pos 0) (e.time -ℤ at)) ≡ true
      go true h = refl
      go false h = from_zero_lem e.time at (nlt-le e.time at h)

  kept-begins : (es : List Event) → all (λ e. le_z (pos 0) e.time) (kept_of (whole at) es) ≡ true
  kept-begins es =
      let kept = without (λ e. not (keeps (whole at) e)) es in
      all_map (λ e. true) (λ e. le_z (pos 0) e.time) (shifted (whole at)) (λ e h. begins e) kept (any-event kept)

  zero-first : (x y : Event) → eq_z x.time (pos 0) ≡ true → le_z (pos 0) y.time ≡ true → earlier y x ≡ false
  zero-first x y h k = rw (eq_z-true x.time (pos 0) h) (le_not_lt (pos 0) y.time k)

  pub front : (es : List Event) → heard (cut_of (whole at) es) ≡ folded (whole at) (heard es) ++ heard (kept_of (whole at) es)
  unfolding cut_of
  front es =
      sort-front earlier (λ e. eq_z e.time (pos 0)) (λ e. le_z (pos 0) e.time) (λ e h. rw (eq_z-true e.time (pos 0) h)) zero-first
      (folded (whole at) (heard es)) (kept_of (whole at) es) (folded-begins at (heard es)) (kept-begins es)

  from-cut-heard : (es : List Event) → heard (from_cut at es) ≡ from_cut at (heard es)
  from-cut-heard es =
      let out : Event → Bool = λ e. not (sounds e && le_z at e.time) in
      sym (map-sort earlier (less_cut at) (λ a b. lt-moved a.time b.time (neg_ℤ at)) (without out es))
      ∙ ap (map (less_cut at)) (sym (without-sort earlier earlier-asym earlier-trans out es))

  pub played : (es : List Event) → only sounds (heard (cut_of (whole at) es)) ≡ folded (whole at) (heard es) ++ from_cut at (heard es)
  played es =
      ap (only sounds) (front es)
      ∙ without-append (λ e. not (sounds e)) (folded (whole at) (heard es)) (heard (kept_of (whole at) es))
      ∙ ap₂ (λ (x y : List Event). x ++ y) (folded-all (heard es))
      (without-sort earlier earlier-asym earlier-trans (λ e. not (sounds e)) (kept_of (whole at) es) ∙ ap heard (kept-sounds es) ∙ from-cut-heard es)

  -- around an event that sounds, of those at or after the cut
  pub played-around : (es a b : List Event) (e : Event) → heard es ≡ a ++ (e ∷ b) → sounds e ≡ true → le_z at e.time ≡ true
      → only sounds (heard (cut_of (whole at) es)) ≡ (folded (whole at) (heard es) ++ from_cut at a) ++ (less_cut at e ∷ from_cut at b)
  played-around es a b e split audible late =
      let out : Event → Bool = λ x. not (sounds x && le_z at x.time) in
      let F = folded (whole at) (heard es) in
      let parts : from_cut at (a ++ (e ∷ b)) ≡ from_cut at a ++ from_cut at (e ∷ b) =
      ap (map (less_cut at)) (without-append out a (e ∷ b)) ∙ map-append (less_cut at) (without out a) (without out (e ∷ b)) in
      let here : from_cut at (e ∷ b) ≡ less_cut at e ∷ from_cut at b = rw (audible, late) in
      played es ∙ ap (λ (l : List Event). F ++ l) (ap (from_cut at) split ∙ parts ∙ ap (λ (l : List Event). from_cut at a ++ l) here) ∙ sym (append_assoc F (from_cut at a) (less_cut at e ∷ from_cut at b))

  -- by t
  begun : (t : ℤ) → le_z (pos 0) t ≡ true → (es : List Event) → only (λ e. le_z e.time t) (folded (whole at) es) ≡ folded (whole at) es
  begun t from es =
      without-none (λ e. not (le_z e.time t)) (folded (whole at) es)
      (all-imply (λ (e : Event). eq_z e.time (pos 0)) (λ e. not (not (le_z e.time t))) (λ e h. rw (eq_z-true e.time (pos 0) h, from)) (folded (whole at) es) (folded-begins at es))

  from-cut-by : (t : ℤ) (s : List Event) → only (λ e. le_z e.time t) (from_cut at s) ≡ from_cut at (only (λ e. le_z e.time (at +ℤ t)) s)
  from-cut-by t s =
      let out : Event → Bool = λ e. not (sounds e && le_z at e.time) in
      sym (map-without (less_cut at) (λ e. not (le_z e.time t)) (without out s))
      ∙ ap (map (less_cut at))
      (ap (λ (p : Event → Bool). without p (without out s)) (fun_ext (λ (e : Event). ap not (le-until e.time at t))) ∙ without-swap (λ e. not (le_z e.time (at +ℤ t))) out s)

  pub played-by : (t : ℤ) → le_z (pos 0) t ≡ true → (es : List Event)
      → only sounds (played_by t (cut_of (whole at) es)) ≡ folded (whole at) (heard es) ++ from_cut at (played_by (at +ℤ t) es)
  played-by t from es =
      without-swap (λ e. not (sounds e)) (λ e. not (le_z e.time t)) (heard (cut_of (whole at) es))
      ∙ ap (only (λ e. le_z e.time t)) (played es)
      ∙ without-append (λ e. not (le_z e.time t)) (folded (whole at) (heard es)) (from_cut at (heard es))
      ∙ ap₂ (λ (x y : List Event). x ++ y) (begun t from (heard es)) (from-cut-by t (heard es))
