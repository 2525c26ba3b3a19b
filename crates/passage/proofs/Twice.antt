-- A cut of a cut: the full cut at c, then at d, 0 or more, is the full cut at c + d, as far as a player's state goes, and notes, Meta and
-- SysEx. What lay between the cuts is folded in both; where it is folded from is not the same.
--     state-twice, state-twice-anywhere   what a player has, of one channel and of all
--     notes-twice                         what is never folded, in the list's order
use mathlib.Core.Bool.{Bool, true, false, cond, not, ◌&&◌, ◌||◌, true≢false}
use mathlib.Core.Path.{◌≡◌, refl, sym, ap, ◌∙◌, fun_ext}
use mathlib.Core.List.{List, [], ◌++◌, map, map-append, map-map}
use mathlib.Core.Logic.{⊎_elim}
use Prim.Native.Nat.{ℕ, zero, suc}
use native.Mathlib.Omega.{arith}
use borrow.Author.Tests.{lt-ltb}
use lib.IntN.{ℤ, pos, negsuc, neg_ℤ, ◌+ℤ◌, ◌-ℤ◌, +ℤ_assoc, neg_ℤ-+ℤ}
use lib.Signed.{lt_z, le_z}
use Rattle.laws.specs.Integers.{eq_z}
use Rattle.laws.specs.Lists.{all, without, only}
use Rattle.laws.proofs.Bools.{or-on, contra, narrower}
use Rattle.laws.proofs.Compact.{without-twice}
use Rattle.laws.proofs.Every.{all-imply}
use Rattle.laws.proofs.Order.{lt_not_le, le_not_lt, nlt-le, nlt_z-trans, not-less, le_from, lt-until}
use Rattle.laws.proofs.Parts.{all_append, all_map, all_without, map-without, without-append, without_all_lem}
use Rattle.laws.proofs.Ranges.{left, right}
use Rattle.events.specs.declared.Event.{Event}
use Rattle.events.specs.Events.{cc_event, voice_event}
use Rattle.events.specs.Kinds.{note_on, control_change, pitch_bend, voice, meta, sys_ex}
use Rattle.sorting.specs.Sorting.{earlier}
use Rattle.sorting.proofs.Sound.{all-sort}
use Rattle.cutting.specs.Choice.{last_of}
use Rattle.cutting.specs.Cuts.{unset, with_time, folds, controls, tells, control_at, program_at, channel_at, folded, keeps, shifted, kept_of, whole, cut_of}
use Rattle.cutting.proofs.Lasts.{last_none}
use Rattle.passage.specs.Player.{heard, on, anywhere, state}
use Rattle.passage.specs.Passage.{unfolded, FromOne}
use Rattle.passage.proofs.Folded.{all-folded, all-bend, bend-by-kind}
use Rattle.passage.proofs.Passage.{plays-as-in-the-song, every-list}
use Rattle.passage.proofs.Told.{channel-told}

-- 0, or the time less the cut's
abbrev since : ℤ → ℤ → ℤ
since at x = cond (lt_z x at) (pos 0) (x -ℤ at)

module _ (c d : ℤ) (from : le_z (pos 0) d ≡ true) where
  -- ---- times
  -- before the first cut is before the second
  sooner : (x : ℤ) → lt_z x c ≡ true → lt_z x (c +ℤ d) ≡ true
  sooner x h = go (lt_z x (c +ℤ d)) refl
    where
      go : (t : Bool) → lt_z x (c +ℤ d) ≡ t → lt_z x (c +ℤ d) ≡ true
      go true q = q
      go false q = absurd (true≢false (sym h ∙ nlt_z-trans c (c +ℤ d) x (le_not_lt c (c +ℤ d) (not-less c d from)) q))

  at_zero : (n : ℕ) → cond (lt_z (pos 0) (pos n)) (pos 0) (pos 0 -ℤ pos n) ≡ pos 0
  at_zero zero = refl
  at_zero (suc n) = rw (lt-ltb 0 (suc n) (omega arith))

  from_zero_lem : (z : ℤ) → le_z (pos 0) z ≡ true → cond (lt_z (pos 0) z) (pos 0) (pos 0 -ℤ z) ≡ pos 0
  from_zero_lem (pos n) h = at_zero n
  from_zero_lem (negsuc n) h = cc

  less-twice : (x : ℤ) → (x -ℤ c) -ℤ d ≡ x -ℤ (c +ℤ d)
  less-twice x = +ℤ_assoc x (neg_ℤ c) (neg_ℤ d) ∙ ap (λ (z : ℤ). x +ℤ z) (sym (neg_ℤ-+ℤ c d))

  since-twice : (x : ℤ) → since d (since c x) ≡ since (c +ℤ d) x
  since-twice x = go (lt_z x c) refl
    where
      go : (t : Bool) → lt_z x c ≡ t → since d (cond t (pos 0) (x -ℤ c)) ≡ since (c +ℤ d) x
      go true h = from_zero_lem d from ∙ rw (sooner x h)
      go false h = rw (lt-until x c d, less-twice x)

  before-twice : (x : ℤ) → lt_z (since c x) d ≡ true → lt_z x (c +ℤ d) ≡ true
  before-twice x h = go (lt_z x c) refl
    where
      go : (t : Bool) → lt_z x c ≡ t → lt_z x (c +ℤ d) ≡ true
      go true q = sooner x q
      go false q = sym (lt-until x c d) ∙ (let k : lt_z (x -ℤ c) d ≡ true = rw q at h in k)

  after-twice : (x : ℤ) → (le_z c x && le_z d (since c x)) ≡ le_z (c +ℤ d) x
  after-twice x = go (lt_z x c) refl
    where
      go : (t : Bool) → lt_z x c ≡ t → (le_z c x && le_z d (since c x)) ≡ le_z (c +ℤ d) x
      go true h = rw (lt_not_le x c h, lt_not_le x (c +ℤ d) (sooner x h))
      go false h = rw (nlt-le x c h, h) (le_from x c d)

  -- ---- what is never folded
  shifted-twice : (e : Event) → shifted (whole d) (shifted (whole c) e) ≡ shifted (whole (c +ℤ d)) e
  unfolding shifted
  shifted-twice e = ap (λ (z : ℤ). with_time z e) (since-twice e.time)

  -- kept by both cuts, or by the one
  kept-twice : (e : Event) → ((not (keeps (whole c) e) || not (keeps (whole d) (shifted (whole c) e))) || not (unfolded e)) ≡ (not (keeps (whole (c +ℤ d)) e) || not (unfolded e))
  unfolding keeps shifted unfolded
  kept-twice e =
      go (eq_z e.kind note_on) (eq_z e.kind meta) (eq_z e.kind sys_ex) (eq_z e.kind control_change) (eq_z e.kind voice) (eq_z e.kind pitch_bend)
    where
      both : (x y : Bool) → ((not x || not y) || false) ≡ (not (x && y) || false)
      both true y = refl
      both false y = refl

      go : (n m s k v b : Bool)
          → ((not (m || s || ((n || k || v || b) && le_z c e.time)) || not (m || s || ((n || k || v || b) && le_z d (since c e.time)))) || not (n || m || s))
          ≡ (not (m || s || ((n || k || v || b) && le_z (c +ℤ d) e.time)) || not (n || m || s))
      go n true s k v b = refl
      go n false true k v b = refl
      go true false false k v b = rw (sym (after-twice e.time)) (both (le_z c e.time) (le_z d (since c e.time)))
      go false false false k v b =
          or-on (not ((k || v || b) && le_z c e.time) || not ((k || v || b) && le_z d (since c e.time))) ∙ sym (or-on (not ((k || v || b) && le_z (c +ℤ d) e.time)))

module _ (at : ℤ) where
  thinned : (out : Event → Bool) (es : List Event) → only unfolded (map (shifted (whole at)) (without out es)) ≡ map (shifted (whole at)) (without (λ e. out e || not (unfolded e)) es)
  unfolding shifted unfolded
  thinned out es = sym (map-without (shifted (whole at)) (λ e. not (unfolded e)) (without out es)) ∙ ap (map (shifted (whole at))) (without-twice out (λ e. not (unfolded e)) es)

  none-unfolded : (es : List Event) → all (λ e. not (unfolded e)) (folded (whole at) es) ≡ true
  unfolding unfolded
  none-unfolded es = all-folded (λ e. not (unfolded e)) at es (λ n h. refl) (λ h. refl) (bend-by-kind (λ e. not (unfolded e)) at es (λ e k. rw k))

  pub notes-kept : (es : List Event) → only unfolded (cut_of (whole at) es) ≡ only unfolded (kept_of (whole at) es)
  unfolding cut_of
  notes-kept es =
      without-append (λ e. not (unfolded e)) (folded (whole at) (heard es)) (kept_of (whole at) es)
      ∙ ap (λ (l : List Event). l ++ only unfolded (kept_of (whole at) es)) (without_all_lem (λ e. not (unfolded e)) (folded (whole at) (heard es)) (none-unfolded (heard es)))

  -- of what was folded before, nothing is left of these
  none_left : (es : List Event) → all (λ e. not (unfolded e)) es ≡ true → only unfolded (kept_of (whole at) es) ≡ []
  none_left es h =
      thinned (λ e. not (keeps (whole at) e)) es
      ∙ ap (map (shifted (whole at)))
      (without_all_lem (λ e. not (keeps (whole at) e) || not (unfolded e)) es
      (all-imply (λ e. not (unfolded e)) (λ e. not (keeps (whole at) e) || not (unfolded e)) (λ e q. rw q (or-on (not (keeps (whole at) e)))) es h))

module _ (c d : ℤ) (from : le_z (pos 0) d ≡ true) where
  both-kept : (es : List Event) → only unfolded (kept_of (whole d) (kept_of (whole c) es)) ≡ only unfolded (kept_of (whole (c +ℤ d)) es)
  both-kept es =
      let sc = shifted (whole c) in
      let sd = shifted (whole d) in
      let s = shifted (whole (c +ℤ d)) in
      let o : Event → Bool = λ e. not (keeps (whole c) e) || not (keeps (whole d) (shifted (whole c) e)) in
      ap (λ (l : List Event). only unfolded (map sd l))
      (sym (map-without sc (λ e. not (keeps (whole d) e)) (without (λ e. not (keeps (whole c) e)) es))
      ∙ ap (map sc) (without-twice (λ e. not (keeps (whole c) e)) (λ e. not (keeps (whole d) (sc e))) es))
      ∙ ap (only unfolded)
      (map-map sd sc (without o es) ∙ ap (λ (f : Event → Event). map f (without o es)) (fun_ext (shifted-twice c d from)))
      ∙ thinned (c +ℤ d) o es
      ∙ ap (λ (p : Event → Bool). map s (without p es)) (fun_ext (kept-twice c d from))
      ∙ sym (thinned (c +ℤ d) (λ e. not (keeps (whole (c +ℤ d)) e)) es)

  pub notes-twice : (es : List Event) → only unfolded (cut_of (whole d) (cut_of (whole c) es)) ≡ only unfolded (cut_of (whole (c +ℤ d)) es)
  unfolding cut_of
  notes-twice es =
      let F = folded (whole c) (heard es) in
      let K = kept_of (whole c) es in
      notes-kept d (F ++ K)
      ∙ ap (only unfolded) (kept_append F K)
      ∙ without-append (λ e. not (unfolded e)) (kept_of (whole d) F) (kept_of (whole d) K)
      ∙ ap (λ (l : List Event). l ++ only unfolded (kept_of (whole d) K)) (none_left d F (none-unfolded c (heard es)))
      ∙ both-kept es
      ∙ sym (notes-kept (c +ℤ d) es)
    where
      kept_append : (a b : List Event) → kept_of (whole d) (a ++ b) ≡ kept_of (whole d) a ++ kept_of (whole d) b
      kept_append a b =
          ap (map (shifted (whole d))) (without-append (λ e. not (keeps (whole d) e)) a b)
          ∙ map-append (shifted (whole d)) (without (λ e. not (keeps (whole d) e)) a) (without (λ e. not (keeps (whole d) e)) b)

-- ---- what is folded comes of one channel, the second time too
module _ (c d : ℤ) (from : le_z (pos 0) d ≡ true) where
  folds-sooner : (k : ℤ) (e : Event) → folds k c e ≡ true → folds k (c +ℤ d) e ≡ true
  unfolding folds
  folds-sooner k e h = rw (left (eq_z e.kind k) (lt_z e.time c) h) (sooner c d from e.time (right (eq_z e.kind k) (lt_z e.time c) h))

  folds-twice : (k : ℤ) (e : Event) → folds k d (shifted (whole c) e) ≡ true → folds k (c +ℤ d) e ≡ true
  unfolding folds shifted
  folds-twice k e h =
      rw (left (eq_z e.kind k) (lt_z (since c e.time) d) h) (before-twice c d from e.time (right (eq_z e.kind k) (lt_z (since c e.time) d) h))

  either : (a b a' b' : Bool) → (a ≡ true → a' ≡ true) → (b ≡ true → b' ≡ true) → (a || b) ≡ true → (a' || b') ≡ true
  either true b a' b' f g h = rw (f refl)
  either false b a' b' f g h = rw (g h) (or-on a')

  module _ (es : List Event) (h : FromOne (c +ℤ d) es) where
    abbrev os : List Event
    os = heard es

    pub from-one-first : FromOne c es
    from-one-first =
        record {
          told = h.told;
          bent = h.bent;
          all_told = all-imply (λ e. not (tells (c +ℤ d) e) || eq_z e.channel h.told) (λ e. not (tells c e) || eq_z e.channel h.told)
              (λ e. narrower (tells c e) (tells (c +ℤ d) e) (eq_z e.channel h.told) (either (folds voice c e) (folds control_change c e) (folds voice (c +ℤ d) e) (folds control_change (c +ℤ d) e) (folds-sooner voice e) (folds-sooner control_change e))) es h.all_told;
          all-bent = all-imply (λ e. not (folds pitch_bend (c +ℤ d) e) || eq_z e.channel h.bent) (λ e. not (folds pitch_bend c e) || eq_z e.channel h.bent)
              (λ e. narrower (folds pitch_bend c e) (folds pitch_bend (c +ℤ d) e) (eq_z e.channel h.bent) (folds-sooner pitch_bend e)) es h.all-bent;
        }

    -- a value that is set was told, and its channel with it
    module _ (m : Event → Bool) (also : (e : Event) → m e ≡ true → tells c e ≡ true) (f : Event → ℤ) where
      told-on : lt_z (last_of m f unset os) (pos 0) ≡ false → eq_z (channel_at c os) h.told ≡ true
      unfolding from-one-first
      told-on k =
          ⊎_elim
          (λ (n : all (λ e. not (tells c e)) es ≡ true).
          let gone = all-imply (λ e. not (tells c e)) (λ e. not (m e)) (λ e. contra (m e) (tells c e) (also e)) os (all-sort earlier (λ e. not (tells c e)) es n) in
          absurd (true≢false (ap (λ (z : ℤ). lt_z z (pos 0)) (sym (last_none m f unset os gone)) ∙ k)))
          (λ q. q)
          (channel-told (λ (z : ℤ). eq_z z h.told) c es true from-one-first.all_told)

    told-folded : all (λ e. not (tells d e) || eq_z e.channel h.told) (folded (whole c) os) ≡ true
    unfolding folds
    told-folded =
        let q : Event → Bool = λ e. not (tells d e) || eq_z e.channel h.told in
        all-folded q c os
        (λ n k. rw (told-on (controls c n) (λ e y. rw (left (folds control_change c e) (eq_z e.v1 (pos n)) y) (or-on (folds voice c e))) (λ e. e.v2) k) (or-on (not (tells d (cc_event (pos 0) (channel_at c os) (pos n) (control_at c os n))))))
        (λ k. rw (told-on (folds voice c) (λ e y. rw y) (λ e. e.v1) k) (or-on (not (tells d (voice_event (pos 0) (channel_at c os) (program_at c os))))))
        (bend-by-kind q c os (λ e k. rw k))

    bent-folded : all (λ e. not (folds pitch_bend d e) || eq_z e.channel h.bent) (folded (whole c) os) ≡ true
    unfolding folds from-one-first
    bent-folded =
        let q : Event → Bool = λ e. not (folds pitch_bend d e) || eq_z e.channel h.bent in
        all-folded q c os (λ n k. refl) (λ k. refl)
        (all-bend q c (λ e. not (folds pitch_bend c e) || eq_z e.channel h.bent) (λ e y f. on-it e y f) os
        (all-sort earlier (λ e. not (folds pitch_bend c e) || eq_z e.channel h.bent) es from-one-first.all-bent))
      where
        on-it : (e : Event) → (not (folds pitch_bend c e) || eq_z e.channel h.bent) ≡ true → folds pitch_bend c e ≡ true
            → (not (folds pitch_bend d (with_time (pos 0) e)) || eq_z e.channel h.bent) ≡ true
        on-it e y f = let k : eq_z e.channel h.bent ≡ true = rw f at y in rw k (or-on (not (folds pitch_bend d (with_time (pos 0) e))))

    -- of what is kept, by the first list
    kept-alike : (m m' : Event → Bool) (channel : ℤ) → ((e : Event) → m' (shifted (whole c) e) ≡ true → m e ≡ true)
        → all (λ e. not (m e) || eq_z e.channel channel) es ≡ true → all (λ e. not (m' e) || eq_z e.channel channel) (kept_of (whole c) es) ≡ true
    unfolding shifted
    kept-alike m m' channel f y =
        all_map (λ e. not (m e) || eq_z e.channel channel) (λ e. not (m' e) || eq_z e.channel channel) (shifted (whole c))
        (λ e. narrower (m' (shifted (whole c) e)) (m e) (eq_z e.channel channel) (f e)) (without (λ e. not (keeps (whole c) e)) es)
        (all_without (λ e. not (m e) || eq_z e.channel channel) (λ e. not (keeps (whole c) e)) es y)

    pub from-one-second : FromOne d (cut_of (whole c) es)
    unfolding cut_of
    from-one-second =
        record {
          told = h.told;
          bent = h.bent;
          all_told = all_append (λ e. not (tells d e) || eq_z e.channel h.told) (folded (whole c) os) (kept_of (whole c) es) told-folded
              (kept-alike (tells (c +ℤ d)) (tells d) h.told
              (λ e. either (folds voice d (shifted (whole c) e)) (folds control_change d (shifted (whole c) e)) (folds voice (c +ℤ d) e) (folds control_change (c +ℤ d) e) (folds-twice voice e) (folds-twice control_change e)) h.all_told);
          all-bent = all_append (λ e. not (folds pitch_bend d e) || eq_z e.channel h.bent) (folded (whole c) os) (kept_of (whole c) es) bent-folded
              (kept-alike (folds pitch_bend (c +ℤ d)) (folds pitch_bend d) h.bent (folds-twice pitch_bend) h.all-bent);
        }

  -- ---- what a player has
  module _ (t : ℤ) (since-zero : le_z (pos 0) t ≡ true) where
    later : le_z (pos 0) (d +ℤ t) ≡ true
    later = nlt-le (d +ℤ t) (pos 0) (nlt_z-trans (pos 0) d (d +ℤ t) (le_not_lt (pos 0) d from) (le_not_lt d (d +ℤ t) (not-less d t since-zero)))

    pub state-twice : (es : List Event) → FromOne (c +ℤ d) es → (j : ℤ) → state (cut_of (whole d) (cut_of (whole c) es)) (on j) t ≡ state (cut_of (whole (c +ℤ d)) es) (on j) t
    state-twice es h j =
        plays-as-in-the-song d (cut_of (whole c) es) (from-one-second es h) j t since-zero
        ∙ plays-as-in-the-song c es (from-one-first es h) j (d +ℤ t) later
        ∙ ap (state es (on j)) (sym (+ℤ_assoc c d t))
        ∙ sym (plays-as-in-the-song (c +ℤ d) es h j t since-zero)

    pub state-twice-anywhere : (es : List Event) → state (cut_of (whole d) (cut_of (whole c) es)) anywhere t ≡ state (cut_of (whole (c +ℤ d)) es) anywhere t
    state-twice-anywhere es =
        every-list d (cut_of (whole c) es) t since-zero
        ∙ every-list c es (d +ℤ t) later
        ∙ ap (state es anywhere) (sym (+ℤ_assoc c d t))
        ∙ sym (every-list (c +ℤ d) es t since-zero)
