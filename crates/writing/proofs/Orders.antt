-- Two writes with different targets, the two bends being one: each target's own events come out the same, in the same order among
-- themselves, whichever is written first.
--     apart          an event of one target is none of the other's
--     untouched      a write leaves another target's events as they are
--     either_order   whatever the other's budget; the write's own must add the same both times (`Freedom.ample`)
use mathlib.Core.Path.{◌≡◌, refl, sym, ap, ap₂, ◌∙◌}
use mathlib.Core.Bool.{Bool, true, false, cond, not, ◌&&◌, ◌||◌, true≢false}
use mathlib.Core.List.{List, [], ◌∷◌, ◌++◌}
use Prim.Native.Nat.{ℕ}
use lib.IntN.{ℤ, pos}
use Rattle.laws.specs.Integers.{eq_z}
use Rattle.laws.specs.Lists.{unless, without}
use Rattle.laws.proofs.Bits.{eq_z-refl, eq_z-true}
use Rattle.numbers.specs.Ranges.{is_controller}
use Rattle.budget.specs.declared.Budget.{Budget}
use Rattle.events.specs.declared.Event.{Event}
use Rattle.events.specs.Kinds.{control_change, pitch_bend}
use Rattle.eventlist.specs.Windows.{taken_by}
use Rattle.values.specs.declared.Write.{Write}
use Rattle.values.specs.Value.{kind_of}
use Rattle.offers.specs.declared.Piece.{Piece}
use Rattle.offers.specs.Rules.{rule_of}
use Rattle.offers.specs.Runs.{new_events}
use Rattle.offers.specs.Pieces.{offers}
use Rattle.writing.specs.Calls.{window_of, kept_events, left_by}
use Rattle.writing.specs.Targets.{belongs, key_of, own_events}
use Rattle.writing.proofs.Every.{without-append, without-twice}
use Rattle.writing.proofs.Promises.{others}

-- ---- whose an event is
mine : ℤ → Bool → Event → Bool
mine t c e = eq_z e.kind (cond c control_change pitch_bend) && (not (eq_z (cond c control_change pitch_bend) control_change) || eq_z e.v1 t)

both : (x y : Bool) → (x && y) ≡ true → (x ≡ true) × (y ≡ true)
both true y e = (refl, e)
both false y e = absurd (true≢false (sym e))

apart_by : (t u : ℤ) (c d : Bool) (e : Event) → eq_z (cond c t (pos 128)) (cond d u (pos 128)) ≡ false → mine u d e ≡ true → mine t c e ≡ false
unfolding mine
apart_by t u true true e h m =
    let b = both (eq_z e.kind control_change) (eq_z e.v1 u) m in
    let k = eq_z-true e.kind control_change b.0 in
    let v = eq_z-true e.v1 u b.1 in
    ap₂ (λ (x y : ℤ). eq_z x control_change && eq_z y t) k v ∙ differ t u h
  where
    differ : (a b : ℤ) → eq_z a b ≡ false → eq_z b a ≡ false
    differ a b q = go (eq_z b a) refl
      where
        go : (s : Bool) → eq_z b a ≡ s → s ≡ false
        go true z = absurd (true≢false (sym (ap (λ (x : ℤ). eq_z a x) (eq_z-true b a z) ∙ eq_z-refl a) ∙ q))
        go false z = refl
apart_by t u true false e h m =
    let k = eq_z-true e.kind pitch_bend (both (eq_z e.kind pitch_bend) true m).0 in
    ap (λ (x : ℤ). eq_z x control_change && eq_z e.v1 t) k
apart_by t u false true e h m =
    let k = eq_z-true e.kind control_change (both (eq_z e.kind control_change) (eq_z e.v1 u) m).0 in
    ap (λ (x : ℤ). eq_z x pitch_bend && true) k
apart_by t u false false e h m = absurd (true≢false h)

pub apart : (t u : ℤ) (e : Event) → eq_z (key_of t) (key_of u) ≡ false → belongs u e ≡ true → belongs t e ≡ false
unfolding belongs kind_of mine
apart t u e h m = apart_by t u (is_controller t) (is_controller u) e h m

-- ---- taking out in either order
commute : {A : Type 0} (p q : A → Bool) (l : List A) → without p (without q l) ≡ without q (without p l)
commute p q [] = refl
commute {A} p q (x ∷ l) = go (p x) refl (q x) refl (commute p q l)
  where
    go : (s : Bool) → p x ≡ s → (t : Bool) → q x ≡ t → without p (without q l) ≡ without q (without p l)
        → without p (unless t x (without q l)) ≡ without q (unless s x (without p l))
    go true e true f ih = ih
    go true e false f ih = ap (λ (b : Bool). unless b x (without p (without q l))) e ∙ ih
    go false e true f ih = ih ∙ sym (ap (λ (b : Bool). unless b x (without q (without p l))) f)
    go false e false f ih =
        ap (λ (b : Bool). unless b x (without p (without q l))) e ∙ ap (λ (y : List A). x ∷ y) ih ∙ sym (ap (λ (b : Bool). unless b x (without q (without p l))) f)

module _ (v w : Write) (differ : eq_z (key_of v.target) (key_of w.target) ≡ false) where
  pub untouched : (b : Budget) (ts : List Piece) (s long : ℕ) (es : List Event) → own_events v.target (left_by w b (offers w.freq ts s 0) long es) ≡ own_events v.target es
  untouched b ts s long es =
      let p : (e : Event) → belongs w.target e ≡ true → not (belongs v.target e) ≡ true = λ e m. ap not (apart v.target w.target e differ m) in
      let rest = left_by w b (offers w.freq ts s 0) long es in
      sym (without-twice (λ (e : Event). not (belongs v.target e)) (belongs w.target) p rest)
      ∙ ap (own_events v.target) (others w b ts s long es)
      ∙ without-twice (λ (e : Event). not (belongs v.target e)) (belongs w.target) p es

  -- a write's own events, of a list whose own events are the same
  same-own : (b c : Budget) (us : List Piece) (r s long : ℕ) (es fs : List Event) → new_events (rule_of v) b (offers v.freq us r 0) ≡ new_events (rule_of v) c (offers v.freq us s 0)
      → own_events v.target es ≡ own_events v.target fs
      → own_events v.target (left_by v b (offers v.freq us r 0) long es) ≡ own_events v.target (left_by v c (offers v.freq us s 0) long fs)
  unfolding kept_events
  same-own b c us r s long es fs n e =
      let q : Event → Bool = λ (x : Event). not (belongs v.target x) in
      let t : Event → Bool = taken_by (window_of v long) in
      without-append q (kept_events v long es) (new_events (rule_of v) b (offers v.freq us r 0))
      ∙ ap₂ (λ (x y : List Event). x ++ without q y) (commute q t es ∙ ap (without t) e ∙ sym (commute q t fs)) n
      ∙ sym (without-append q (kept_events v long fs) (new_events (rule_of v) c (offers v.freq us s 0)))

  pub either_order : (b₁ b₂ b₃ b₄ : Budget) (us ts : List Piece) (r₁ r₂ s₁ s₂ far long : ℕ) (es : List Event)
      → new_events (rule_of v) b₁ (offers v.freq us r₁ 0) ≡ new_events (rule_of v) b₂ (offers v.freq us r₂ 0)
      → own_events v.target (left_by v b₁ (offers v.freq us r₁ 0) far (left_by w b₃ (offers w.freq ts s₁ 0) long es))
      ≡ own_events v.target (left_by w b₄ (offers w.freq ts s₂ 0) long (left_by v b₂ (offers v.freq us r₂ 0) far es))
  either_order b₁ b₂ b₃ b₄ us ts r₁ r₂ s₁ s₂ far long es n =
      same-own b₁ b₂ us r₁ r₂ far (left_by w b₃ (offers w.freq ts s₁ 0) long es) es n (untouched b₃ ts s₁ long es)
      ∙ sym (untouched b₄ ts s₂ long (left_by v b₂ (offers v.freq us r₂ 0) far es))
