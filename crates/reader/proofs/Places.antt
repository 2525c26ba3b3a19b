-- What stands at a place of a body, by its first byte: each way out of a function that reads at a place is one of these.
use mathlib.Core.Bool.{true, false, ◌||◌}
use mathlib.Core.Path.{◌≡◌, refl, sym, ap, ◌∙◌}
use mathlib.Core.List.{List, [], ◌∷◌}
use Prim.Native.Nat.{ℕ, suc, ◌+◌, ◌*◌, ◌≤◌, ◌<◌}
use native.Mathlib.Omega.{arith}
use borrow.Author.Tests.{lt-ltb, le-ltb, eq-eqb, ne_eqb, le-leb, lt-leb}
use lib.Dec.{eqb}
use lib.ListN.{length, drop, get_or, drop_of_length-le, length-drop}
use lib.Seq.{drop-cons, drop-drop}
use Rattle.std.specs.Prelude.{Some, None}
use Rattle.events.specs.declared.Event.{Event}
use Rattle.quantities.specs.declared.Quantity.{Quantity}
use Rattle.quantities.specs.Quantities.{quantity_top, met, quantity_from, quantity_in}
use Rattle.chunks.specs.Reader.{Seen, seen, fault, single, step_over, end_in, meta_in, second_in, message_in, status_in, seen_in}
use Rattle.reader.specs.declared.Found.{Found}
use Rattle.reader.specs.Steps.{tells}

-- what a function that reads at a place promises of its answer
abbrev pub Answers : Found → (ℕ → Seen Event) → Type 0
Answers r says = record { at_each_time : (t : ℕ) → tells t r ≡ says t; gap_lt_quantity_top : r.gap < quantity_top }

pub answered : (r : Found) {f g : ℕ → Seen Event} → Answers r f → ((t : ℕ) → f t ≡ g t) → Answers r g
answered r a same = record { at_each_time = λ t. a.at_each_time t ∙ same t; gap_lt_quantity_top = a.gap_lt_quantity_top }

-- ---- a place
module _ (s : List ℕ) (from used : ℕ) where
  pub none_left : length s ≤ from + used → drop (from + used) s ≡ []
  none_left h = drop_of_length-le s {i = from + used} h

  pub byte_left : from + used < length s → drop (from + used) s ≡ get_or s (from + used) 0 ∷ drop (from + (used + 1)) s
  byte_left h =
      let n : suc (from + used) ≡ from + (used + 1) = omega arith in
      drop-cons s (from + used) 0 h ∙ ap (λ (p : ℕ). get_or s (from + used) 0 ∷ drop p s) n

-- ---- no quantity
module _ {A : Type 0} (gap used : ℕ) (l : List ℕ) (e : None ≡ quantity_in l) where
  pub over_none : fault {A = A} 14 ≡ step_over gap used l
  unfolding step_over
  over_none = rw (← e)

  pub end_none : fault {A = A} 14 ≡ end_in gap used l
  unfolding end_in
  end_none = rw (← e)

-- ---- what is stepped over
module _ {A : Type 0} (gap used : ℕ) (l : List ℕ) (n : Quantity) (e : Some n ≡ quantity_in l) where
  pub over-short : length l < n.used + n.value → fault {A = A} 14 ≡ step_over gap used l
  unfolding step_over
  over-short h = rw (← e, lt-leb (n.used + n.value) (length l) h)

  pub over-all : n.used + n.value ≤ length l → seen {A = A} 0 [] (used + (n.used + n.value)) 0 gap ≡ step_over gap used l
  unfolding step_over
  over-all k = rw (← e, le-leb (n.used + n.value) (length l) k)

  -- ---- the end of track
  pub end-long : (n.value ≡ 0 → ⊥) → fault {A = A} 14 ≡ end_in gap used l
  unfolding end_in
  end-long h = rw (← e, ne_eqb n.value 0 h)

  pub end-behind : n.value ≡ 0 → (n.used ≡ length l → ⊥) → fault {A = A} 15 ≡ end_in gap used l
  unfolding end_in
  end-behind k m = rw (← e, eq-eqb n.value 0 k, ne_eqb n.used (length l) m)

  pub end-well : n.value ≡ 0 → n.used ≡ length l → seen {A = A} 1 [] (used + n.used) 0 gap ≡ end_in gap used l
  unfolding end_in
  end-well k m = rw (← e, eq-eqb n.value 0 k, eq-eqb n.used (length l) m)

-- ---- a Meta event
module _ {A : Type 0} (gap used : ℕ) where
  pub meta-cut : fault {A = A} 14 ≡ meta_in gap used []
  unfolding meta_in
  meta-cut = refl

  module _ (x : ℕ) (l : List ℕ) where
    pub meta-high : 128 ≤ x → fault {A = A} 14 ≡ meta_in gap used (x ∷ l)
    unfolding meta_in
    meta-high h = rw (le-ltb x 128 h)

    pub meta-end : x ≡ 47 → end_in {A = A} gap (used + 1) l ≡ meta_in gap used (x ∷ l)
    unfolding meta_in
    meta-end h = rw h

    pub meta-over : x < 128 → (x ≡ 47 → ⊥) → step_over {A = A} gap (used + 1) l ≡ meta_in gap used (x ∷ l)
    unfolding meta_in
    meta-over h k = rw (lt-ltb x 128 h, ne_eqb x 47 k)

module _ {A : Type 0} (make : ℕ → ℕ → ℕ → ℕ → List A) (status time gap used : ℕ) where
  -- ---- a message: the second data byte, and the first
  module _ (a : ℕ) where
    pub second-cut : fault 14 ≡ second_in make status time gap used a []
    unfolding second_in
    second-cut = refl

    pub second-high : (x : ℕ) (l : List ℕ) → 128 ≤ x → fault 14 ≡ second_in make status time gap used a (x ∷ l)
    unfolding second_in
    second-high x l h = rw (le-ltb x 128 h)

    pub second-well : (x : ℕ) (l : List ℕ) → x < 128 → seen 0 (make status time a x) (used + 1) status gap ≡ second_in make status time gap used a (x ∷ l)
    unfolding second_in
    second-well x l h = rw (lt-ltb x 128 h)

  pub message-cut : fault 14 ≡ message_in make status time gap used []
  unfolding message_in
  message-cut = refl

  module _ (x : ℕ) (l : List ℕ) where
    pub message-high : 128 ≤ x → fault 14 ≡ message_in make status time gap used (x ∷ l)
    unfolding message_in
    message-high h = rw (le-ltb x 128 h)

    pub message-one : x < 128 → single status ≡ true → seen 0 (make status time x 0) (used + 1) status gap ≡ message_in make status time gap used (x ∷ l)
    unfolding message_in
    message-one h k = rw (lt-ltb x 128 h, k)

    pub message-two : x < 128 → single status ≡ false → second_in make status time gap (used + 1) x l ≡ message_in make status time gap used (x ∷ l)
    unfolding message_in
    message-two h k = rw (lt-ltb x 128 h, k)

  -- ---- what stands behind a gap; `status` is the running one
  pub status-cut : fault 14 ≡ status_in make status time gap used []
  unfolding status_in
  status-cut = refl

  module _ (x : ℕ) (l : List ℕ) where
    pub no-running : x < 128 → status ≡ 0 → fault 14 ≡ status_in make status time gap used (x ∷ l)
    unfolding status_in
    no-running h k = rw (lt-ltb x 128 h, eq-eqb status 0 k)

    pub runs : x < 128 → (status ≡ 0 → ⊥) → message_in make status time gap used (x ∷ l) ≡ status_in make status time gap used (x ∷ l)
    unfolding status_in
    runs h k = rw (lt-ltb x 128 h, ne_eqb status 0 k)

    pub sends : 128 ≤ x → x < 240 → message_in make x time gap (used + 1) l ≡ status_in make status time gap used (x ∷ l)
    unfolding status_in
    sends h k = rw (le-ltb x 128 h, lt-ltb x 240 k)

    pub meta-met : x ≡ 255 → meta_in gap (used + 1) l ≡ status_in make status time gap used (x ∷ l)
    unfolding status_in
    meta-met h = rw h

    pub over-met : 240 ≤ x → (x ≡ 255 → ⊥) → eqb x 240 || eqb x 247 ≡ true → step_over gap (used + 1) l ≡ status_in make status time gap used (x ∷ l)
    unfolding status_in
    over-met h k m = rw (le-ltb x 128 (omega arith), le-ltb x 240 h, ne_eqb x 255 k, m)

    pub no-status : 240 ≤ x → (x ≡ 255 → ⊥) → eqb x 240 || eqb x 247 ≡ false → fault 14 ≡ status_in make status time gap used (x ∷ l)
    unfolding status_in
    no-status h k m = rw (le-ltb x 128 (omega arith), le-ltb x 240 h, ne_eqb x 255 k, m)

-- ---- the event at a place
module _ {A : Type 0} (make : ℕ → ℕ → ℕ → ℕ → List A) (running time : ℕ) (l : List ℕ) where
  pub seen_nothing : length l ≡ 0 → fault 15 ≡ seen_in make running time l
  unfolding seen_in
  seen_nothing h = rw (eq-eqb (length l) 0 h)

  module _ (some : 0 < length l) where
    not_none : eqb (length l) 0 ≡ false
    not_none = ne_eqb (length l) 0 (λ (y : length l ≡ 0). absurd (omega arith))

    pub seen-no-gap : None ≡ quantity_in l → fault 14 ≡ seen_in make running time l
    unfolding seen_in
    seen-no-gap e = rw (not_none, ← e)

    pub seen-behind : (n : Quantity) → Some n ≡ quantity_in l → status_in make running (time + n.value) n.value n.used (drop n.used l) ≡ seen_in make running time l
    unfolding seen_in
    seen-behind n e = rw (not_none, ← e)

-- behind a gap of one byte
module _ {A : Type 0} (make : ℕ → ℕ → ℕ → ℕ → List A) (running time : ℕ) (s : List ℕ) (from : ℕ) where
  short-gap : (g : ℕ) (l : List ℕ) → g < 128 → met g 1 ≡ quantity_in (g ∷ l)
  unfolding quantity_from
  short-gap g l h = let v : 0 * 128 + g ≡ g = omega arith in rw (lt-ltb g 128 h, v)

  pub seen-quick : (h : from < length s) → (let g = get_or s from 0 in g < 128 → status_in make running (time + g) g 1 (drop (from + 1) s) ≡ seen_in make running time (drop from s))
  seen-quick h b =
      let g = get_or s from 0 in
      let n = length-drop from s in
      ap (status_in make running (time + g) g 1) (sym (drop-drop 1 from s))
      ∙ seen-behind make running time (drop from s) (omega arith) (record { value = g; used = 1 }) (short-gap g (drop (suc from) s) b ∙ ap quantity_in (sym (drop-cons s from 0 h)))
