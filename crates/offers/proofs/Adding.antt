-- A run over offers, told by what is left: the walk, the count and the records that come of what is left, from here, are those of the
-- whole, from the beginning. So a step is one clause of a definition, and the end is the empty list.
use mathlib.Core.Path.{◌≡◌, refl, sym, ap, ap₂, ◌∙◌}
use Rattle.std.specs.Prelude.{Option, Some, None, option_to_list}
use mathlib.Core.List.{List, [], ◌∷◌, ◌++◌, append_assoc}
use Prim.Native.Nat.{ℕ, ◌+◌, ◌≤◌, ◌<◌}
use native.Mathlib.Omega.{arith}
use native.Mathlib.Numerals.{add-one}
use lib.ListN.{length, take, drop, set, take-append-drop, length-append, length-drop}
use lib.Seq.{set_split, take-append_seam, drop-append-add, drop-drop, length-take-le}
use Rattle.events.specs.declared.Event.{Event}
use Rattle.offers.specs.Rules.{Rule}
use Rattle.values.specs.declared.Offer.{Offer}
use Rattle.offers.specs.declared.Walk.{Walk}
use Rattle.offers.specs.Walks.{advance, emit, walked, emitted, append}

pub walked-append : (w : Rule) (k : Walk) (a b : List Offer) → walked w k (a ++ b) ≡ walked w (walked w k a) b
unfolding walked
walked-append w k [] b = refl
walked-append w k (o ∷ a) b = walked-append w (advance w k o) a b

pub emitted-append : (w : Rule) (k : Walk) (a b : List Offer) → emitted w k (a ++ b) ≡ emitted w k a ++ emitted w (walked w k a) b
unfolding emitted walked
emitted-append w k [] b = refl
emitted-append w k (o ∷ a) b =
    let then = advance w k o in
    rw (emitted-append w then a b) (sym (append_assoc (emit w k o) (emitted w then a) (emitted w (walked w then a) b)))

-- ---- events behind the first n of a list
pub append-none : (R : List Event) (n : ℕ) → append R n [] ≡ R
unfolding append
append-none R n = let here : n + 0 ≡ n = omega arith in rw here (take-append-drop n R)

pub append-one : (R : List Event) (n : ℕ) (e : Event) → n < length R → set R n e ≡ append R n (e ∷ [])
unfolding append
append-one R n e h = rw add-one (set_split R n e h)

pub length-appended : (R : List Event) (n : ℕ) (a : List Event) → n + length a ≤ length R → length (append R n a) ≡ length R
unfolding append
length-appended R n a h = simp (length-append, length-take-le n R (omega arith), length-drop) (omega arith)

-- what stands up to the end of a, and what is left of R behind it
module _ (R : List Event) (n : ℕ) (a : List Event) (h : n ≤ length R) where
  abbrev upto : List Event
  upto = take n R ++ a

  long-upto : length upto ≡ n + length a
  long-upto = simp (length-append, length-take-le n R h)

  cut-there : append R n a ≡ upto ++ drop (length upto) R
  unfolding append
  cut-there = rw long-upto (sym (append_assoc (take n R) a (drop (n + length a) R)))

  rest-there : (m : ℕ) → drop (length upto + m) (append R n a) ≡ drop (length upto + m) R
  rest-there m = ap (drop (length upto + m)) cut-there ∙ drop-append-add upto (drop (length upto) R) m ∙ drop-drop m (length upto) R

  first-there : take (length upto) (append R n a) ≡ upto
  first-there = ap (take (length upto)) cut-there ∙ take-append_seam upto (drop (length upto) R)

  again : (b : List Event) → append (append R n a) (length upto) b ≡ append R n (a ++ b)
  unfolding append
  again b =
      let end : n + length (a ++ b) ≡ length upto + length b = omega (arith, long-upto, length-append a b) in
      ap₂ (λ x y. x ++ (b ++ y)) first-there (rest-there (length b))
      ∙ append_assoc (take n R) a (b ++ drop (length upto + length b) R)
      ∙ rw (end, append_assoc a b (drop (length upto + length b) R))

pub append-again : (R : List Event) (n : ℕ) (a b : List Event) → n ≤ length R → append (append R n a) (n + length a) b ≡ append R n (a ++ b)
append-again R n a b h = rw (long-upto R n a h) at (again R n a h b)

-- of a run over `all` that began at (R₀, n₀, k₀), `os` is left and (R, n, k) is reached; the list is told of where it has room for all
pub record Adding (w : Rule) (all : List Offer) (R₀ : List Event) (n₀ : ℕ) (k₀ : Walk) (os : List Offer) (R : List Event) (n : ℕ) (k : Walk) : Type 0 where
  pub walks : walked w k os ≡ walked w k₀ all
  pub count : n + length (emitted w k os) ≡ n₀ + length (emitted w k₀ all)
  pub rows : n₀ + length (emitted w k₀ all) ≤ length R₀ → append R n (emitted w k os) ≡ append R₀ n₀ (emitted w k₀ all)
  pub long : n₀ + length (emitted w k₀ all) ≤ length R₀ → length R ≡ length R₀

module _ {w : Rule} {all : List Offer} {R₀ : List Event} {n₀ : ℕ} {k₀ : Walk} where
  pub begun : Adding w all R₀ n₀ k₀ all R₀ n₀ k₀
  begun = record { walks = refl; count = refl; rows = λ h. refl; long = λ h. refl }

  module _ {R : List Event} {n : ℕ} {k : Walk} where
    -- some of what is left is done
    pub further : (a b : List Offer) {R' : List Event} {n' : ℕ} {k' : Walk} → Adding w all R₀ n₀ k₀ (a ++ b) R n k
        → k' ≡ walked w k a → n' ≡ n + length (emitted w k a) → (n + length (emitted w k a) ≤ length R → R' ≡ append R n (emitted w k a))
        → Adding w all R₀ n₀ k₀ b R' n' k'
    further a b {R'} v p q r = rw (p, q) made
      where
        now : List Event
        now = emitted w k a

        then : List Event
        then = emitted w (walked w k a) b

        count : n + length (now ++ then) ≡ n₀ + length (emitted w k₀ all)
        count = rw (emitted-append w k a b) at v.count

        room : n₀ + length (emitted w k₀ all) ≤ length R₀ → n + length now ≤ length R
        room fit = let same = v.long fit in omega (arith, count, length-append now then)

        made : Adding w all R₀ n₀ k₀ b R' (n + length now) (walked w k a)
        made =
            record {
              walks = sym (walked-append w k a b) ∙ v.walks;
              count = omega (arith, count, length-append now then);
              rows =
                  λ fit.
                  let rows : append R n (now ++ then) ≡ append R₀ n₀ (emitted w k₀ all) = rw (emitted-append w k a b) at v.rows fit in
                  rw (r (room fit)) (append-again R n now then (let h = room fit in omega arith) ∙ rows);
              long = λ fit. rw (r (room fit)) (length-appended R n now (room fit) ∙ v.long fit);
            }

    -- some of what is left is no more than all
    pub counts_for : (a b : List Offer) → Adding w all R₀ n₀ k₀ (a ++ b) R n k → n + length (emitted w k a) ≤ n₀ + length (emitted w k₀ all)
    counts_for a b v = omega (arith, rw (emitted-append w k a b) at v.count, length-append (emitted w k a) (emitted w (walked w k a) b))

  pub ended : {R : List Event} {n : ℕ} {k : Walk} → Adding w all R₀ n₀ k₀ [] R n k
      → (k ≡ walked w k₀ all) × (n ≡ n₀ + length (emitted w k₀ all)) × (n₀ + length (emitted w k₀ all) ≤ length R₀ → R ≡ append R₀ n₀ (emitted w k₀ all))
  unfolding walked emitted
  ended {R} {n} {k} v = (v.walks, (let c = v.count in omega arith), λ fit. sym (append-none R n) ∙ v.rows fit)

  -- one offer: nothing is written, or one event at place n
  module _ {R : List Event} {n : ℕ} {k : Walk} (o : Offer) (os : List Offer) (v : Adding w all R₀ n₀ k₀ (o ∷ os) R n k) where
    pub skip : {k' : Walk} → k' ≡ advance w k o → [] ≡ emit w k o → Adding w all R₀ n₀ k₀ os R n k'
    unfolding walked emitted
    skip p e =
        let none : emit w k o ++ [] ≡ [] = rw (← e) refl in
        further (o ∷ []) os v p (rw none (omega arith)) (λ h. rw none (sym (append-none R n)))

    -- one more is counted
    pub counts-one : {e : Event} → e ∷ [] ≡ emit w k o → n < n₀ + length (emitted w k₀ all)
    unfolding emitted
    counts-one {e} q = omega (arith, rw (← q) at v.count)

    pub put : {e : Event} {R' : List Event} {k' : Walk} → k' ≡ advance w k o → e ∷ [] ≡ emit w k o → (n < length R → R' ≡ set R n e) → Adding w all R₀ n₀ k₀ os R' (n + 1) k'
    unfolding walked emitted
    put {e} p q r =
        let one : emit w k o ++ [] ≡ e ∷ [] = rw (← q) refl in
        further (o ∷ []) os v p (rw one (omega arith))
        (rw one (λ h. let room : n < length R = omega arith in r room ∙ append-one R n e room))

-- the event that an offer becomes, as the list of what is emitted
pub one_of : {o : Option Event} {e : Event} {l : List Event} → o ≡ Some e → option_to_list o ≡ l → e ∷ [] ≡ l
one_of q h = rw q at h

pub none_of : {o : Option Event} {l : List Event} → o ≡ None → option_to_list o ≡ l → [] ≡ l
none_of q h = rw q at h
