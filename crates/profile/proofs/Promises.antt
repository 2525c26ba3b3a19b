-- What a customer leans on in the profile, of the events of a list.
--     on_one, one_on            what one channel means: every event that counts is on it; and back, on any
--     apart, lone               what no twins means: no two places hold twins; and back
--     fitted-passes             what is fitted passes, of one channel and from 0 on
--     passes-stays, fitted-twice    a list that passes is left as it is; so is what was fitted, of every list
--     free-kinds, other-kinds, bends-kept   what holds of no controller: of the sorted list what is accepted, in its order; so every other kind, and the bends in range
--     Passing, passing, passes-by   the rule by its parts, there and back
--     twins-fitted, last-kept   of a controller's events at one time the last of the list handed in, and no other
--     nothing-added, few-fitted, in-sorted-order   of whatever is asked no more than before, and in all; and each front of the sorted list stands before what is behind it
use mathlib.Core.Bool.{Bool, true, false, cond, not, ◌&&◌, ◌||◌, true≢false}
use mathlib.Core.Path.{◌≡◌, refl, sym, ap, ◌∙◌, subst, fun_ext}
use mathlib.Core.List.{List, [], ◌∷◌, ◌++◌}
use mathlib.Core.Logic.{◌⊎◌, inl, inr, ⊎_elim}
use Prim.Native.Nat.{ℕ, zero, suc, ◌≤◌, ◌<◌}
use native.Mathlib.Omega.{arith}
use borrow.Author.Tests.{not-true, not-false}
use lib.IntN.{ℤ}
use lib.ListN.{length, get_or}
use lib.Signed.{lt_z}
use Rattle.laws.specs.Integers.{eq_z}
use Rattle.laws.specs.Lists.{all, any, unless, only, thinned}
use Rattle.laws.proofs.Bits.{eq_z-true}
use Rattle.laws.proofs.Compact.{length_without}
use Rattle.laws.proofs.Doubles.{any_none, none_any, thinned-parts, free-left, closed-left, last-left}
use Rattle.laws.proofs.Every.{all-places, all-imply}
use Rattle.laws.proofs.Only.{all-only, only-all, only-both, only-narrower, few-only}
use Rattle.laws.proofs.Order.{lt_z-irrefl}
use Rattle.laws.proofs.Parts.{all_without, without-append, without_all_lem}
use Rattle.laws.proofs.Ranges.{left, right}
use Rattle.laws.proofs.Tests.{all-at}
use Rattle.laws.proofs.Thinned.{all-thinned, few-thinned, thinned_to, thinned-few, thinned-whole}
use Rattle.numbers.specs.Ranges.{is_bend}
use Rattle.events.specs.declared.Event.{Event}
use Rattle.events.specs.Events.{zero_event}
use Rattle.events.specs.Kinds.{control_change, pitch_bend, has_data}
use Rattle.sorting.specs.Stable.{stable_sort, Sorted, rising}
use Rattle.sorting.specs.Sorting.{earlier}
use Rattle.sorting.proofs.Earlier.{earlier-trans}
use Rattle.sorting.proofs.Placing.{kept-sort, length-among}
use Rattle.sorting.proofs.Promises.{never-falls, stays, as_many}
use Rattle.sorting.proofs.Rising.{sorted-rising, rising-sorted}
use Rattle.sorting.proofs.Sound.{all-sort}
use Rattle.sorting.proofs.Thinning.{sorted-thinned}
use Rattle.profile.specs.Profile.{accepts, is_on, from_zero, twins, channel_of, one_channel, no_twins, passes, last_ones, fitted}
use Rattle.profile.specs.Steps.{dropped}
use Rattle.profile.proofs.Thinning.{thin_is}
use Rattle.profile.proofs.Twins.{told, twins-by, twins-swap, twins-follow, twin-accepted}

-- an event that has a twin behind it
abbrev doubled : Event → List Event → Bool
doubled e behind = any (twins e) behind

-- ---- one channel
pub on_one : (es : List Event) → one_channel es ≡ true → all (is_on (channel_of es)) es ≡ true
unfolding one_channel
on_one es h = h

-- none counts, or the first that does is on j
first_on : (j : ℤ) (es : List Event) → all (is_on j) es ≡ true → (all (λ e. has_data e.kind) es ≡ true) ⊎ (channel_of es ≡ j)
unfolding all channel_of
first_on j [] h = inl refl
first_on j (e ∷ es) h = go (has_data e.kind) (left (is_on j e) (all (is_on j) es) h) (first_on j es (right (is_on j e) (all (is_on j) es) h))
  where
    go : (b : Bool) → (b || eq_z e.channel j) ≡ true → (all (λ x. has_data x.kind) es ≡ true) ⊎ (channel_of es ≡ j)
        → ((b && all (λ x. has_data x.kind) es) ≡ true) ⊎ (cond b (channel_of es) e.channel ≡ j)
    go true q ih = ih
    go false q ih = inr (eq_z-true e.channel j q)

pub one_on : (es : List Event) (j : ℤ) → all (is_on j) es ≡ true → one_channel es ≡ true
unfolding one_channel
one_on es j h =
    ⊎_elim (λ q. all-imply (λ (e : Event). has_data e.kind) (is_on (channel_of es)) (λ e k. rw k) es q) (λ q. rw q h) (first_on j es h)

-- ---- no twins
pub apart : (es : List Event) → no_twins es ≡ true → (i j : ℕ) → i < j → j < length es → twins (get_or es i zero_event) (get_or es j zero_event) ≡ false
unfolding no_twins
apart [] h i j k m = absurd (omega arith)
apart (e ∷ es) h i zero k m = absurd (omega arith)
apart (e ∷ es) h zero (suc j) k m =
    let here = not-true (any (twins e) es) (left (not (any (twins e) es)) (no_twins es) h) in
    not-true (twins e (get_or es j zero_event)) (all-at (λ x. not (twins e x)) es j zero_event (omega arith) (any_none (twins e) es here))
apart (e ∷ es) h (suc i) (suc j) k m = apart es (right (not (any (twins e) es)) (no_twins es) h) i j (omega arith) (omega arith)

pub lone : (es : List Event) → ((i j : ℕ) → i < j → j < length es → twins (get_or es i zero_event) (get_or es j zero_event) ≡ false) → no_twins es ≡ true
unfolding no_twins
lone [] h = refl
lone (e ∷ es) h =
    let here : any (twins e) es ≡ false =
    none_any (twins e) es (all-places (λ x. not (twins e x)) es zero_event (λ j m. ap not (h 0 (suc j) (omega arith) (omega arith)))) in
    rw here (lone es (λ i j k m. h (suc i) (suc j) (omega arith) (omega arith)))

-- the last ones have no twins
last-lone : (es : List Event) → no_twins (last_ones es) ≡ true
unfolding no_twins
last-lone [] = refl
last-lone (e ∷ es) = go (any (twins e) es) refl (last-lone es)
  where
    go : (t : Bool) → any (twins e) es ≡ t → no_twins (last_ones es) ≡ true → no_twins (unless t e (last_ones es)) ≡ true
    go true q ih = ih
    go false q ih = rw (none_any (twins e) (last_ones es) (all-thinned doubled (λ x. not (twins e x)) es (any_none (twins e) es q))) ih

lone-last : (es : List Event) → no_twins es ≡ true → last_ones es ≡ es
unfolding no_twins
lone-last [] h = refl
lone-last (e ∷ es) h =
    rw (not-true (any (twins e) es) (left (not (any (twins e) es)) (no_twins es) h)) (ap (λ (l : List Event). e ∷ l) (lone-last es (right (not (any (twins e) es)) (no_twins es) h)))

-- ---- what is fitted
module _ (es : List Event) where
  abbrev sorted : List Event
  sorted = stable_sort earlier es

  pub all-fitted : (p : Event → Bool) → all p es ≡ true → all p (fitted es) ≡ true
  all-fitted p h = all-thinned doubled p (only accepts sorted) (all_without p (λ e. not (accepts e)) sorted (all-sort earlier p es h))

  pub fitted-accepted : all accepts (fitted es) ≡ true
  fitted-accepted = all-thinned doubled accepts (only accepts sorted) (all-only accepts sorted)

  pub fitted-lone : no_twins (fitted es) ≡ true
  fitted-lone = last-lone (only accepts sorted)

  pub fitted-sorted : Sorted earlier (fitted es)
  fitted-sorted = subst (Sorted earlier) (thin_is sorted) (sorted-thinned earlier dropped sorted (never-falls es))

  pub fitted-passes : one_channel es ≡ true → all from_zero es ≡ true → passes (fitted es) ≡ true
  unfolding passes
  fitted-passes h k =
      rw (fitted-accepted, one_on (fitted es) (channel_of es) (all-fitted (is_on (channel_of es)) (on_one es h)), fitted-lone, all-fitted from_zero k) (rising-sorted earlier (fitted es) fitted-sorted)

-- ---- what stays
-- sorted, accepted and no twins: that is enough
settled : (es : List Event) → Sorted earlier es → all accepts es ≡ true → no_twins es ≡ true → fitted es ≡ es
settled es s a n = ap (λ (l : List Event). last_ones (only accepts l)) (stays es s) ∙ ap last_ones (only-all accepts es a) ∙ lone-last es n

pub fitted-twice : (es : List Event) → fitted (fitted es) ≡ fitted es
fitted-twice es = settled (fitted es) (fitted-sorted es) (fitted-accepted es) (fitted-lone es)

pub record Passing (es : List Event) : Type 0 where
  pub accepted : all accepts es ≡ true
  pub single : one_channel es ≡ true
  pub lone : no_twins es ≡ true
  pub timely : all from_zero es ≡ true
  pub rises : rising earlier es ≡ true

pub passing : (es : List Event) → passes es ≡ true → Passing es
unfolding passes
passing es h =
    let a = all accepts es in
    let b = a && one_channel es in
    let c = b && no_twins es in
    let d = c && all from_zero es in
    let four = left d (rising earlier es) h in
    let three = left c (all from_zero es) four in
    let two = left b (no_twins es) three in
    record {
      accepted = left a (one_channel es) two;
      single = right a (one_channel es) two;
      lone = right b (no_twins es) three;
      timely = right c (all from_zero es) four;
      rises = right d (rising earlier es) h;
    }

pub passes-by : (es : List Event) → Passing es → passes es ≡ true
unfolding passes
passes-by es p = rw (p.accepted, p.single, p.lone, p.timely, p.rises)

pub passes-stays : (es : List Event) → passes es ≡ true → fitted es ≡ es
passes-stays es h = let p = passing es h in settled es (sorted-rising earlier earlier-trans es p.rises) p.accepted p.lone

-- ---- kinds
no-twin : (e x : Event) → eq_z e.kind control_change ≡ false → twins e x ≡ false
unfolding twins
no-twin e x h = rw h

pub free-kinds : (p : Event → Bool) → ((e : Event) → p e ≡ true → eq_z e.kind control_change ≡ false) → (es : List Event)
    → only p (fitted es) ≡ only p (only accepts (stable_sort earlier es))
free-kinds p free es = free-left twins p (λ e x h. no-twin e x (free e h)) (only accepts (stable_sort earlier es))

-- neither a controller nor a bend
abbrev pub is_other : Event → Bool
is_other e = not (eq_z e.kind control_change) && not (eq_z e.kind pitch_bend)

other-accepted : (e : Event) → is_other e ≡ true → accepts e ≡ true
unfolding accepts
other-accepted e h =
    let c = not (eq_z e.kind control_change) in
    let b = not (eq_z e.kind pitch_bend) in
    rw (not-true (eq_z e.kind control_change) (left c b h), not-true (eq_z e.kind pitch_bend) (right c b h))

bend-accepted : (e : Event) → eq_z e.kind pitch_bend ≡ true → accepts e ≡ is_bend e.v1
unfolding accepts
bend-accepted e h = rw (eq_z-true e.kind pitch_bend h)

pub other-kinds : (es : List Event) → only is_other (fitted es) ≡ only is_other (stable_sort earlier es)
other-kinds es =
    free-kinds is_other (λ e h. not-true (eq_z e.kind control_change) (left (not (eq_z e.kind control_change)) (not (eq_z e.kind pitch_bend)) h)) es
    ∙ only-narrower accepts is_other other-accepted (stable_sort earlier es)

pub bends-kept : (es : List Event) → only (λ e. eq_z e.kind pitch_bend) (fitted es) ≡ only (λ e. eq_z e.kind pitch_bend && is_bend e.v1) (stable_sort earlier es)
bends-kept es =
    free-kinds (λ e. eq_z e.kind pitch_bend) (λ e h. rw (eq_z-true e.kind pitch_bend h)) es
    ∙ only-both accepts (λ e. eq_z e.kind pitch_bend) (stable_sort earlier es)
    ∙ ap (λ (p : Event → Bool). only p (stable_sort earlier es)) (fun_ext (λ e. bend e (eq_z e.kind pitch_bend) refl))
  where
    bend : (e : Event) (b : Bool) → eq_z e.kind pitch_bend ≡ b → (b && accepts e) ≡ (b && is_bend e.v1)
    bend e true h = bend-accepted e h
    bend e false h = refl

-- ---- twins
-- a controller's event is its own twin, and goes past none of its twins in a sort
pub twins-itself : (e : Event) → eq_z e.kind control_change ≡ true → twins e e ≡ true
twins-itself e h = twins-by e e (record { first = h; second = h; number = refl; time = refl })

twins-in-order : (e : Event) (es : List Event) → only (twins e) (stable_sort earlier es) ≡ only (twins e) es
twins-in-order e = kept-sort earlier (λ x. not (twins e x)) passed
  where
    passed : (a b : Event) → not (twins e a) ≡ false → earlier b a ≡ true → not (twins e b) ≡ true
    passed a b h k = go (twins e b) refl
      where
        go : (t : Bool) → twins e b ≡ t → not t ≡ true
        go true q =
            let same : a.time ≡ b.time = sym (told e a (not-false (twins e a) h)).time ∙ (told e b q).time in
            absurd (true≢false (sym k ∙ ap (λ (u : ℤ). lt_z b.time u) same ∙ lt_z-irrefl b.time))
        go false q = refl

-- of those of the list handed in, in its order, the last
pub twins-fitted : (e : Event) → accepts e ≡ true → (es : List Event) → only (twins e) (fitted es) ≡ last_ones (only (twins e) es)
twins-fitted e h es =
    closed-left twins (twins e) (λ x y. twins-follow e x y) (only accepts (stable_sort earlier es))
    ∙ ap last_ones (only-narrower accepts (twins e) (λ x. twin-accepted e x h) (stable_sort earlier es) ∙ twins-in-order e es)

pub last-kept : (front behind : List Event) (e : Event) → accepts e ≡ true → eq_z e.kind control_change ≡ true → any (twins e) behind ≡ false
    → only (twins e) (fitted (front ++ (e ∷ behind))) ≡ e ∷ []
last-kept front behind e h k n =
    twins-fitted e h (front ++ (e ∷ behind))
    ∙ ap last_ones
    (without-append (λ x. not (twins e x)) front (e ∷ behind)
    ∙ ap (λ (l : List Event). only (twins e) front ++ l) (rw (twins-itself e k, without_all_lem (λ x. not (twins e x)) behind (any_none (twins e) behind n))))
    ∙ last-left twins (only (twins e) front) e (all-imply (twins e) (λ x. twins x e) (λ x. twins-swap e x) (only (twins e) front) (all-only (twins e) front))

-- ---- nothing is added, and nothing changes places after the sort
pub nothing-added : (p : Event → Bool) (es : List Event) → length (only p (fitted es)) ≤ length (only p es)
nothing-added p es =
    let thin = few-thinned doubled (λ e. not (p e)) (only accepts (stable_sort earlier es)) in
    let few = few-only accepts p (stable_sort earlier es) in
    let many = as_many (λ e. not (p e)) es in
    omega arith

pub few-fitted : (es : List Event) → length (fitted es) ≤ length es
few-fitted es =
    let kept = only accepts (stable_sort earlier es) in
    let thin = thinned-few doubled (length kept) kept in
    let whole : length (thinned_to doubled (length kept) kept) ≡ length (fitted es) = ap length (thinned-whole doubled (length kept) kept (omega arith)) in
    omega (arith, length_without (λ e. not (accepts e)) (stable_sort earlier es), length-among earlier es [])

pub in-sorted-order : (es a b : List Event) → stable_sort earlier es ≡ a ++ b → fitted es ≡ thinned (λ e behind. dropped e (behind ++ b)) a ++ thinned dropped b
in-sorted-order es a b h = sym (thin_is (stable_sort earlier es)) ∙ ap (thinned dropped) h ∙ thinned-parts dropped a b
