-- The answers of the cuts, read off their tests in their order, and what the folded events brought to the front leave.
use mathlib.Core.Path.{◌≡◌, refl}
use mathlib.Core.Bool.{Bool, true, false, cond}
use mathlib.Core.List.{List, ◌++◌}
use Prim.Native.Nat.{ℕ, ◌-◌, max}
use native.Mathlib.Omega.{arith}
use lib.IntN.{ℤ}
use lib.ListN.{length, take, drop, replicate, length-append}
use lib.Seq.{take-append_seam, drop-append_seam}
use Rattle.laws.specs.Lists.{all, put_first}
use Rattle.numbers.specs.Ranges.{is_time}
use Rattle.events.specs.declared.Event.{Event}
use Rattle.events.specs.Events.{zero_event}
use Rattle.eventlist.specs.Rows.{events_of}
use Rattle.eventlist.specs.Sound.{is_list}
use Rattle.cutting.specs.declared.Cut.{Cut}
use Rattle.cutting.specs.Cuts.{in_order, folded, kept_of, cut_of, fits_cut, cut_refusal}
use Rattle.cutting.specs.Passes.{parts_of, turned}

module _ (store : ℕ) (l : List ℤ) (count : ℕ) (c : Cut) where
  pub no-list : is_list l count ≡ false → cut_refusal store l count c ≡ 1
  unfolding cut_refusal
  no-list e = rw e

  module _ (list : is_list l count ≡ true) where
    pub no-time : is_time c.at ≡ false → cut_refusal store l count c ≡ 4
    unfolding cut_refusal
    no-time e = rw (list, e)

    module _ (time : is_time c.at ≡ true) where
      pub no-events : all (fits_cut store c) (events_of l count) ≡ false → cut_refusal store l count c ≡ 4
      unfolding cut_refusal
      no-events e = rw (list, time, e)

      pub well : all (fits_cut store c) (events_of l count) ≡ true → cut_refusal store l count c ≡ 0
      unfolding cut_refusal
      well e = rw (list, time, e)

-- two lists that stand first change places
swapped : (count : ℕ) (k f all : List Event)
    → turned (record { kept = length k; count = length (k ++ f) }) (put_first zero_event count (k ++ f) all) ≡ put_first zero_event count (f ++ k) all
swapped count k f all =
    let a = length-append k f in
    let b = length-append f k in
    let same : length (f ++ k) ≡ length (k ++ f) = omega arith in
    let rest = replicate (count - length (k ++ f)) zero_event ++ drop (max count (length (k ++ f))) all in
    let t : take (length (k ++ f)) ((k ++ f) ++ rest) ≡ k ++ f = take-append_seam (k ++ f) rest in
    let d : drop (length (k ++ f)) ((k ++ f) ++ rest) ≡ rest = drop-append_seam (k ++ f) rest in
    let e : drop (length k) (k ++ f) ≡ f = drop-append_seam k f in
    let h : take (length k) (k ++ f) ≡ k = take-append_seam k f in
    rw (same, t, d, e, h)

pub arranged : (c : Cut) (es : List Event) (count : ℕ) (all : List Event)
    → cond c.full (turned (parts_of c es) (put_first zero_event count (kept_of c es ++ folded c (in_order c es)) all)) (put_first zero_event count (kept_of c es ++ folded c (in_order c es)) all)
    ≡ put_first zero_event count (cut_of c es) all
unfolding cut_of
arranged c es count all = go c.full
  where
    go : (t : Bool) → cond t (turned (parts_of c es) (put_first zero_event count (kept_of c es ++ folded c (in_order c es)) all)) (put_first zero_event count (kept_of c es ++ folded c (in_order c es)) all)
        ≡ put_first zero_event count (cond t (folded c (in_order c es) ++ kept_of c es) (kept_of c es ++ folded c (in_order c es))) all
    go true = swapped count (kept_of c es) (folded c (in_order c es)) all
    go false = refl

pub same_count : (c : Cut) (es : List Event) → length (kept_of c es ++ folded c (in_order c es)) ≡ length (cut_of c es)
unfolding cut_of
same_count c es = go c.full
  where
    go : (t : Bool) → length (kept_of c es ++ folded c (in_order c es)) ≡ length (cond t (folded c (in_order c es) ++ kept_of c es) (kept_of c es ++ folded c (in_order c es)))
    go true = let a = length-append (kept_of c es) (folded c (in_order c es)) in let b = length-append (folded c (in_order c es)) (kept_of c es) in omega arith
    go false = refl
