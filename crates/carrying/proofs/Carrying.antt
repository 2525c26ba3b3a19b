-- What a record's call leaves, on its definition, by the tests on the way: both frequencies or neither, a new budget, and the call
-- of the record's mark.
use mathlib.Core.Path.{◌≡◌, refl, ap, sym, ◌∙◌}
use mathlib.Core.Bool.{Bool, true, false, cond}
use mathlib.Core.List.{List}
use Prim.Native.Nat.{ℕ, suc, ◌-◌, ◌<◌, ◌^◌}
use native.Mathlib.Omega.{arith}
use lib.Dec.{leb}
use lib.IntN.{ℤ, pos, negsuc}
use lib.Signed.{mag}
use mir.Syntax.{w32}
use mir.Val.{of_z}
use borrow.Author.Tests.{eq-eqb, ne_eqb, le-leb, lt-leb}
use Rattle.laws.specs.Integers.{inside}
use Rattle.numbers.specs.Limits.{byte_limit}
use Rattle.numbers.specs.Ranges.{is_bytes}
use Rattle.budget.specs.declared.BudgetAnswer.{BudgetAnswer}
use Rattle.budget.specs.Budgets.{unspent, new_budget}
use Rattle.state.specs.declared.Track.{Track}
use Rattle.state.specs.declared.TrackAnswer.{TrackAnswer}
use Rattle.state.specs.Calls.{set_cc_freq, set_pb_freq}
use Rattle.reel.specs.declared.marks.Mark.{Mark}
use Rattle.reel.specs.declared.records.Record.{Record}
use Rattle.carrying.specs.declared.State.{State}
use Rattle.std.specs.Prelude.{Result, Ok, Err}
use Rattle.carrying.specs.Carry.{carried_to, second, after_first, both_freqs, Left, carried_as, carried}

-- a call's number is tested before the state is touched
pub refuses : (n : ℕ) (s : State) → (n ≡ 0 → ⊥) → Err n ≡ carried_to n s
refuses n s h = rw (ne_eqb n 0 h)

pub goes-on : (n : ℕ) (s : State) → n ≡ 0 → Ok s ≡ carried_to n s
goes-on n s h = rw (eq-eqb n 0 h)

module _ (a : Track) (x y : ℤ) (t : TrackAnswer) (e : t ≡ set_cc_freq a x) where
  opened : after_first a y t ≡ both_freqs a x y
  unfolding both_freqs
  opened = ap (after_first a y) e

  pub first-refused : (t.code ≡ 0 → ⊥) → t ≡ both_freqs a x y
  first-refused n = let g : t ≡ after_first a y t = rw (ne_eqb t.code 0 n) in g ∙ opened

  module _ (z : t.code ≡ 0) (u : TrackAnswer) (f : u ≡ set_pb_freq t.track y) where
    set_first : second a u ≡ both_freqs a x y
    set_first = let g : second a (set_pb_freq t.track y) ≡ after_first a y t = rw (eq-eqb t.code 0 z) in ap (second a) f ∙ g ∙ opened

    pub second-refused : (u.code ≡ 0 → ⊥) → record { code = u.code; track = a } ≡ both_freqs a x y
    second-refused n = let g : record { code = u.code; track = a } ≡ second a u = rw (ne_eqb u.code 0 n) in g ∙ set_first

    pub both-set : u.code ≡ 0 → u ≡ both_freqs a x y
    both-set n = let g : u ≡ second a u = rw (eq-eqb u.code 0 n) in g ∙ set_first

-- MX: the maximum's bits are asked as the maximum is, "0 to 67,108,864", else 4
pub maximum-asked : (z : ℤ) (y : ℕ) → mag z < 2 ^ 31 → (new_budget y (of_z w32 z)).code ≡ cond (inside (pos 0) (pos byte_limit) z) 0 4
unfolding new_budget is_bytes inside
maximum-asked (pos n) y h = rw (le-leb 0 n (omega arith)) (go (leb n byte_limit))
  where
    go : (t : Bool) → (cond {A = BudgetAnswer} t (record { code = 0; budget = unspent y n }) (record { code = 4; budget = unspent 0 0 })).code ≡ cond t 0 4
    go true = refl
    go false = refl
maximum-asked (negsuc n) y h = rw (lt-leb (2 ^ 32 - suc n) byte_limit (omega arith))

-- a record whose mark is m is carried out as m's
pub by-mark : (s : State) (r : Record) (l : List ℤ) (m : Mark) → r.mark ≡ m → {d : Result State ℕ} {x : List ℤ} → d ≡ (carried_as m s r l).done → x ≡ (carried_as m s r l).events
    → (d ≡ (carried s r l).done) × (x ≡ (carried s r l).events)
by-mark s r l m e p q =
    let g = ap (λ (k : Mark). carried_as k s r l) (sym e) in
    (p ∙ ap (λ (t : Left). t.done) g, q ∙ ap (λ (t : Left). t.events) g)
