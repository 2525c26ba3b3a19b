-- 02, k), of the call with table, budget and list lent, by its contract: accepted, it answers and leaves what the Rust's two loops do, the
-- count of 10,000 for each record with them (`lent-request-k`); and so does any series of accepted calls (`lent-request-k-series`). The linked
-- library's call is among them (`linked-contract`). The turns k of a record's loop are any number from 10,000 on.
use mathlib.Core.Path.{◌≡◌, refl, sym, ap, ◌∙◌}
use mathlib.Core.List.{List, [], ◌∷◌}
use Prim.Native.Nat.{ℕ, ◌≤◌}
use lib.ListN.{length}
use Rattle.numbers.specs.Limits.{cycle_writes}
use Rattle.state.specs.declared.Track.{Track}
use Rattle.cycling.specs.declared.Cycled.{Cycled}
use Rattle.cycling.specs.Series.{Lent}
use Rattle.cycling.proofs.Loop.{request-k}
use Rattle.lending.specs.declared.Answer.{Answer}
use Rattle.lending.specs.Passing.{ran}
use Rattle.lending.specs.Writing.{answer_of}
use Rattle.series.specs.Calls.{Call, Contract, Series, last, untils, Each, Accepted}
use Rattle.series.specs.Loop.{rust_answer_to, rust_to, rust_after}

module _ (k : ℕ) (turns : cycle_writes ≤ k) (a : Track) where
  pub lent-request-k : (s : Lent) (c : Call) → Contract a s c → c.answer.code ≡ 0
      → (c.answer ≡ answer_of (rust_answer_to k a c.until s)) × (c.hands ≡ rust_to k a c.until s)
  lent-request-k s c p e =
      let r = request-k k turns a s.cycles c.until s.budget s.list s.count (length s.cycles) (sym (ap (λ (x : Answer). x.code) p.answer) ∙ e) in
      let told = p.answer ∙ ap answer_of r.0 in (
        told,
        rw (p.cycles ∙ ap (λ (x : Cycled). x.cycles) r.0, p.budget ∙ ap (λ (x : Cycled). x.budget) r.0, p.list ∙ r.1, p.count ∙ ap (λ (x : Answer). x.count) told),
      )

  pub lent-request-k-series : (cs : List Call) (s : Lent) → Series a cs s → Accepted cs → last cs s ≡ rust_after k a (untils cs) s
  unfolding Series Each last ran
  lent-request-k-series [] s p ok = refl
  lent-request-k-series (c ∷ cs) s p ok =
      lent-request-k-series cs c.hands p.1 ok.1 ∙ ap (rust_after k a (untils cs)) (lent-request-k s c p.0 ok.0).1
