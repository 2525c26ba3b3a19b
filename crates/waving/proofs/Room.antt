-- The whole of a call over a buffer, told by its passes: what the windows leave and what is added decide the refusal, and where
-- there is room the list is what they leave with what is added behind it.
use mathlib.Core.Path.{◌≡◌, sym, ap, ap₂, ◌∙◌}
use mathlib.Core.Bool.{Bool, true, false, cond}
use mathlib.Core.List.{List, ◌++◌}
use Prim.Native.Nat.{ℕ, ◌+◌, ◌-◌, ◌≤◌, ◌<◌}
use native.Mathlib.Omega.{arith}
use borrow.Author.Tests.{lt-ltb, le-ltb}
use lib.Dec.{ltb}
use lib.ListN.{length, take, length-append}
use lib.Seq.{length-take-le}
use Rattle.laws.specs.Lists.{without, put_first}
use Rattle.laws.proofs.Compact.{length_without}
use Rattle.budget.specs.declared.Budget.{Budget}
use Rattle.events.specs.declared.Event.{Event}
use Rattle.events.specs.Events.{zero_event}
use Rattle.eventlist.specs.Windows.{taken_by_any}
use Rattle.offers.specs.Walks.{append}
use Rattle.writing.specs.declared.Outcome.{Outcome}
use Rattle.writing.specs.Figures.{added_to}
use Rattle.writing.proofs.Calling.{append-put}
use Rattle.waving.specs.Drawings.{Drawing}
use Rattle.waving.specs.Calls.{Stand, drawn_all, answer_of, rows_left, wrote_all, rows_all}
use Rattle.waving.specs.Passes.{passes, without_all}
use Rattle.waving.proofs.Clearing.{at_once}
use Rattle.waving.proofs.Parting.{Lone, parted}

module _ (ds : List Drawing) (lone : Lone ds) (b : Budget) (R : List Event) (count : ℕ) (fit : count ≤ length R) where
  abbrev es : List Event
  es = take count R

  -- what no window takes, and what is added
  abbrev stays : List Event
  stays = without_all (passes ds b).windows es

  abbrev news : List Event
  news = (passes ds b).news

  abbrev stand : Stand
  stand = drawn_all ds (record { budget = b; events = es })

  left_is : stand.events ≡ stays ++ news
  left_is = ap (λ (s : Stand). s.events) (parted ds lone b es)

  left-long : length stand.events ≡ length stays + length news
  left-long = ap length left_is ∙ length-append stays news

  stays-few : length stays ≤ count
  stays-few =
      let a = ap length (at_once (passes ds b).windows es) in
      let n = length_without (taken_by_any (passes ds b).windows) es in
      let t = length-take-le count R fit in
      omega arith

  -- what is not taken stays
  pub kept-is : (taken : ℕ) → taken ≡ count - length (without (taken_by_any (passes ds b).windows) es) → count - taken ≡ length stays
  kept-is taken e = let a = ap length (at_once (passes ds b).windows es) in let f = stays-few in omega arith

  module _ (kept : ℕ) (e : kept ≡ length stays) where
    pub kept-fits : kept ≤ length R
    kept-fits = let f = stays-few in omega arith

    module _ (added : ℕ) (q : added ≡ length news) where
      pub refused : length R - kept < added → (record { code = 7; count = count; budget = b } ≡ wrote_all ds b R count) × (R ≡ rows_all ds b R count)
      refused h =
          let f = kept-fits in
          let l = left-long in
          let t : ltb (length R) (length stand.events) ≡ true = lt-ltb (length R) (length stand.events) (omega arith) in (
            sym (ap (λ (x : Bool). answer_of (cond x 7 0) count b stand) t),
            sym (ap (λ (x : Bool). rows_left (cond x 7 0) count stand R) t),
          )

      module _ (h : added ≤ length R - kept) where
        pub room : length stays + length news ≤ length R
        room = let f = kept-fits in omega arith

        pub accepted : {n : ℕ} {R₁ R₂ : List Event} {o : Outcome} → n ≡ length stays → R₁ ≡ put_first zero_event count stays R → o ≡ added_to n news (passes ds b).budget
            → R₂ ≡ append R₁ n news → (o ≡ wrote_all ds b R count) × (R₂ ≡ rows_all ds b R count)
        accepted {n} {R₁} p r u v =
            let l = left-long in
            let k = room in
            let t : ltb (length R) (length stand.events) ≡ false = le-ltb (length R) (length stand.events) (omega arith) in
            let c : n + length news ≡ length stand.events = omega arith in (
              u
                  ∙ ap₂ (λ (m : ℕ) (x : Budget). record { code = 0; count = m; budget = x }) c (sym (ap (λ (s : Stand). s.budget) (parted ds lone b es)))
                  ∙ sym (ap (λ (x : Bool). answer_of (cond x 7 0) count b stand) t),
              v ∙ ap₂ (λ (x : List Event) (m : ℕ). append x m news) r p
                  ∙ append-put zero_event count stays news R
                  ∙ ap (λ (x : List Event). put_first zero_event count x R) (sym left_is)
                  ∙ sym (ap (λ (x : Bool). rows_left (cond x 7 0) count stand R) t),
            )
