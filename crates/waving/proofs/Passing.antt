-- A run over the drawings, told by what is left: what comes of the rest, from here, is what comes of all, from the beginning.
--     goes, stops     one more is written, or nothing more is
--     pass-used       the bytes used rise by 8 for each event that is added
--     Passing         what each loop keeps
use mathlib.Core.Path.{◌≡◌, refl, sym, ap, ap₂, ◌∙◌}
use mathlib.Core.Bool.{Bool, true, false, cond, ◌&&◌}
use mathlib.Core.List.{List, [], ◌∷◌, ◌++◌, append_assoc}
use Prim.Native.Nat.{ℕ, suc, ◌+◌, ◌*◌, ◌≤◌, ◌<◌}
use native.Mathlib.Numerals.{add-one}
use native.Mathlib.Omega.{arith}
use borrow.Author.Tests.{ltb-true, ltb-false}
use lib.Dec.{eqb, ltb}
use lib.ListN.{length, take, drop, set, length-append, drop_of_length-le}
use lib.Seq.{take-suc-set}
use Rattle.laws.proofs.Ranges.{left, right}
use Rattle.budget.specs.declared.Budget.{Budget}
use Rattle.budget.specs.Budgets.{step_budget}
use Rattle.events.specs.declared.Event.{Event}
use Rattle.eventlist.specs.declared.Window.{Window}
use Rattle.values.specs.declared.Write.{Write}
use Rattle.offers.specs.declared.Piece.{Piece}
use Rattle.offers.specs.Rules.{flagged, spent}
use Rattle.offers.specs.Runs.{budget_after}
use Rattle.offers.specs.Walks.{append}
use Rattle.offers.specs.Pieces.{offers, total}
use Rattle.offers.proofs.Adding.{append-none, append-again, length-appended}
use Rattle.writing.specs.Calls.{window_of, new_events_for}
use Rattle.writing.specs.Figures.{budget_for}
use Rattle.writing.proofs.Promises.{bytes}
use Rattle.waving.specs.declared.Draft.{Draft}
use Rattle.waving.specs.Drawings.{Drawing}
use Rattle.waving.specs.Calls.{leaves}
use Rattle.waving.specs.Passes.{Passes, no_pass, pass_first, passes, window_at, news_of, Drafts, events_in, budget_of}

-- ---- one drawing
pub leaves-used : (d : Drawing) (b : Budget) → (leaves d b).used ≡ b.used + 8 * length (news_of d b)
unfolding leaves
leaves-used d b = bytes d.write b (offers d.write.freq (d.pieces b) (step_budget b) 0) (total (d.pieces b))

pub leaves-maximum : (d : Drawing) (b : Budget) → (leaves d b).maximum ≡ b.maximum
unfolding leaves budget_after spent
leaves-maximum d b = refl

-- ---- all
pub pass-first : (d : Drawing) (ds : List Drawing) (b : Budget) → eqb b.over 0 ≡ true → passes (d ∷ ds) b ≡ pass_first d b (passes ds (leaves d b))
unfolding passes
pass-first d ds b e = ap (λ (t : Bool). cond t (pass_first d b (passes ds (leaves d b))) (no_pass b)) e

pass-none : (d : Drawing) (ds : List Drawing) (b : Budget) → eqb b.over 0 ≡ false → passes (d ∷ ds) b ≡ no_pass b
unfolding passes
pass-none d ds b e = ap (λ (t : Bool). cond t (pass_first d b (passes ds (leaves d b))) (no_pass b)) e

pub pass-used : (ds : List Drawing) (b : Budget) → (passes ds b).budget.used ≡ b.used + 8 * length (passes ds b).news
unfolding passes
pass-used [] b = omega arith
pass-used (d ∷ ds) b = go (eqb b.over 0) (pass-used ds (leaves d b))
  where
    go : (t : Bool) → (passes ds (leaves d b)).budget.used ≡ (leaves d b).used + 8 * length (passes ds (leaves d b)).news
        → (cond t (pass_first d b (passes ds (leaves d b))) (no_pass b)).budget.used ≡ b.used + 8 * length (cond t (pass_first d b (passes ds (leaves d b))) (no_pass b)).news
    go true ih = let u = leaves-used d b in let l = length-append (news_of d b) (passes ds (leaves d b)).news in omega arith
    go false ih = omega arith

-- nothing more is written
module _ (ds : List Drawing) (i m : ℕ) (b : Budget) (long : length ds ≡ m) where
  pub stops : (ltb i m && eqb b.over 0) ≡ false → passes (drop i ds) b ≡ no_pass b
  unfolding passes
  stops e = go (ltb i m) refl e
    where
      halt : (l : List Drawing) → eqb b.over 0 ≡ false → passes l b ≡ no_pass b
      halt [] q = refl
      halt (d ∷ l) q = pass-none d l b q

      go : (t : Bool) → ltb i m ≡ t → (t && eqb b.over 0) ≡ false → passes (drop i ds) b ≡ no_pass b
      go true p q = halt (drop i ds) q
      go false p q = let h = ltb-false i m p in ap (λ (l : List Drawing). passes l b) (drop_of_length-le ds {i = i} (omega arith))

  -- one more is
  pub goes : (d : Drawing) → drop i ds ≡ d ∷ drop (i + 1) ds → (ltb i m && eqb b.over 0) ≡ true → passes (drop i ds) b ≡ pass_first d b (passes (drop (i + 1) ds) (leaves d b))
  goes d next e = ap (λ (l : List Drawing). passes l b) next ∙ pass-first d (drop (i + 1) ds) b (right (ltb i m) (eqb b.over 0) e)

-- ---- a draft does what its drawing does
module _ (r : Draft) (d : Drawing) (b : Budget) (h : Drafts r d b) where
  pub drafts-news : events_in r b ≡ news_of d b
  drafts-news = ap₂ (λ (w : Write) (ts : List Piece). new_events_for w b ts) h.write h.pieces

  pub drafts-budget : budget_of r b ≡ leaves d b
  unfolding leaves
  drafts-budget = ap₂ flagged (ap₂ (λ (w : Write) (ts : List Piece). budget_for w b ts) h.write h.pieces) h.cut

  pub drafts-window : window_of r.write r.figure.long ≡ window_at d b
  drafts-window = ap₂ window_of h.write (h.able.shaped.long ∙ ap total h.pieces)

-- ---- what each loop keeps: i are done, and b is the budget
pub record Passing (ds : List Drawing) (b₀ : Budget) (i : ℕ) (b : Budget) : Type 0 where
  pub within : i ≤ length ds
  pub budget : (passes (drop i ds) b).budget ≡ (passes ds b₀).budget
  pub most : b.maximum ≡ b₀.maximum

module _ (ds : List Drawing) (b₀ : Budget) where
  pub begun : Passing ds b₀ 0 b₀
  begun = record { within = omega arith; budget = refl; most = refl }

  module _ (i m : ℕ) (b : Budget) (long : length ds ≡ m) (v : Passing ds b₀ i b) where
    pub ended : (ltb i m && eqb b.over 0) ≡ false → b ≡ (passes ds b₀).budget
    ended e = sym (ap (λ (p : Passes). p.budget) (stops ds i m b long e)) ∙ v.budget

    module _ (d : Drawing) (next : drop i ds ≡ d ∷ drop (i + 1) ds) (e : (ltb i m && eqb b.over 0) ≡ true) where
      inside : i < m
      inside = ltb-true i m (left (ltb i m) (eqb b.over 0) e)

      pub further : {b' : Budget} → b' ≡ leaves d b → Passing ds b₀ (i + 1) b'
      further q =
          let k = inside in
          rw q
          (record {
            within = omega arith;
            budget = sym (ap (λ (p : Passes). p.budget) (goes ds i m b long d next e)) ∙ v.budget;
            most = leaves-maximum d b ∙ v.most;
          })

      -- the windows, laid down one after the other
      pub window-further : (ws : List Window) {w : Window} {b' : Budget} → i < length ws → w ≡ window_at d b → b' ≡ leaves d b
          → take i ws ++ (passes (drop i ds) b).windows ≡ (passes ds b₀).windows → take (i + 1) (set ws i w) ++ (passes (drop (i + 1) ds) b').windows ≡ (passes ds b₀).windows
      window-further ws {w} {b'} k p q u =
          let rest = (passes (drop (i + 1) ds) (leaves d b)).windows in
          rw (p, q, add-one, take-suc-set ws i (window_at d b) k)
          (append_assoc (take i ws) (window_at d b ∷ []) (passes (drop (suc i) ds) (leaves d b)).windows
          ∙ ap (λ (n : ℕ). take i ws ++ (window_at d b ∷ (passes (drop n ds) (leaves d b)).windows)) (sym (add-one i))
          ∙ sym (ap (λ (x : Passes). take i ws ++ x.windows) (goes ds i m b long d next e)) ∙ u)

-- ---- and, where the events are added to R, of which the first n are events
pub record Putting (ds : List Drawing) (b₀ : Budget) (R₀ : List Event) (n₀ i : ℕ) (b : Budget) (R : List Event) (n : ℕ) : Type 0 where
  pub pass : Passing ds b₀ i b
  pub count : n + length (passes (drop i ds) b).news ≡ n₀ + length (passes ds b₀).news
  pub rows : append R n (passes (drop i ds) b).news ≡ append R₀ n₀ (passes ds b₀).news
  pub long : length R ≡ length R₀

module _ (ds : List Drawing) (b₀ : Budget) (R₀ : List Event) (n₀ : ℕ) where
  pub put-begun : Putting ds b₀ R₀ n₀ 0 b₀ R₀ n₀
  put-begun = record { pass = begun ds b₀; count = refl; rows = refl; long = refl }

  module _ (fit : n₀ + length (passes ds b₀).news ≤ length R₀) (i m : ℕ) (b : Budget) (R : List Event) (n : ℕ) (long : length ds ≡ m) (v : Putting ds b₀ R₀ n₀ i b R n) where
    pub put_ended : (ltb i m && eqb b.over 0) ≡ false → (n ≡ n₀ + length (passes ds b₀).news) × (R ≡ append R₀ n₀ (passes ds b₀).news)
    put_ended e =
        let s = ap (λ (p : Passes). p.news) (stops ds i m b long e) in
        let l = ap length s in
        let c = v.count in
        (omega arith, sym (append-none R n) ∙ sym (ap (append R n) s) ∙ v.rows)

    module _ (d : Drawing) (next : drop i ds ≡ d ∷ drop (i + 1) ds) (e : (ltb i m && eqb b.over 0) ≡ true) where
      rest : List Event
      rest = (passes (drop (i + 1) ds) (leaves d b)).news

      split : (passes (drop i ds) b).news ≡ news_of d b ++ rest
      unfolding rest
      split = ap (λ (p : Passes). p.news) (goes ds i m b long d next e)

      counted : n + (length (news_of d b) + length rest) ≡ n₀ + length (passes ds b₀).news
      counted = ap (λ (k : ℕ). n + k) (sym (length-append (news_of d b) rest) ∙ sym (ap length split)) ∙ v.count

      pub put-room : n + length (news_of d b) ≤ length R
      put-room = let c = counted in let g = v.long in omega arith

      pub put-further : {b' : Budget} {R' : List Event} {n' : ℕ} → b' ≡ leaves d b → n' ≡ n + length (news_of d b) → R' ≡ append R n (news_of d b) → Putting ds b₀ R₀ n₀ (i + 1) b' R' n'
      unfolding rest
      put-further p q r =
          let c = counted in
          let g = v.long in
          let k = put-room in
          rw (p, q, r)
          (record {
            pass = further ds b₀ i m b long v.pass d next e refl;
            count = omega arith;
            rows = append-again R n (news_of d b) rest (omega arith) ∙ sym (ap (append R n) split) ∙ v.rows;
            long = length-appended R n (news_of d b) k ∙ g;
          })
