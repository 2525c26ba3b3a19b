-- What is left of a run: a list stays one list, and what is kept of them takes their places.
--     run_long    as many lists as there were
--     play-lost, play-kept   the two answers of `play_notes`
use mathlib.Core.Path.{◌≡◌, refl, sym, ap, ap₂, ◌∙◌}
use mathlib.Core.Bool.{Bool, true, false, cond}
use mathlib.Core.List.{List, [], ◌∷◌, ◌++◌}
use Prim.Native.Nat.{ℕ, suc, ◌≤◌, max}
use native.Mathlib.Omega.{arith}
use lib.ListN.{length, take, drop}
use lib.Seq.{drop_at, take-append_seam}
use Rattle.laws.specs.Lists.{without, put_first}
use Rattle.laws.proofs.Compact.{length_without}
use Rattle.numbers.specs.Limits.{value_bytes}
use Rattle.budget.specs.declared.Budget.{Budget}
use Rattle.budget.specs.Budgets.{fits}
use Rattle.values.specs.declared.WriteOption.{WriteOption}
use Rattle.cycles.specs.Turns.{option_of}
use Rattle.tables.specs.declared.OnNoteValues.{OnNoteValues}
use Rattle.tables.specs.declared.NoteTable.{NoteTable}
use Rattle.tables.specs.Tables.{no_note}
use Rattle.noting.specs.declared.Onset.{Onset}
use Rattle.noting.specs.declared.Played.{Played}
use Rattle.noting.specs.Lists.{silent, advanced, spent}
use Rattle.noting.specs.Runs.{Run, ran, behind, wrote_at, run, kept, notes_put, answered_by, ran_of, played_of}
use Rattle.noting.proofs.Walking.{put_whole, run-silent, run_fits, run-lost}

-- every fact of a run by cases: a list without a value, one whose write fits, one whose write is lost
pub run-cases : (options : List WriteOption) (at : Onset) (P : Budget → List OnNoteValues → Run → Type 0)
    → ((b : Budget) → P b [] (ran [] b [] false))
    → ((b : Budget) (e : OnNoteValues) (es : List OnNoteValues) → silent e ≡ true → P b es (run options at b es) → P b (e ∷ es) (behind (e ∷ []) [] (run options at b es)))
    → ((b : Budget) (e : OnNoteValues) (es : List OnNoteValues) → silent e ≡ false → fits value_bytes b ≡ true
    → (let w = wrote_at (option_of options e.target) at b e in
    P w.budget es (run options at w.budget es) → P b (e ∷ es) (behind (advanced e ∷ []) (w.event ∷ []) (run options at w.budget es))))
    → ((b : Budget) (e : OnNoteValues) (es : List OnNoteValues) → silent e ≡ false → fits value_bytes b ≡ false
    → P b (e ∷ es) (ran (e ∷ es) (wrote_at (option_of options e.target) at b e).budget [] true))
    → (b : Budget) (es : List OnNoteValues) → P b es (run options at b es)
unfolding run
run-cases options at P none passed wrote lost b [] = none b
run-cases options at P none passed wrote lost b (e ∷ es) =
    go (silent e) refl (fits value_bytes b) refl (λ c. run-cases options at P none passed wrote lost c es)
  where
    go : (s : Bool) → silent e ≡ s → (f : Bool) → fits value_bytes b ≡ f → ((c : Budget) → P c es (run options at c es)) → P b (e ∷ es) (run options at b (e ∷ es))
    go true p f q ih = rw (run-silent options at b e es p) (passed b e es p (ih b))
    go false p true q ih = rw (run_fits options at b e es p q) (wrote b e es p q (ih (wrote_at (option_of options e.target) at b e).budget))
    go false p false q ih = rw (run-lost options at b e es p q) (lost b e es p q)

pub run_long : (options : List WriteOption) (at : Onset) (b : Budget) (es : List OnNoteValues) → length (run options at b es).lists ≡ length es
run_long options at =
    run-cases options at (λ b es r. length r.lists ≡ length es) (λ b. refl) (λ b e es s h. ap suc h) (λ b e es s f h. ap suc h) (λ b e es s f. refl)

put-over : {A : Type 0} (z : A) (n : ℕ) (ls now l : List A) → length ls ≡ n → length now ≤ n → put_first z n now (ls ++ drop n l) ≡ put_first z n now l
put-over z n ls now l e h =
    let m : max n (length now) ≡ n = omega arith in
    rw (m, drop_at ls (drop n l) n e)

module _ (t : NoteTable) (r : Run) where
  pub play-lost : (p : Played) → p ≡ ran_of t r → p.lost ≡ true → p ≡ played_of t r
  unfolding ran_of played_of kept
  play-lost p e h =
      let q : r.lost ≡ true = sym (ap (λ (x : Played). x.lost) e) ∙ h in
      e ∙ ap (λ (b : Bool). answered_by t r (cond b r.lists (without spent r.lists))) (sym q)

  pub play-kept : length r.lists ≡ t.count → (p : Played) (n : NoteTable) → p ≡ ran_of t r → p.lost ≡ false
      → n ≡ notes_put p.notes (without spent (take p.notes.count p.notes.items))
      → record { notes = n; budget = p.budget; made = p.made; events = p.events; lost = p.lost } ≡ played_of t r
  unfolding ran_of played_of kept
  play-kept l p n e h g =
      let q : r.lost ≡ false = sym (ap (λ (x : Played). x.lost) e) ∙ h in
      let now : List OnNoteValues = without spent r.lists in
      let few : length now ≤ t.count = omega (arith, length_without spent r.lists) in
      let shown : take (length r.lists) (put_first no_note t.count r.lists t.items) ≡ r.lists = take-append_seam r.lists _ in
      let same : n ≡ notes_put t now =
      g
      ∙ ap (λ (x : Played). notes_put x.notes (without spent (take x.notes.count x.notes.items))) e
      ∙ ap (λ (x : List OnNoteValues). notes_put (notes_put t r.lists) (without spent x)) shown
      ∙ ap (λ (x : List OnNoteValues). record { count = length now; items = x })
      (ap₂ (λ (k : ℕ) (x : List OnNoteValues). put_first no_note k now x) l (put_whole no_note t.count r.lists t.items l)
      ∙ put-over no_note t.count r.lists now t.items l few) in
      ap₂ (λ (x : NoteTable) (y : Played). record { notes = x; budget = y.budget; made = y.made; events = y.events; lost = y.lost }) same e
      ∙ ap (λ (b : Bool). answered_by t r (cond b r.lists now)) (sym q)
