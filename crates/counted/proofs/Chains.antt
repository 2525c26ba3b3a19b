-- What an iterator's `all` answers is the list's test: the two agree at each place.
--     all-told      of a test that is told of each place
--     thirds-told   of one of the third number of each chunk of three, by what a run of the chunks says
use Rattle.std.proofs.Common.{◌≡◌, ℕ, ◌+◌, ◌*◌, ◌/◌, ◌<◌, Bool, true, false, List, length, get_or, refl, sym, ap, ◌∙◌, ℤ, pos, Option, Some, None, [], ◌∷◌, ◌≤◌, arith}
use Rattle.std.specs.Prelude.{◌↔◌, MatchBool, IsTrue, IfSome}
use Rattle.std.specs.Option.{option_map}
use Rattle.std.specs.List.{IsSubsliceAt}
use Rattle.std.specs.Borrow.{Bor}
use Rattle.std.specs.Iterator.Runs.{Run, AllItemsGive, AnyItemGives, CallKeepsClosure, ItemsMapToExactChunks}
use denote.Param.Members.{Mut, Called}
use Rattle.laws.specs.Lists.{all}
use Rattle.laws.proofs.Every.{all-places}
use Rattle.laws.proofs.Tests.{all-at}

same : (a b : Bool) → (a ≡ true → b ≡ true) → (b ≡ true → a ≡ true) → a ≡ b
same true b f g = sym (f refl)
same false true f g = g refl
same false false f g = refl

pub all-told : {A : Type 0} (p : A → Bool) (l : List A) (d : A) (r : Bool) → (r ≡ true ↔ ((i : ℕ) → i < length l → p (get_or l i d) ≡ true)) → r ≡ all p l
all-told p l d r h = same r (all p l) (λ e. all-places p l d (h.0 e)) (λ e. h.1 (λ i m. all-at p l i d m e))

-- an element of a list that has one
some : {A : Type 0} (l : List A) (i : ℕ) → i < length l → A
some [] i h = absurd (omega arith)
some (x ∷ l) i h = x

module _ {S F : Type 0} {steps : S → Option (Bor (List ℤ)) → S → Type 0} (p : Run steps) (g : Mut F (Bor (List ℤ) × Unit {0}) Bool) (f : F) (xs : List ℤ) (test : ℤ → Bool) (keeps : CallKeepsClosure g f) (asks : (x : Bor (List ℤ)) (b : Bool) → Called g f (x, tt) b f → b ≡ test (get_or x.now 2 (pos 0))) (chunks : ItemsMapToExactChunks p (λ x. x.now) 3 xs) where
  at : (o : Option (Bor (List ℤ))) (i : ℕ) (d : Bor (List ℤ)) → option_map (λ y. y) o ≡ Some d → IfSome o (λ x. Called g f (x, tt) true f) → IfSome o (λ x. (length x.now ≡ 3) × (i * 3 + 3 ≤ length xs) × IsSubsliceAt 3 xs (i * 3) x.now) → test (get_or xs (i * 3 + 2) (pos 0)) ≡ true
  at None i d e h k = absurd (cc)
  at (Some x) i d e h k = ap test (sym (k.2.2 2 (pos 0) (omega arith))) ∙ sym (asks x true h)

  yes : p.whole ≡ true → AllItemsGive p g f true → (i : ℕ) → i < length xs / 3 → test (get_or xs (i * 3 + 2) (pos 0)) ≡ true
  yes w h i m =
      let long = chunks.1 w in
      let fits = p.long in
      let here = some p.items i (omega arith) in
      at (p.at i) i (get_or p.items i here) (p.reads i here (omega arith)) (h keeps i) (chunks.2 i)

  no : AnyItemGives p g f false → ((i : ℕ) → i < length xs / 3 → test (get_or xs (i * 3 + 2) (pos 0)) ≡ true) → ⊥
  no h t = grind (arith, h keeps)

  pub thirds-told : (r : Bool) → MatchBool r (IsTrue p.whole × AllItemsGive p g f true) (AnyItemGives p g f false) → r ≡ true ↔ ((i : ℕ) → i < length xs / 3 → test (get_or xs (i * 3 + 2) (pos 0)) ≡ true)
  thirds-told true h = (λ _. yes h.0 h.1, λ _. refl)
  thirds-told false h = (λ e. absurd (cc), λ t. absurd (no h t))
