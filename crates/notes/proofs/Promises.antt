-- What a customer leans on: every event is kept, and each note adds one.
--     adds-one-each, keeps-every   how many events there are then, and that each is there
--     without-ends, all-ends       thinned of the ends of notes the list is as it was; a test that holds of every end holds throughout where it did
use mathlib.Core.Path.{◌≡◌, refl, ap}
use mathlib.Core.Bool.{Bool, true, false, cond, not, ◌&&◌}
use mathlib.Core.List.Memᴰ
use mathlib.Core.List.{List, [], ◌∷◌, ◌++◌, Memᴰ}
use mathlib.Core.Logic.{⊎_elim}
use Prim.Native.Nat.{◌+◌}
use native.Mathlib.Omega.{arith}
use lib.ListN.{length}
use Rattle.laws.specs.Lists.{all, unless, without}
use Rattle.laws.proofs.Bools.{which}
use Rattle.events.specs.declared.Event.{Event}
use Rattle.notes.specs.Notes.{is_note, off_of, with_off, split_notes}

-- the notes of a list
abbrev pub notes_of : List Event → List Event
notes_of es = without (λ e. not (is_note e)) es

pub adds-one-each : (es : List Event) → length (split_notes es) ≡ length es + length (notes_of es)
unfolding split_notes
adds-one-each [] = refl
adds-one-each (e ∷ es) =
    ⊎_elim
    (λ h. rw h (let r = adds-one-each es in omega arith))
    (λ h. rw h (let r = adds-one-each es in omega arith))
    (which (is_note e))

first : (t : Bool) (e f : Event) → Memᴰ e (cond t (e ∷ f ∷ []) (e ∷ []))
first true e f = Memᴰ.head refl
first false e f = Memᴰ.head refl

pub keeps-every : (es : List Event) (e : Event) → Memᴰ e es → Memᴰ e (split_notes es)
unfolding split_notes
keeps-every [] e m = absurd (Memᴰ.not-nil m)
keeps-every (x ∷ es) e m =
    ⊎_elim
    (λ q. Memᴰ.append_left {s = with_off x} (split_notes es) (rw q (first (is_note x) x (off_of x))))
    (λ r. Memᴰ.append_right (with_off x) (keeps-every es e r))
    (Memᴰ.cases_cons m)

-- ---- what the ends leave alone
pub without-ends : (out : Event → Bool) → ((e : Event) → out (off_of e) ≡ true) → (es : List Event) → without out (split_notes es) ≡ without out es
unfolding split_notes
without-ends out ends [] = refl
without-ends out ends (e ∷ es) = go (is_note e) (without-ends out ends es)
  where
    go : (b : Bool) → without out (split_notes es) ≡ without out es → without out (cond b (e ∷ off_of e ∷ []) (e ∷ []) ++ split_notes es) ≡ unless (out e) e (without out es)
    go true same = rw (ends e) (ap (unless (out e) e) same)
    go false same = ap (unless (out e) e) same

pub all-ends : (p : Event → Bool) → ((e : Event) → p (off_of e) ≡ true) → (es : List Event) → all p (split_notes es) ≡ all p es
unfolding all split_notes
all-ends p ends [] = refl
all-ends p ends (e ∷ es) = go (is_note e) (all-ends p ends es)
  where
    go : (b : Bool) → all p (split_notes es) ≡ all p es → all p (cond b (e ∷ off_of e ∷ []) (e ∷ []) ++ split_notes es) ≡ (p e && all p es)
    go true same = rw (ends e) (ap (λ (b : Bool). p e && b) same)
    go false same = ap (λ (b : Bool). p e && b) same
