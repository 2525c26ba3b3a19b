-- A loop that stores the elements of v one after the other over those of z (`over`), at any element: a turn stores one more
-- (`over-more`), and in the end all of v stands in front (`over-all`).
use mathlib.Core.Path.{◌≡◌, sym, ◌∙◌}
use mathlib.Core.List.{List, ◌++◌}
use Prim.Native.Nat.{ℕ, suc, ◌+◌, ◌<◌}
use native.Mathlib.Nat.{le_of_lt}
use native.Mathlib.Numerals.{add-one}
use lib.ListN.{length, take, drop, get_or, set}
use lib.Seq.{take-suc, drop-cons, set_at, append_snoc, length-take-le, take-length}
use Rattle.laws.specs.Lists.{over}

pub over-more : {A : Type 0} (z v : List A) (i : ℕ) (d : A) → i < length z → i < length v → set (over z v i) i (get_or v i d) ≡ over z v (i + 1)
over-more z v i d hz hv =
    let front = take i v in
    let long : length front ≡ i = length-take-le i v (le_of_lt hv) in
    rw (add-one, drop-cons z i d hz, take-suc v i d hv)
    (set_at front (get_or z i d) (drop (suc i) z) (get_or v i d) i long ∙ sym (append_snoc front (get_or v i d) (drop (suc i) z)))

pub over-all : {A : Type 0} (z v : List A) (i : ℕ) → i ≡ length v → over z v i ≡ v ++ drop (length v) z
over-all z v i q = rw (q, take-length)
