-- A table that is closed up in one pass: each place is zeroed as it is read, and what stays is put in front (`Closing`), over any
-- record and any test.
--     taken_out, stays   a record is taken out, or put in front of what is left
--     closed             all are passed
use mathlib.Core.Path.{◌≡◌, refl, sym, ap, ap₂, ◌∙◌}
use mathlib.Core.Bool.{Bool, true, false}
use mathlib.Core.List.{List, [], ◌∷◌, ◌++◌, append_assoc}
use Prim.Native.Nat.{ℕ, suc, ◌+◌, ◌-◌, ◌≤◌, ◌<◌}
use native.Mathlib.Omega.{arith}
use lib.ListN.{length, get_or, set, take, drop, replicate, length-append, length-replicate}
use lib.Seq.{set_at, append_snoc}
use Rattle.laws.specs.Lists.{without, put_first}
use Rattle.laws.proofs.Reading.{read_behind, get_d_any}
use Rattle.laws.proofs.Compact.{kept, kept-le, kept-drop, kept-keep, counted-drop, counted-keep, cleared, cleared-none, cleared_more, cleared-put}

-- one more in front of what is cleared
cleared-keep : {A : Type 0} (z x : A) (l p : List A) (k : ℕ) → length p ≤ k → set (cleared z l p (k + 1)) (length p) x ≡ cleared z l (p ++ (x ∷ [])) (k + 1)
cleared-keep z x l p k h =
    let a : k + 1 - length p ≡ suc (k - length p) = omega arith in
    let b : k - length p ≡ k + 1 - length (p ++ (x ∷ [])) = rw length-append (omega arith) in
    ap (λ (m : ℕ). set (p ++ (replicate m z ++ drop (k + 1) l)) (length p) x) a
    ∙ set_at p z (replicate (k - length p) z ++ drop (k + 1) l) x (length p) refl
    ∙ sym (append_snoc p x (replicate (k - length p) z ++ drop (k + 1) l))
    ∙ ap (λ (m : ℕ). (p ++ (x ∷ [])) ++ (replicate m z ++ drop (k + 1) l)) b

module _ {A : Type 0} (z : A) (out : A → Bool) (l : List A) (count : ℕ) where
  pub record Closing (items : List A) (n i : ℕ) : Type 0 where
    pub upto : i ≤ count
    pub counted : n ≡ length (kept out z l i)
    pub sofar : items ≡ cleared z l (kept out z l i) i

  pub begun : Closing l 0 0
  begun = record { upto = omega arith; counted = refl; sofar = cleared-none z l 0 (omega arith) }

  module _ (fit : count ≤ length l) (items : List A) (n i : ℕ) (v : Closing items n i) where
    pub few : n ≤ i
    few = omega (arith, v.counted, kept-le out z l i (omega (arith, v.upto)))

    pub closed : count ≤ i → (n ≡ length (without out (take count l))) × (items ≡ put_first z count (without out (take count l)) l)
    closed past =
        let e : i ≡ count = omega (arith, v.upto) in
        let m : n ≡ length (kept out z l count) = rw e at v.counted in
        let s : items ≡ cleared z l (kept out z l count) count = rw e at v.sofar in
        (m, s ∙ cleared-put z l (kept out z l count) count (kept-le out z l count fit))

    module _ (less : i < count) (d : A) where
      abbrev front : List A
      front = kept out z l i ++ replicate (i - length (kept out z l i)) z

      long : length front ≡ i
      long = length-append (kept out z l i) (replicate (i - length (kept out z l i)) z) ∙ (let a = few in omega (arith, length-replicate (i - length (kept out z l i)) z, v.counted))

      here : get_or items i d ≡ get_or l i z
      here =
          ap (λ (x : List A). get_or x i d) (v.sofar ∙ sym (append_assoc (kept out z l i) (replicate (i - length (kept out z l i)) z) (drop i l)))
          ∙ read_behind front l i d long (omega arith)
          ∙ get_d_any l i d z (omega arith)

      module _ (y : A) (zero : y ≡ z) (t : Bool) (asked : t ≡ out (get_or items i d)) where
        told : out (get_or l i z) ≡ t
        told = sym (asked ∙ ap out here)

        zeroed : set items i y ≡ cleared z l (kept out z l i) (i + 1)
        zeroed =
            ap₂ (λ (x : List A) (e : A). set x i e) v.sofar zero
            ∙ cleared_more z l (kept out z l i) i (kept-le out z l i (omega arith)) (omega arith)

        pub taken_out : t ≡ true → Closing (set items i y) n (i + 1)
        taken_out q =
            record {
              upto = omega arith;
              counted = counted-drop out z l i n (omega arith) (told ∙ q) v.counted;
              sofar = zeroed ∙ ap (λ (p : List A). cleared z l p (i + 1)) (sym (kept-drop out z l i (omega arith) (told ∙ q)));
            }

        pub stays : t ≡ false → Closing (set (set items i y) n (get_or items i d)) (n + 1) (i + 1)
        stays q =
            record {
              upto = omega arith;
              counted = counted-keep out z l i n (omega arith) (told ∙ q) v.counted;
              sofar =
                  ap (λ (x : List A). set x n (get_or items i d)) zeroed
                  ∙ ap₂ (λ (m : ℕ) (x : A). set (cleared z l (kept out z l i) (i + 1)) m x) v.counted here
                  ∙ cleared-keep z (get_or l i z) l (kept out z l i) i (kept-le out z l i (omega arith))
                  ∙ ap (λ (p : List A). cleared z l p (i + 1)) (sym (kept-keep out z l i (omega arith) (told ∙ q)));
            }
