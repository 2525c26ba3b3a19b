-- The keys of a table, gathered behind those of others: after i records the keys of the first i stand there.
use mathlib.Core.Path.{◌≡◌, sym, ap, ◌∙◌}
use mathlib.Core.List.{List, [], ◌∷◌, ◌++◌, map}
use Prim.Native.Nat.{ℕ, ◌+◌, ◌≤◌, ◌<◌}
use native.Mathlib.Omega.{arith}
use lib.ListN.{length, get_or, set, take, length-map, length-take}
use lib.Seq.{length-take-le}
use Rattle.laws.proofs.Keys.{gathered, gathered_none, gathered-more, length-gathered, gathered-shown, map_more}
use Rattle.tables.specs.declared.Keys.{Keys}
use Rattle.tables.specs.Tables.{keys_shown, keys_with, key_limit}

module _ {A : Type 0} (f : A → ℕ) (table : List A) (before : List ℕ) (first count : ℕ) where
  pub record Gathering (items : List ℕ) (i : ℕ) : Type 0 where
    pub within : i ≤ count
    pub sofar : items ≡ gathered before first (map f (take i table))

  pub nothing_yet : Gathering before 0
  nothing_yet = record { within = omega arith; sofar = gathered_none before first }

  module _ (fit : count ≤ length table) where
    gathered-length : (i : ℕ) → i ≤ count → length (map f (take i table)) ≡ i
    gathered-length i h = length-map (take i table) f ∙ length-take-le i table (omega arith)

    pub one_further : (items : List ℕ) (i x : ℕ) (d : A) → Gathering items i → i < count → first + count ≤ length before → x ≡ f (get_or table i d)
        → Gathering (set items (first + i) x) (i + 1)
    one_further items i x d v h room e =
        let l = gathered-length i (omega arith) in
        let m = gathered-more before first (map f (take i table)) x 0 (omega arith) in
        record {
          within = omega arith;
          sofar =
              ap (λ (y : List ℕ). set y (first + i) x) v.sofar
              ∙ ap (λ (n : ℕ). set (gathered before first (map f (take i table))) (first + n) x) (sym l)
              ∙ m
              ∙ ap (λ (k : ℕ). gathered before first (map f (take i table) ++ (k ∷ []))) e
              ∙ ap (gathered before first) (sym (map_more f table i d (omega arith)));
        }

    pub all_in : (items : List ℕ) (i : ℕ) → Gathering items i → count ≤ i
        → (first + count ≡ first + length (map f (take count table))) × (items ≡ gathered before first (map f (take count table)))
    all_in items i v h =
        let all : i ≡ count = omega (arith, v.within) in
        (ap (λ (n : ℕ). first + n) (sym (gathered-length count (omega arith))), rw all at v.sofar)

-- ---- the keys of several tables, one after the other

-- no more keys than records that count
pub few-keys : {A : Type 0} (f : A → ℕ) (n : ℕ) (l : List A) → length (map f (take n l)) ≤ n
few-keys f n l = rw length-map (omega (arith, length-take n l))

-- what was gathered fits, and what counts of it
pub record Room (a : Keys) (most : ℕ) (ks : List ℕ) : Type 0 where
  pub long : length a.items ≡ key_limit
  pub few : a.count ≤ most
  pub shown : keys_shown a ≡ ks

pub further : (a : Keys) (m n : ℕ) (ks more : List ℕ) → Room a m ks → length more ≤ n → m + n ≤ key_limit → Room (keys_with a more) (m + n) (ks ++ more)
further a m n ks more r h b =
    record {
      long = length-gathered a.items a.count more (omega (arith, r.long, r.few)) ∙ r.long;
      few = omega (arith, r.few);
      shown = gathered-shown a.items a.count more (omega (arith, r.long, r.few)) ∙ ap (λ (x : List ℕ). x ++ more) r.shown;
    }
