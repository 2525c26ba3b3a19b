-- What stands at the front of a body, by cases, over what becomes of a message: the one walk through the reader's tests. A fault; an event, said by its
-- own bytes whatever stands behind them; or the end of track, which takes every byte that is left. How many bytes an event takes, what is kept of it,
-- that what stands behind does not matter, and what an end of track is, are each read off it.
--     Quantified, quantified    a quantity at the front
--     Kept, kept_of_lem             what may be kept: nothing, or what becomes of a message with data bytes below 128
--     Front, message-front ..   of a part of the reader, behind so many bytes
--     Stands, stands            of the whole; of an event Said, said
use mathlib.Core.Bool.{Bool, true, false, cond, ◌||◌}
use mathlib.Core.Path.{◌≡◌, refl, sym, ap, ◌∙◌}
use mathlib.Core.List.{List, [], ◌∷◌, ◌++◌, append_assoc, append-nil}
use Prim.Native.Nat.{ℕ, zero, suc, ◌+◌, ◌*◌, ◌-◌, ◌≤◌, ◌<◌}
use native.Mathlib.Omega.{arith}
use borrow.Author.Tests.{ltb-true, eqb-true, leb-true, leb-false, ne_eqb, le-leb, lt-leb}
use lib.Dec.{eqb, ltb, leb}
use lib.ListN.{length, take, drop, length-append, take-append-drop}
use lib.Seq.{length-take-le, drop-append_seam}
use Rattle.quantities.specs.declared.Quantity.{Quantity}
use Rattle.quantities.specs.Quantities.{quantity_bytes, met, not_met, quantity_from, quantity_in}
use Rattle.quantities.proofs.Groups.{quantity-within, quantity-alone}
use Rattle.chunks.specs.Reader.{Seen, seen, fault, single, step_over, end_in, meta_in, second_in, message_in, status_in, seen_in}
use Rattle.reader.specs.Rereading.{EndOfTrack}

-- by what a test says
pub tested : {P : Type 0} (t : Bool) → (t ≡ true → P) → (t ≡ false → P) → P
tested true f g = f refl
tested false f g = g refl

-- what holds of both answers of a test, each where it is given
pub chosen : {B : Type 0} (P : B → Type 0) (t : Bool) (a b : B) → (t ≡ true → P a) → (t ≡ false → P b) → P (cond t a b)
chosen P true a b f g = f refl
chosen P false a b f g = g refl

-- ---- a quantity
pub data Quantified (k value used : ℕ) (l : List ℕ) : Type 0 where
  none : quantity_from k value used l ≡ not_met → Quantified k value used l
  some : (own rest : List ℕ) (total : ℕ) → l ≡ own ++ rest → 0 < length own
      → ((x : List ℕ) → quantity_from k value used (own ++ x) ≡ met total (used + length own)) → Quantified k value used l

quantified-from : (k value used : ℕ) (l : List ℕ) → Quantified k value used l
unfolding quantity_from
quantified-from zero value used l = none refl
quantified-from (suc k) value used [] = none refl
quantified-from (suc k) value used (b ∷ l) =
    tested (ltb b 128)
    (λ t. some (b ∷ []) l (value * 128 + b) refl (omega arith) (λ x. rw t))
    (λ t. go t (quantified-from k (value * 128 + (b - 128)) (used + 1) l))
  where
    go : ltb b 128 ≡ false → Quantified k (value * 128 + (b - 128)) (used + 1) l → Quantified (suc k) value used (b ∷ l)
    go t (none e) = none (rw (t, e))
    go t (some own rest total is more reads) =
        let n : used + 1 + length own ≡ used + suc (length own) = omega arith in
        some (b ∷ own) rest total (ap (λ (r : List ℕ). b ∷ r) is) (omega arith) (λ x. rw t (reads x ∙ ap (met total) n))

pub quantified : (l : List ℕ) → Quantified quantity_bytes 0 0 l
quantified l = quantified-from quantity_bytes 0 0 l

module _ {A : Type 0} (make : ℕ → ℕ → ℕ → ℕ → List A) where
  pub data Kept (time : ℕ) : List A → Type 0 where
    nothing : Kept time []
    message : (status a b : ℕ) → a < 128 → b < 128 → Kept time (make status time a b)

  -- what f reads of l behind so many bytes, at a time and behind a gap; T is what holds of l where it is an end of track
  pub data Front (time gap : ℕ) (f : ℕ → List ℕ → Seen A) (T : Type 0) (l : List ℕ) : Type 0 where
    fails : (n : ℕ) → 2 ≤ n → ((used : ℕ) → f used l ≡ fault n) → Front time gap f T l
    reads : (own rest : List ℕ) (kept : List A) (status : ℕ) → l ≡ own ++ rest → 0 < length own → Kept time kept
        → ((used : ℕ) (x : List ℕ) → f used (own ++ x) ≡ seen 0 kept (used + length own) status gap) → Front time gap f T l
    ends : T → ((used : ℕ) → f used l ≡ seen 1 [] (used + length l) 0 gap) → Front time gap f T l

  module _ (time gap : ℕ) where
    -- behind one byte more
    onward : {f g : ℕ → List ℕ → Seen A} {T U : Type 0} (b : ℕ) (l : List ℕ) → ((used : ℕ) (x : List ℕ) → f used (b ∷ x) ≡ g (used + 1) x) → (T → U)
        → Front time gap g T l → Front time gap f U (b ∷ l)
    onward b l e u (fails n h r) = fails n h (λ used. e used l ∙ r (used + 1))
    onward b l e u (reads own rest kept status is more k r) =
        reads (b ∷ own) rest kept status (ap (λ (x : List ℕ). b ∷ x) is) (omega arith) k
        (λ used x. e used (own ++ x) ∙ r (used + 1) x ∙ ap (λ (n : ℕ). seen 0 kept n status gap) (omega arith))
    onward b l e u (ends t r) = ends (u t) (λ used. e used l ∙ r (used + 1) ∙ ap (λ (n : ℕ). seen 1 [] n 0 gap) (omega arith))

    -- what is read alike wherever this byte is first
    alike : {f g : ℕ → List ℕ → Seen A} {T : Type 0} (b : ℕ) (l : List ℕ) → ((used : ℕ) (x : List ℕ) → f used (b ∷ x) ≡ g used (b ∷ x))
        → Front time gap g T (b ∷ l) → Front time gap f T (b ∷ l)
    alike b l e (fails n h r) = fails n h (λ used. e used l ∙ r used)
    alike b l e (reads [] rest kept status is more k r) = absurd (omega arith)
    alike b l e (reads (c ∷ own) rest kept status is more k r) =
        let first : b ≡ c = cc in
        reads (c ∷ own) rest kept status is more k (λ used x. rw (← first) (e used (own ++ x)) ∙ r used x)
    alike b l e (ends t r) = ends t (λ used. e used l ∙ r used)

    -- ---- what is stepped over, and the end of track
    step_is : (used v u : ℕ) (l : List ℕ) → quantity_in l ≡ met v u → step_over {A = A} gap used l ≡ cond (leb (u + v) (length l)) (seen 0 [] (used + (u + v)) 0 gap) (fault 14)
    unfolding step_over
    step_is used v u l e = rw e

    end_is : (used v u : ℕ) (l : List ℕ) → quantity_in l ≡ met v u
        → end_in {A = A} gap used l ≡ cond (eqb v 0) (cond (eqb u (length l)) (seen 1 [] (used + u) 0 gap) (fault 15)) (fault 14)
    unfolding end_in
    end_is used v u l e = rw e

    step-front : (T : Type 0) (l : List ℕ) → Front time gap (λ used l. step_over gap used l) T l
    unfolding step_over
    step-front T l = go (quantified l)
      where
        go : Quantified quantity_bytes 0 0 l → Front time gap (λ used l. step_over gap used l) T l
        go (none e) = fails 14 (omega arith) (λ used. rw e)
        go (some own rest v is more q) =
            let n = length-append own rest in
            let long = ap length is in
            let at : (x : List ℕ) → quantity_in (own ++ x) ≡ met v (length own) = λ x. q x ∙ ap (met v) (omega arith) in
            tested (leb v (length rest))
            (λ t.
            let there = leb-true v (length rest) t in
            let body = take v rest in
            let size = length-take-le v rest there in
            let own-size = length-append own body in
            reads (own ++ body) (drop v rest) [] 0
            (is ∙ ap (λ (r : List ℕ). own ++ r) (sym (take-append-drop v rest)) ∙ sym (append_assoc own body (drop v rest)))
            (omega arith)
            nothing
            (λ used x.
            let l-size = length-append (own ++ body) x in
            let here : quantity_in ((own ++ body) ++ x) ≡ met v (length own) = ap quantity_in (append_assoc own body x) ∙ at (body ++ x) in
            step_is used v (length own) ((own ++ body) ++ x) here
            ∙ rw (le-leb (length own + v) (length ((own ++ body) ++ x)) (omega arith)) (ap (λ (n : ℕ). seen 0 [] n 0 gap) (omega arith))))
            (λ t.
            let short = leb-false v (length rest) t in
            fails 14 (omega arith) (λ used. step_is used v (length own) l (ap quantity_in is ∙ at rest) ∙ rw (lt-leb (length own + v) (length l) (omega arith))))

    end-front : (l : List ℕ) → Front time gap (λ used l. end_in gap used l) (quantity_in l ≡ met 0 (length l)) l
    unfolding end_in
    end-front l = go (quantified l)
      where
        go : Quantified quantity_bytes 0 0 l → Front time gap (λ used l. end_in gap used l) (quantity_in l ≡ met 0 (length l)) l
        go (none e) = fails 14 (omega arith) (λ used. rw e)
        go (some own rest v is more q) =
            let at : quantity_in l ≡ met v (length own) = ap quantity_in is ∙ q rest ∙ ap (met v) (omega arith) in
            tested (eqb v 0)
            (λ t. tested (eqb (length own) (length l))
            (λ u.
            let z = eqb-true v 0 t in
            let all = eqb-true (length own) (length l) u in
            ends (rw (z, all) at at) (λ used. end_is used v (length own) l at ∙ rw (t, u, all)))
            (λ u. fails 15 (omega arith) (λ used. end_is used v (length own) l at ∙ rw (t, u))))
            (λ t. fails 14 (omega arith) (λ used. end_is used v (length own) l at ∙ rw t))

    -- ---- a Meta event, from its type on
    meta-front : (l : List ℕ) → Front time gap (λ used l. meta_in gap used l) (EndOfTrack (255 ∷ l)) l
    unfolding meta_in
    meta-front [] = fails 14 (omega arith) (λ used. refl)
    meta-front (type ∷ l) =
        tested (ltb type 128)
        (λ t. tested (eqb type 47)
        (λ u. onward type l (λ used x. rw (t, u)) (λ e. record { zeros = l; is = ap (λ (x : ℕ). 255 ∷ x ∷ l) (eqb-true type 47 u); empty = e }) (end-front l))
        (λ u. onward type l (λ used x. rw (t, u)) (λ e. e) (step-front (EndOfTrack (255 ∷ type ∷ l)) l)))
        (λ t. fails 14 (omega arith) (λ used. rw t))

    -- ---- a message
    second-front : (T : Type 0) (status a : ℕ) (l : List ℕ) → a < 128 → Front time gap (λ used l. second_in make status time gap used a l) T l
    unfolding second_in
    second-front T status a [] d = fails 14 (omega arith) (λ used. refl)
    second-front T status a (b ∷ l) d =
        tested (ltb b 128)
        (λ t. reads (b ∷ []) l (make status time a b) status refl (omega arith) (message status a b d (ltb-true b 128 t)) (λ used x. rw t))
        (λ t. fails 14 (omega arith) (λ used. rw t))

    pub message-front : (T : Type 0) (status : ℕ) (l : List ℕ) → Front time gap (λ used l. message_in make status time gap used l) T l
    unfolding message_in
    message-front T status [] = fails 14 (omega arith) (λ used. refl)
    message-front T status (a ∷ l) =
        tested (ltb a 128)
        (λ t. tested (single status)
        (λ u. reads (a ∷ []) l (make status time a 0) status refl (omega arith) (message status a 0 (ltb-true a 128 t) (omega arith)) (λ used x. rw (t, u)))
        (λ u. onward a l (λ used x. rw (t, u)) (λ e. e) (second-front T status a l (ltb-true a 128 t))))
        (λ t. fails 14 (omega arith) (λ used. rw t))

    -- ---- what stands behind a gap
    status-front : (running : ℕ) (l : List ℕ) → Front time gap (λ used l. status_in make running time gap used l) (EndOfTrack l) l
    unfolding status_in
    status-front running [] = fails 14 (omega arith) (λ used. refl)
    status-front running (x ∷ l) =
        let T = EndOfTrack (x ∷ l) in
        tested (ltb x 128)
        (λ t. tested (eqb running 0)
        (λ u. fails 14 (omega arith) (λ used. rw (t, u)))
        (λ u. alike x l (λ used y. rw (t, u)) (message-front T running (x ∷ l))))
        (λ t. tested (ltb x 240)
        (λ u. onward x l (λ used y. rw (t, u)) (λ e. e) (message-front T x l))
        (λ u. tested (eqb x 255)
        (λ v. onward x l (λ used y. rw (t, u, v)) (λ e. rw (eqb-true x 255 v) e) (meta-front l))
        (λ v. tested (eqb x 240 || eqb x 247)
        (λ w. onward x l (λ used y. rw (t, u, v, w)) (λ e. e) (step-front T l))
        (λ w. fails 14 (omega arith) (λ used. rw (t, u, v, w))))))

  -- ---- the whole: a gap, and what stands behind it
  pub behind-gap : (running time v : ℕ) (q x : List ℕ) → quantity_in q ≡ met v (length q) → seen_in make running time (q ++ x) ≡ status_in make running (time + v) v (length q) x
  unfolding seen_in
  behind-gap running time v q x e =
      let n : Quantity = record { value = v; used = length q } in
      let w = quantity-within q n e in
      let long = length-append q x in
      rw (ne_eqb (length (q ++ x)) 0 (λ (z : length (q ++ x) ≡ 0). absurd (omega arith)), quantity-alone q x n e, drop-append_seam q x)

  -- an event, said by its own bytes whatever stands behind them
  pub record Said (running time : ℕ) (l : List ℕ) : Type 0 where
    pub own : List ℕ
    pub rest : List ℕ
    pub kept : List A
    pub status : ℕ
    pub gap : ℕ
    pub is : l ≡ own ++ rest
    pub some : 1 < length own
    pub tells : Kept (time + gap) kept
    pub seen : (x : List ℕ) → seen_in make running time (own ++ x) ≡ seen 0 kept (length own) status gap

  pub data Stands (running time : ℕ) (l : List ℕ) : Type 0 where
    faulty : (n : ℕ) → 2 ≤ n → seen_in make running time l ≡ fault n → Stands running time l
    event : Said running time l → Stands running time l
    closing : (wait last : List ℕ) (gap : ℕ) → l ≡ wait ++ last → quantity_in wait ≡ met gap (length wait) → EndOfTrack last
        → seen_in make running time l ≡ seen 1 [] (length l) 0 gap → Stands running time l

  pub stands : (running time : ℕ) (l : List ℕ) → Stands running time l
  unfolding seen_in
  stands running time [] = faulty 15 (omega arith) refl
  stands running time (b ∷ l) = go (quantified (b ∷ l))
    where
      go : Quantified quantity_bytes 0 0 (b ∷ l) → Stands running time (b ∷ l)
      go (none e) = faulty 14 (omega arith) (rw (ne_eqb (length (b ∷ l)) 0 (λ (z : length (b ∷ l) ≡ 0). absurd (omega arith)), e))
      go (some wait x v is more q) = behind (status-front (time + v) v running x)
        where
          alone : quantity_in wait ≡ met v (length wait)
          alone = sym (ap quantity_in (append-nil wait)) ∙ q [] ∙ ap (met v) (omega arith)

          here : (y : List ℕ) → seen_in make running time (wait ++ y) ≡ status_in make running (time + v) v (length wait) y
          here y = behind-gap running time v wait y alone

          behind : Front (time + v) v (λ used l. status_in make running (time + v) v used l) (EndOfTrack x) x → Stands running time (b ∷ l)
          behind (fails n h r) = faulty n h (ap (seen_in make running time) is ∙ here x ∙ r (length wait))
          behind (reads own rest kept status at size k r) =
              let n = length-append wait own in
              event
              (record {
                own = wait ++ own;
                rest = rest;
                kept = kept;
                status = status;
                gap = v;
                is = is ∙ ap (λ (y : List ℕ). wait ++ y) at ∙ sym (append_assoc wait own rest);
                some = omega arith;
                tells = k;
                seen = λ y. ap (seen_in make running time) (append_assoc wait own y) ∙ here (own ++ y) ∙ r (length wait) y ∙ ap (λ (n : ℕ). seen 0 kept n status v) (sym n);
              })
          behind (ends t r) =
              let size : length wait + length x ≡ length (b ∷ l) = sym (length-append wait x) ∙ sym (ap length is) in
              closing wait x v is alone t (ap (seen_in make running time) is ∙ here x ∙ r (length wait) ∙ ap (λ (n : ℕ). seen 1 [] n 0 v) size)

  pub said_here : (running time : ℕ) (l : List ℕ) (e : Said running time l) → seen_in make running time l ≡ seen 0 e.kept (length e.own) e.status e.gap
  said_here running time l e = ap (seen_in make running time) e.is ∙ e.seen e.rest

  -- where the number is 0 it is an event
  pub said : (running time : ℕ) (l : List ℕ) → (seen_in make running time l).code ≡ 0 → Said running time l
  said running time l h = go (stands running time l)
    where
      go : Stands running time l → Said running time l
      go (faulty n g e) = let z : n ≡ 0 = sym (ap (λ (s : Seen A). s.code) e) ∙ h in absurd (omega arith)
      go (event e) = e
      go (closing wait last gap is q t e) = let z : ◌≡◌ {A = ℕ} 1 0 = sym (ap (λ (s : Seen A). s.code) e) ∙ h in absurd (omega arith)

  -- what is kept of it is at its time
  pub kept_of_lem : (running time : ℕ) (l : List ℕ) → (seen_in make running time l).code ≡ 0 → (let s = seen_in make running time l in Kept (time + s.gap) s.kept)
  kept_of_lem running time l h = let e = said running time l h in rw (said_here running time l e) e.tells
