-- The two passes: where a pass stands, and what it keeps while it goes. The first keeps that what it has counted and what is left make what is to
-- be answered; the second that what is left, laid behind what it has put, makes the list that is promised. Nothing overflows: each gap is below 2^28
-- and takes a byte, and a body has fewer than 2^32.
use mathlib.Core.Bool.{Bool, true, false, cond, not, ◌&&◌, ◌||◌}
use mathlib.Core.Path.{◌≡◌, refl, sym, ap, ap₂, ◌∙◌}
use mathlib.Core.List.{List, [], ◌∷◌, ◌++◌}
use Prim.Native.Nat.{ℕ, ◌+◌, ◌*◌, ◌-◌, ◌≤◌, ◌<◌, max}
use native.Mathlib.Omega.{arith}
use lib.Dec.{eqb}
use lib.ListN.{length, take, drop, length-append, length-drop}
use lib.Seq.{drop-drop, drop-append-add, take-append_seam}
use Rattle.laws.specs.Lists.{all, put_first}
use Rattle.text.specs.Laying.{laid}
use Rattle.text.proofs.Laying.{laid_none, laid-long, laid-behind}
use Rattle.events.specs.declared.Event.{Event}
use Rattle.quantities.specs.Quantities.{quantity_top}
use Rattle.chunks.specs.Chunks.{length_top}
use Rattle.chunks.specs.Reader.{Seen, seen_in, Whole, read_body}
use Rattle.reader.specs.declared.Cursor.{Cursor}
use Rattle.reader.specs.declared.Found.{Found}
use Rattle.reader.specs.declared.Outline.{Outline}
use Rattle.reader.specs.Reading.{kept_in, timely}
use Rattle.reader.specs.Steps.{tells, Counts, rest_of, outlined, counting, moved}
use Rattle.reader.proofs.Kept.{found-few}
use Rattle.reader.proofs.Rests.{seen-within, rest_goes, rest-ends}

-- ---- counting
all_both : {A : Type 0} (p : A → Bool) (k l : List A) → all p (k ++ l) ≡ (all p k && all p l)
unfolding all
all_both p [] l = refl
all_both p (x ∷ k) l = go (p x) (all_both p k l)
  where
    go : (b : Bool) → all p (k ++ l) ≡ (all p k && all p l) → (b && all p (k ++ l)) ≡ ((b && all p k) && all p l)
    go true e = e
    go false e = refl

not-both : (a b : Bool) → not (a && b) ≡ (not a || not b)
not-both true b = refl
not-both false b = refl

or-or : (a b c : Bool) → ((a || b) || c) ≡ (a || (b || c))
or-or true b c = refl
or-or false b c = refl

or-none : (a : Bool) → (a || false) ≡ a
or-none true = refl
or-none false = refl

-- some that are kept, and what is counted behind them
count-more : (n : ℕ) (late : Bool) (k : List Event) (r : Whole Event)
    → counting (n + length k) (late || not (all timely k)) (outlined r) ≡ counting n late (outlined (record { code = r.code; kept = k ++ r.kept }))
unfolding outlined
count-more n late k r =
    ap₂ (λ (m : ℕ) (l : Bool). record { code = r.code; kept = m; late = l })
    (let e = length-append k r.kept in omega arith)
    (or-or late (not (all timely k)) (not (all timely r.kept)) ∙ ap (λ (b : Bool). late || b) (sym (ap not (all_both timely k r.kept) ∙ not-both (all timely k) (all timely r.kept))))

-- nothing was counted before the start
count_none : (o : Outline) → counting 0 false o ≡ o
count_none o = ap (λ (n : ℕ). record { code = o.code; kept = n; late = o.late }) (omega arith)

-- nothing is kept of an end
count-last : (n : ℕ) (late : Bool) (code : ℕ) → ◌≡◌ {A = Outline} (record { code = code; kept = n; late = late }) (counting n late (outlined (record { code = code; kept = [] })))
unfolding outlined all
count-last n late code = ap₂ (λ (m : ℕ) (l : Bool). record { code = code; kept = m; late = l }) (omega arith) (sym (or-none late))

-- one event is kept or none, as is said of it
pub counts-as : (t : ℕ) (f : Found) {k m : Bool} → k ≡ m → Counts t f m → Counts t f k
counts-as t f e h = h ∙ ap (λ (x : Bool). cond x 1 0) (sym e)

-- ---- where a pass stands
abbrev pub begun : Cursor
begun = record { at = 0; status = 0; time = 0; kept = 0; late = false }

module _ (s : List ℕ) where
  pub record Place (c : Cursor) : Type 0 where
    pub within : c.at ≤ length s
    pub timed : c.time ≤ quantity_top * c.at
    pub few : c.kept ≤ c.at

  -- what is left there
  abbrev pub left_at : Cursor → Whole Event
  left_at c = rest_of c.status c.time (drop c.at s)

  pub place-begun : Place begun
  place-begun = record { within = omega arith; timed = omega arith; few = omega arith }

  module _ (c : Cursor) (f : Found) (p : Place c) (e : tells c.time f ≡ seen_in kept_in c.status c.time (drop c.at s)) where
    abbrev next : Cursor
    next = moved c (tells c.time f)

    -- at an event
    module _ (z : f.code ≡ 0) where
      is-event : (seen_in kept_in c.status c.time (drop c.at s)).code ≡ 0
      unfolding tells
      is-event = ap (λ (r : Seen Event). r.code) (sym e) ∙ z

      -- its bytes are there
      pub uses : (0 < f.used) × (c.at + f.used ≤ length s)
      unfolding tells
      uses =
          let w = seen-within kept_in c.status c.time (drop c.at s) is-event in
          let u : f.used ≡ (seen_in kept_in c.status c.time (drop c.at s)).used = ap (λ (r : Seen Event). r.used) e in
          let d = length-drop c.at s in
          let i = p.within in
          (omega (arith, u, w.0), omega (arith, u, w.1, d))

      pub place-on : f.gap < quantity_top → Place next
      unfolding tells
      place-on g =
          let u = uses in
          let t = p.timed in
          let k = p.few in
          let n = found-few c.time f in
          record { within = u.1; timed = omega arith; few = omega (arith, u.0, n, k) }

      -- no number overflows
      pub room-on : length s < length_top → f.gap < quantity_top
          → (c.at + f.used < 18446744073709551616) × ((c.time + f.gap < 9223372036854775808) × (c.kept + 1 < 18446744073709551616))
      room-on h g =
          let few : length s < 4294967296 = h in
          let u = uses in
          let t = p.timed in
          let k = p.few in
          (omega arith, (omega arith, omega arith))

      pub shorter : length s - (c.at + f.used) < length s - c.at
      shorter = let u = uses in omega arith

      -- what was left is what is kept of it, and what is left behind it
      pub left-on : left_at c ≡ record { code = (left_at next).code; kept = (tells c.time f).kept ++ (left_at next).kept }
      unfolding tells
      left-on =
          let there = drop-drop f.used c.at s in
          rest_goes kept_in c.status c.time (drop c.at s) is-event ∙ rw (← e, there)

      pub outline-on : counting next.kept next.late (outlined (left_at next)) ≡ counting c.kept c.late (outlined (left_at c))
      outline-on =
          count-more c.kept c.late (tells c.time f).kept (left_at next) ∙ ap (λ (w : Whole Event). counting c.kept c.late (outlined w)) (sym left-on)

    -- at the end of track, or a fault
    module _ (z : f.code ≡ 0 → ⊥) where
      pub left-ends : left_at c ≡ record { code = cond (eqb f.code 1) 0 f.code; kept = [] }
      unfolding tells
      left-ends =
          rest-ends kept_in c.status c.time (drop c.at s) (λ (h : (seen_in kept_in c.status c.time (drop c.at s)).code ≡ 0). z (ap (λ (r : Seen Event). r.code) e ∙ h))
          ∙ rw (← e)

      pub outline-ends : ◌≡◌ {A = Outline} (record { code = cond (eqb f.code 1) 0 f.code; kept = c.kept; late = c.late }) (counting c.kept c.late (outlined (left_at c)))
      outline-ends =
          count-last c.kept c.late (cond (eqb f.code 1) 0 f.code) ∙ ap (λ (w : Whole Event). counting c.kept c.late (outlined w)) (sym left-ends)

  pub outline-begun : counting 0 false (outlined (left_at begun)) ≡ outlined (read_body kept_in s)
  outline-begun = count_none (outlined (left_at begun))

-- ---- putting
-- what is left fits behind what was put, and laid there makes the list that is promised
pub record Fills (s : List ℕ) (l : List Event) (c : Cursor) (now : List Event) : Type 0 where
  pub place : Place s c
  pub room : c.kept + length (left_at s c).kept ≤ length now
  pub same : laid c.kept (left_at s c).kept now ≡ laid 0 (read_body kept_in s).kept l

pub fills-begun : (s : List ℕ) (l : List Event) → length (read_body kept_in s).kept ≤ length l → Fills s l begun l
fills-begun s l h = record { place = place-begun s; room = omega arith; same = refl }

module _ (s : List ℕ) (l : List Event) (c : Cursor) (now : List Event) (v : Fills s l c now) (f : Found)
    (e : tells c.time f ≡ seen_in kept_in c.status c.time (drop c.at s)) where
  module _ (z : f.code ≡ 0) where
    -- what is kept of an event has room
    pub fills-room : c.kept + length (tells c.time f).kept ≤ length now
    fills-room =
        let k = (tells c.time f).kept in
        let m = ap (λ (w : Whole Event). length w.kept) (left-on s c f v.place e z) in
        let a = length-append k (left_at s (moved c (tells c.time f))).kept in
        let r = v.room in
        omega arith

    pub fills-on : (x : List Event) → f.gap < quantity_top → x ≡ laid c.kept (tells c.time f).kept now → Fills s l (moved c (tells c.time f)) x
    fills-on x g h =
        let k = (tells c.time f).kept in
        let rest = (left_at s (moved c (tells c.time f))).kept in
        let on = ap (λ (w : Whole Event). w.kept) (left-on s c f v.place e z) in
        let m = ap length on in
        let a = length-append k rest in
        let r = v.room in
        let long = ap length h ∙ laid-long c.kept k now fills-room in
        record {
          place = place-on s c f v.place e z g;
          room = omega arith;
          same = ap (laid (c.kept + length k) rest) h ∙ laid-behind c.kept k rest now (omega arith) ∙ ap (λ (es : List Event). laid c.kept es now) (sym on) ∙ v.same;
        }

  pub fills-ends : (f.code ≡ 0 → ⊥) → now ≡ laid 0 (read_body kept_in s).kept l
  fills-ends z =
      laid_none c.kept now ∙ ap (λ (w : Whole Event). laid c.kept w.kept now) (sym (left-ends s c f v.place e z)) ∙ v.same

-- ---- the list afterwards
module _ {A : Type 0} (z : A) (n : ℕ) (es l : List A) where
  -- what is laid at the front, and what stands behind it
  laid-front : laid 0 es l ≡ es ++ drop (length es) l
  unfolding laid
  laid-front = let e : 0 + length es ≡ length es = omega arith in rw e

  -- where what counted reached no further, nothing falls vacant
  pub none-vacant : n ≤ length es → laid 0 es l ≡ put_first z n es l
  none-vacant h =
      let none : n - length es ≡ 0 = omega arith in
      let most : max n (length es) ≡ length es = omega arith in
      laid-front ∙ rw (none, most)

  -- and where it did, what falls vacant is cleared
  pub cleared-behind : length es ≤ n → put_first z n (take (length es) (laid 0 es l)) (laid 0 es l) ≡ put_first z n es l
  cleared-behind h =
      let m = max n (length es) in
      let k : length es + (m - length es) ≡ m = omega arith in
      let past : drop m (laid 0 es l) ≡ drop m l =
      ap₂ drop (sym k) laid-front ∙ drop-append-add es (drop (length es) l) (m - length es) ∙ drop-drop (m - length es) (length es) l ∙ ap (λ (i : ℕ). drop i l) k in
      let front : take (length es) (laid 0 es l) ≡ es = ap (take (length es)) laid-front ∙ take-append_seam es (drop (length es) l) in
      rw (front, past)
