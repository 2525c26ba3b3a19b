-- The two passes over a list of events, told by what is left of it.
--     Next, next_of                                           the event that is met behind i of them
--     WeighedTo, weigh-begun, -passed, -failed, -ended        the pass that tests and counts
--     tally_at, well-passed                                    the same of a pass that met only events that are well
--     PutTo, put-begun, -writable, -room, -passed             the pass that writes
--     put-tail, put_ended                                     and the end of track
use mathlib.Core.Path.{◌≡◌, refl, subst, ◌∙◌}
use mathlib.Core.Bool.{Bool, true, false, cond, ◌&&◌}
use mathlib.Core.List.{List, [], ◌∷◌}
use Prim.Native.Nat.{ℕ, ◌+◌, ◌*◌, ◌^◌, ◌≤◌, ◌<◌}
use native.Mathlib.Omega.{arith}
use native.Mathlib.Numerals.{add-one}
use lib.Dec.{lit<}
use lib.IntN.{ℤ, pos}
use lib.ListN.{length, take, drop, get_or, length-append, drop_of_length-le}
use lib.Seq.{drop-cons, get_or-take, length-take-le}
use Rattle.std.specs.Prelude.{Ok, Err}
use Rattle.laws.specs.Lists.{all}
use Rattle.numbers.specs.declared.refusals.Refusal.TheVariants.{OutOfRange, OutOfOrder, Unwritable}
use Rattle.laws.proofs.Bools.{and-on}
use Rattle.laws.proofs.Ranges.{sized-small}
use Rattle.laws.proofs.Tests.{Left, ended}
use Rattle.numbers.specs.Ranges.{is_event_time}
use Rattle.events.specs.declared.Event.{Event}
use Rattle.events.specs.Events.{zero_event, ok_event}
use Rattle.events.proofs.Stored.{storable}
use Rattle.quantities.specs.Quantities.{quantity_of}
use Rattle.text.specs.Laying.{laid}
use Rattle.text.proofs.Laying.{laid-behind, laid-long}
use Rattle.chunks.specs.declared.Pen.{Pen}
use Rattle.chunks.specs.declared.Tally.{Tally}
use Rattle.chunks.specs.Chunks.{written_after, body_from, body_of}
use Rattle.chunks.specs.Writing.{follows, gapped, fits}
use Rattle.chunks.specs.Steps.{tallied, weighed, well_after, Writable, Ready}
use Rattle.chunks.proofs.Leaves.{written-most}
use Rattle.chunks.proofs.Readiness.{first-writable, others}
use Rattle.chunks.proofs.Well.{well-follows, well-fits, well-stored}

-- ---- the event that is met behind i of them
abbrev pub Next : List Event → ℕ → Event → Type 0
Next es i e = drop i es ≡ e ∷ drop (i + 1) es

pub next_of : (n : ℕ) (l : List Event) (i : ℕ) (e : Event) → i < n → n ≤ length l → e ≡ get_or l i zero_event → Next (take n l) i e
next_of n l i e h m q =
    rw (q, add-one, ← get_or-take n l i zero_event h) (drop-cons (take n l) i zero_event (rw (length-take-le n l m) h))

zero-timed : is_event_time (pos 0) ≡ true
unfolding is_event_time
zero-timed = sized-small (2 ^ 42) (pos 0) (lit< tt)

-- ---- the bytes of a body
body-length : (t : ℤ) (e : Event) (es : List Event) → length (body_from t (e ∷ es)) ≡ length (written_after t e) + length (body_from e.time es)
unfolding body_from
body-length t e es = length-append (written_after t e) (body_from e.time es)

-- ---- the pass that tests and counts
joined : (a b c : Bool) → (a && (b && c)) ≡ (a && b && c)
joined true b c = refl
joined false b c = refl

-- i events of es make the tally t
pub record WeighedTo (store : ℕ) (es : List Event) (i : ℕ) (t : Tally) : Type 0 where
  pub timed : is_event_time t.last ≡ true
  pub few : t.bytes ≤ 7 * i
  pub stored : Left (ok_event store) es i
  pub gaps : gapped (pos 0) es ≡ (t.gaps && gapped t.last (drop i es))
  pub fields : all fits es ≡ (t.fields && all fits (drop i es))
  pub bytes : length (body_of es) ≡ t.bytes + length (body_from t.last (drop i es))

pub weigh-begun : (store : ℕ) (es : List Event) → WeighedTo store es 0 (record { last = pos 0; gaps = true; fields = true; bytes = 0 })
weigh-begun store es = record { timed = zero-timed; few = omega arith; stored = refl; gaps = refl; fields = refl; bytes = omega arith }

module _ {store : ℕ} {es : List Event} {i : ℕ} {t : Tally} (w : WeighedTo store es i t) where
  module _ {e : Event} (n : Next es i e) where
    pub weigh-failed : ok_event store e ≡ false → Err OutOfRange ≡ weighed store es
    unfolding weighed all
    weigh-failed bad = rw (w.stored, n, bad)

    pub weigh-passed : ok_event store e ≡ true → WeighedTo store es (i + 1) (tallied t e)
    unfolding all gapped
    weigh-passed ok =
        let m = written-most t.last e in
        let f = w.few in
        record {
          timed = (storable store e ok).time;
          few = omega arith;
          stored = w.stored ∙ rw (n, ok);
          gaps = w.gaps ∙ rw n (joined t.gaps (follows t.last e) (gapped e.time (drop (i + 1) es)));
          fields = w.fields ∙ rw n (joined t.fields (fits e) (all fits (drop (i + 1) es)));
          bytes = w.bytes ∙ rw n (omega (arith, body-length t.last e (drop (i + 1) es)));
        }

  pub weigh-ended : length es ≤ i → cond t.gaps (cond t.fields (Ok (t.bytes + 4)) (Err Unwritable)) (Err OutOfOrder) ≡ weighed store es
  unfolding weighed all gapped body_from quantity_of
  weigh-ended h =
      let none = drop_of_length-le es {i = i} h in
      rw (← ended (ok_event store) es i h w.stored, w.gaps, w.fields, w.bytes, none, and-on t.gaps, and-on t.fields)

-- a pass that met only events that are well: the pen stands where the tally counts
abbrev pub tally_at : Pen → Tally
tally_at p = record { last = p.time; gaps = true; fields = true; bytes = p.at }

pub well-passed : {store : ℕ} {es : List Event} {i : ℕ} {p : Pen} → WeighedTo store es i (tally_at p) → {e : Event} → Next es i e → well_after p.time e ≡ true
    → WeighedTo store es (i + 1) (tally_at (record { at = p.at + length (written_after p.time e); time = e.time }))
well-passed {store} {p = p} w {e} n h =
    rw (well-follows p.time e h, well-fits p.time e h) at (weigh-passed w n (well-stored p.time e h store))

-- ---- the pass that writes
-- what is written of the rest at p makes of o what all that is written at `at` makes of the output at entry
pub record PutTo (es : List Event) (at : ℕ) (entry : List ℕ) (i : ℕ) (p : Pen) (o : List ℕ) : Type 0 where
  pub timed : is_event_time p.time ≡ true
  pub ready : Ready p.time (drop i es)
  pub same : laid p.at (body_from p.time (drop i es)) o ≡ laid at (body_of es) entry
  pub place : p.at + length (body_from p.time (drop i es)) ≡ at + length (body_of es)
  pub long : length o ≡ length entry

pub put-begun : (es : List Event) (at : ℕ) (entry : List ℕ) → Ready (pos 0) es → PutTo es at entry 0 (record { at = at; time = pos 0 }) entry
put-begun es at entry r = record { timed = zero-timed; ready = r; same = refl; place = refl; long = refl }

module _ {es : List Event} {at : ℕ} {entry : List ℕ} {i : ℕ} {p : Pen} {o : List ℕ} (v : PutTo es at entry i p o) (room : at + length (body_of es) ≤ length entry) where
  module _ {e : Event} (n : Next es i e) where
    abbrev rest : List Event
    rest = drop (i + 1) es

    met : Ready p.time (e ∷ rest)
    met = subst (Ready p.time) n v.ready

    place-left : p.at + length (written_after p.time e) + length (body_from e.time rest) ≡ at + length (body_of es)
    place-left = let k = rw n at v.place in omega (arith, body-length p.time e rest)

    pub put-writable : Writable p.time e
    put-writable = first-writable p.time e rest met v.timed

    pub put-room : p.at + length (written_after p.time e) ≤ length o
    put-room = omega (arith, place-left, v.long)

    pub put-passed : PutTo es at entry (i + 1) (record { at = p.at + length (written_after p.time e); time = e.time }) (laid p.at (written_after p.time e) o)
    unfolding body_from
    put-passed =
        let r = put-room in
        record {
          timed = put-writable.time;
          ready = others p.time e rest met;
          same = laid-behind p.at (written_after p.time e) (body_from e.time rest) o (omega arith) ∙ rw n at v.same;
          place = place-left;
          long = laid-long p.at (written_after p.time e) o r ∙ v.long;
        }

  module _ (h : length es ≤ i) where
    none : drop i es ≡ []
    none = drop_of_length-le es {i = i} h

    pub put-tail : p.at + 4 ≤ length o
    unfolding body_from quantity_of
    put-tail = let k = rw none at v.place in omega (arith, v.long)

    pub put_ended : {w : List ℕ} {r : ℕ} → w ≡ laid p.at (0 ∷ 255 ∷ 47 ∷ 0 ∷ []) o → r ≡ p.at + 4
        → (w ≡ laid at (body_of es) entry) × (r ≡ at + length (body_of es))
    unfolding body_from quantity_of
    put_ended q s = (q ∙ rw none at v.same, s ∙ rw none at v.place)
