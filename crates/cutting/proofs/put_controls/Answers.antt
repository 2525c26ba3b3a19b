-- `put_controls` meets its contract: what is left to be put, put, would make the list that is asked for (`Putting`).
use mathlib.Core.Path.{◌≡◌, sym, ap, ◌∙◌}
use mathlib.Core.Bool.{false}
use mathlib.Core.List.{List, [], ◌∷◌}
use Prim.Native.Nat.{ℕ, ◌+◌, ◌-◌, ◌<◌, ◌≤◌}
use native.Mathlib.Omega.{arith}
use lib.IntN.{ℤ, pos}
use lib.ListN.{length, get_or}
use lib.Signed.{lt_z}
use mir.Syntax.{w64}
use mir.Val.{SFits, to_z, of_z}
use mir.Facts.{to_z-of_z}
use Rattle.laws.proofs.Fitting.{fit, back}
use Rattle.laws.proofs.Signed.{lt-back-l}
use Rattle.laws.proofs.Following.{more-none, more-then}
use Rattle.events.specs.declared.Event.{Event}
use Rattle.events.specs.Events.{cc_event, zero_event}
use Rattle.eventlist.specs.Rows.{rows_of}
use Rattle.eventlist.proofs.EventRows.{same_rows}
use Rattle.cutting.specs.declared.Last.{Last}
use Rattle.cutting.specs.Cuts.{controllers, controls_from}
use Rattle.cutting.specs.Passes.{with_more, controls_in}
use Rattle.cutting.proofs.Putting.{Putting, controls-skip, controls-take, controls-none}
use Rattle.cutting.proofs.put_controls.Goals as goal

abbrev value : List ℤ → ℕ → ℤ
value table j = get_or table j (pos 0)

-- the controllers that are left from k on
abbrev rest : List ℤ → Last → ℕ → List Event
rest table last k = controls_from (value table) last.channel (controllers - k) k

-- controller k is set
abbrev first : List ℤ → Last → ℕ → Event
first table last k = cc_event (pos 0) last.channel (pos k) (value table k)

module _ {l₀ : List ℤ} {count : ℕ} {table : List ℤ} {last : Last} {l : List ℤ} {n k : ℕ} (v : Putting l₀ count table last l n k) (h : k < controllers)
    (f : SFits w64 (value table k)) (up : lt_z (to_z w64 (of_z w64 (value table k))) (pos 0) ≡ false) where
  next : rest table last k ≡ first table last k ∷ rest table last (k + 1)
  next = controls-take (value table) last.channel k h (lt-back-l (pos 0) f up)

  room : count + length (controls_in table last) ≤ length (rows_of l₀) → n < length (rows_of l)
  room p =
      let q = ap length next in
      let r = same_rows l l₀ v.long in
      let i = v.counted in
      omega arith

pub loop-k-preserved-then-v-lt0 : goal.loop-k-preserved-then-v-lt0
loop-k-preserved-then-v-lt0 c =
    let q =
    controls-skip (value c.args.values.now) c.args.last.channel c.loop-k.k (omega arith)
    (lt-back-l (pos 0) (fit w64 (value c.args.values.now c.loop-k.k) (omega arith)) c.if-v-lt0.true) in
    record {
      within = omega arith;
      long = c.loop-k.invariant.long;
      counted = ap (λ (x : List Event). c.loop-k.n + length x) (sym q) ∙ c.loop-k.invariant.counted;
      ahead = ap (λ (x : List Event). with_more c.loop-k.events c.loop-k.n x) (sym q) ∙ c.loop-k.invariant.ahead;
    }

pub append-n-requires : goal.append-n-requires
append-n-requires c =
    room c.loop-k.invariant (omega arith) (fit w64 (value c.args.values.now c.loop-k.k) (omega arith)) c.if-v-lt0.false c.requires

pub loop-k-preserved : goal.loop-k-preserved
loop-k-preserved c =
    let k = c.loop-k.k in
    let table = c.args.values.now in
    let last = c.args.last in
    let f = fit w64 (value table k) (omega arith) in
    let t = next c.loop-k.invariant (omega arith) f c.if-v-lt0.false in
    let r = room c.loop-k.invariant (omega arith) f c.if-v-lt0.false c.requires in
    let small : SFits w64 (pos k) = omega arith in
    let e : c.cc_event.result ≡ first table last k =
    rw (back w64 last.channel (omega arith), to_z-of_z small, to_z-of_z f) at c.cc_event.ensures in
    let put : rows_of c.append-n.new.events ≡ with_more c.loop-k.events c.loop-k.n (first table last k ∷ []) =
    c.append-n.ensures.1 ∙ ap (λ (x : Event). with_more c.loop-k.events c.loop-k.n (x ∷ [])) e in
    let q = ap length t in
    let i = c.loop-k.invariant.counted in
    let m = c.append-n.ensures.0 in
    record {
      within = omega arith;
      long = c.append-n.auto.events ∙ c.loop-k.invariant.long;
      counted = omega arith;
      ahead =
          rw c.append-n.ensures.0
          (more-then zero_event (rows_of c.loop-k.events) (rows_of c.append-n.new.events) (first table last k ∷ []) (rest table last (k + 1)) c.loop-k.n (omega arith) put
          ∙ ap (λ (x : List Event). with_more c.loop-k.events c.loop-k.n x) (sym t)
          ∙ c.loop-k.invariant.ahead);
    }

pub returns : goal.returns
returns c =
    let none = controls-none (value c.args.values.now) c.args.last.channel c.loop-k.k (omega arith) in
    let z = ap length none in
    let i = c.loop-k.invariant.counted in
    let h = c.requires in
    let r = same_rows c.loop-k.events c.args.events.now c.loop-k.invariant.long in (
      omega arith,
      more-none zero_event (rows_of c.loop-k.events) c.loop-k.n (omega arith)
          ∙ ap (λ (x : List Event). with_more c.loop-k.events c.loop-k.n x) (sym none)
          ∙ c.loop-k.invariant.ahead,
    )
