-- of the records passed those of other targets stand in front, and what is left behind them is cleared (laws, Taking)
use Rattle.std.proofs.Common.{rules, ◌≡◌, refl, sym, ap, ◌∙◌, eqb, true, false, ℕ, get_or, arith}
use borrow.Author.Tests.{eq-eqb, ne_eqb}
use Rattle.laws.proofs.Taking.{clear_none}
use Rattle.tables.specs.Sixteen.{keyed}
use Rattle.tables.proofs.Closing.{few, drop-one, keep_one, finished, clear-one, all-clear}
use Rattle.tables.proofs.take_out.Goals as goal

module _ {A : Type 0} (f : A → ℕ) (k : ℕ) where
  -- what the test of a key says of the record
  pub other : (e : A) (r : ℕ) → r ≡ f e → ¬ (r ≡ k) → false ≡ keyed f k e
  unfolding keyed
  other e r h n = sym (ap (λ x. eqb x k) (sym h) ∙ ne_eqb r k n)

  pub own : (e : A) (r : ℕ) → r ≡ f e → r ≡ k → true ≡ keyed f k e
  unfolding keyed
  own e r h q = sym (ap (λ x. eqb x k) (sym h) ∙ eq-eqb r k q)

pub loop-i-init : goal.loop-i-init
loop-i-init g c = record { within = omega arith; long = refl; counted = refl; sofar = refl }

pub loop-i-preserved-then-key-k : goal.loop-i-preserved-then-key-k
loop-i-preserved-then-key-k g c =
    let f = g.T.Reservation.key in
    let v = c.loop-i in
    let e = own f c.args.k (get_or v.items v.i c.index-items-i.result) c.key.result c.key.ensures c.if-key-k.true in
    drop-one g.T.Reservation.blank (keyed f c.args.k) c.args.items.now v.items c.args.count v.i v.n v.invariant (search rules) (search rules) c.index-items-i.result true e refl

pub listed-in-loop-i : goal.listed-in-loop-i
listed-in-loop-i g c =
    let v = c.loop-i in
    let h = few g.T.Reservation.blank (keyed g.T.Reservation.key c.args.k) c.args.items.now v.items c.args.count v.i v.n v.invariant (search rules) in
    search (rules, h)

pub bounds-items-n : goal.bounds-items-n
bounds-items-n g c =
    let v = c.loop-i in
    let h = few g.T.Reservation.blank (keyed g.T.Reservation.key c.args.k) c.args.items.now v.items c.args.count v.i v.n v.invariant (search rules) in
    search (rules, h)

pub loop-i-preserved : goal.loop-i-preserved
loop-i-preserved g c =
    let f = g.T.Reservation.key in
    let v = c.loop-i in
    let e = other f c.args.k (get_or v.items v.i c.index-items-i.result) c.key.result c.key.ensures c.if-key-k.false in
    keep_one g.T.Reservation.blank (keyed f c.args.k) c.args.items.now v.items c.args.count v.i v.n v.invariant (search rules) (search rules) c.index-items-i.result false e refl

pub loop-j-init : goal.loop-j-init
loop-j-init g c =
    let v = c.loop-i in
    let h = few g.T.Reservation.blank (keyed g.T.Reservation.key c.args.k) c.args.items.now v.items c.args.count v.i v.n v.invariant (search rules) in
    clear_none (λ x. x) g.T.Reservation.blank v.items c.args.count v.n (search (rules, h)) (search rules)

pub loop-j-preserved : goal.loop-j-preserved
loop-j-preserved g c =
    clear-one g.T.Reservation.blank c.loop-i.items c.loop-j.items c.args.count c.loop-i.n c.loop-j.j c.loop-j.invariant (search rules) (search rules)
    c.blank.result c.blank.ensures

pub returns : goal.returns
returns g c =
    let z = g.T.Reservation.blank in
    let out = keyed g.T.Reservation.key c.args.k in
    let v = c.loop-i in
    let f = finished z out c.args.items.now v.items c.args.count v.i v.n v.invariant (search rules) (search rules) in
    record {
      left = f.0;
      items =
          all-clear z v.items c.loop-j.items c.args.count v.n c.loop-j.j c.loop-j.invariant (search rules) (search rules)
          ∙ f.1;
    }
