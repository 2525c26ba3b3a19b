-- By the origin: a wave's run is the loop over its source, a sine's the one piece; what either leaves is told of the same offers.
use mathlib.Core.Path.{◌≡◌, sym, ap, ◌∙◌, subst}
use mathlib.Core.List.{List}
use Prim.Native.Nat.{ℕ, ◌+◌, ◌<◌, ◌^◌}
use lib.ListN.{length}
use Rattle.eventlist.specs.Rows.{rows_of}
use Rattle.values.specs.declared.Offer.{Offer}
use Rattle.offers.specs.declared.Piece.{Piece}
use Rattle.offers.specs.declared.Walk.{Walk}
use Rattle.offers.specs.Rules.{Rule, rule_of}
use Rattle.offers.specs.Walks.{emitted, Wrote}
use Rattle.offers.specs.Pieces.{points_of, offers}
use Rattle.offers.specs.Waves.{triples}
use Rattle.offers.specs.Sources.{rest_of}
use Rattle.writing.specs.Origins.{pieces_of}
use Rattle.writing.proofs.Origins.{wave-pieces, sine-offers}
use Rattle.writing.proofs.run_origin.Goals.{In-Wave, After-min}
use Rattle.writing.proofs.run_origin.Goals as goal

-- what is counted of the offers of the case is counted of those of the origin
counts : (r : Rule) (from : Walk) (count : ℕ) {ps os : List Offer} → ps ≡ os → count + length (emitted r from ps) < 2 ^ 64 → count + length (emitted r from os) < 2 ^ 64
counts r from count e h = subst (λ (os : List Offer). count + length (emitted r from os) < 2 ^ 64) e h

wave-all : (c : In-Wave) → offers c.args.w.freq (pieces_of (triples c.args.numbers.now) c.args.origin) c.args.limit 0 ≡ offers c.args.w.freq (rest_of (triples c.args.numbers.now) c.in-Wave.source) c.args.limit 0
wave-all c = ap (λ (ts : List Piece). offers c.args.w.freq ts c.args.limit 0) (wave-pieces (triples c.args.numbers.now) c.in-Wave.is)

sine-all : (c : After-min) → offers c.args.w.freq (pieces_of (triples c.args.numbers.now) c.args.origin) c.args.limit 0 ≡ points_of c.args.w.freq 0 c.in-Sine.t c.min.result
sine-all c =
    sine-offers (triples c.args.numbers.now) c.args.w.freq c.args.limit c.in-Sine.is ∙ sym (ap (points_of c.args.w.freq 0 c.in-Sine.t) c.min.ensures)

pub run_source-requires-clause-counted : goal.run_source-requires-clause-counted
run_source-requires-clause-counted c =
    counts (rule_of c.args.w) c.args.from c.args.count (wave-all (goal.at.run_source-requires-clause-counted c).In-Wave) c.requires.counted

pub run_piece-requires-clause-counted : goal.run_piece-requires-clause-counted
run_piece-requires-clause-counted c =
    counts (rule_of c.args.w) c.args.from c.args.count (sine-all (goal.at.run_piece-requires-clause-counted c).After-min) c.requires.counted

pub returns-in-Wave : goal.returns-in-Wave
returns-in-Wave c =
    subst (λ (os : List Offer). Wrote (rule_of c.args.w) c.args.from c.args.count (rows_of c.args.events.now) os c.run_source.result.walk c.run_source.result.count (rows_of c.run_source.new.events))
    (sym (wave-all (goal.at.returns-in-Wave c).In-Wave)) c.run_source.ensures

pub returns-in-Sine : goal.returns-in-Sine
returns-in-Sine c =
    subst (λ (os : List Offer). Wrote (rule_of c.args.w) c.args.from c.args.count (rows_of c.args.events.now) os c.run_piece.result.walk c.run_piece.result.count (rows_of c.run_piece.new.events))
    (sym (sine-all (goal.at.returns-in-Sine c).After-min)) c.run_piece.ensures
