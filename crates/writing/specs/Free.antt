-- What a write adds where nothing is short and random is off: a function of the write and its pieces alone.
use Rattle.std.specs.Prelude.{false, List, pos}
use Rattle.events.specs.declared.Event.{Event}
use Rattle.values.specs.declared.Write.{Write}
use Rattle.offers.specs.declared.Piece.{Piece}
use Rattle.offers.specs.Rules.{rule_of, fresh, joined, become}
use Rattle.offers.specs.Pieces.{offers, total}

unfoldable pub freely : Write → List Piece → List Event
freely w ts = joined (become (rule_of w) (fresh false false (pos 0) (offers w.freq ts (total ts) 0)) 0)
