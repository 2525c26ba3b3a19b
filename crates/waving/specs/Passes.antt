-- The same in passes, as the code goes: the windows of all that are written are taken out first, then their events are added.
-- proofs/Parting says that this leaves the same, since no target has two reservations.
use Rattle.std.specs.Prelude.{◌≡◌, true, cond, List, [], ◌∷◌, ◌++◌, ℕ, ◌*◌, ◌≤◌, eqb, length, take}
use Rattle.laws.specs.Lists.{without}
use Rattle.numbers.specs.Limits.{list_limit, places}
use Rattle.budget.specs.declared.Budget.{Budget}
use Rattle.counted.specs.Numbers.{shown}
use Rattle.events.specs.declared.Event.{Event}
use Rattle.eventlist.specs.declared.Window.{Window}
use Rattle.eventlist.specs.Windows.{taken_by}
use Rattle.values.specs.Value.{Ready}
use Rattle.offers.specs.declared.Piece.{Piece}
use Rattle.offers.specs.Rules.{flagged}
use Rattle.offers.specs.Pieces.{total}
use Rattle.offers.specs.Waves.{triples}
use Rattle.writing.specs.declared.Outcome.{Outcome}
use Rattle.writing.specs.Calls.{window_of, new_events_for}
use Rattle.writing.specs.Origins.{pieces_of}
use Rattle.writing.specs.Figures.{budget_for, Shaped}
use Rattle.state.specs.declared.Track.{Track}
use Rattle.state.specs.Tests.{ok_track}
use Rattle.waving.specs.declared.Draft.{Draft}
use Rattle.waving.specs.declared.Plan.{Plan}
use Rattle.waving.specs.Drawings.{Drawing}
use Rattle.waving.specs.Calls.{leaves}

abbrev pub window_at : Drawing → Budget → Window
window_at d b = window_of d.write (total (d.pieces b))

abbrev pub news_of : Drawing → Budget → List Event
news_of d b = new_events_for d.write b (d.pieces b)

-- the windows of those that are written, the events that they add, and the budget after them
pub record Passes : Type 0 where
  pub windows : List Window
  pub news : List Event
  pub budget : Budget

abbrev pub no_pass : Budget → Passes
no_pass b = record { windows = []; news = []; budget = b }

abbrev pub pass_first : Drawing → Budget → Passes → Passes
pass_first d b p = record { windows = window_at d b ∷ p.windows; news = news_of d b ++ p.news; budget = p.budget }

unfoldable pub passes : List Drawing → Budget → Passes
passes [] b = no_pass b
passes (d ∷ ds) b = cond (eqb b.over 0) (pass_first d b (passes ds (leaves d b))) (no_pass b)

-- what no window takes
unfoldable pub without_all : List Window → List Event → List Event
without_all [] es = es
without_all (w ∷ ws) es = without_all ws (without (taken_by w) es)

-- ---- what the code's own records say
-- a track that passes its test, with tables of sixteen
pub record Held (a : Track) : Type 0 where
  pub passed : ok_track a ≡ true
  pub waves : length a.waves.items ≡ places
  pub sines : length a.sines.items ≡ places

-- a draft that may be written: its pieces, the events that it adds, the budget that it leaves
pub record Drawable (r : Draft) : Type 0 where
  pub ready : Ready r.write
  pub shaped : Shaped r.figure (triples (shown r.numbers))
  pub few : r.numbers.count ≤ list_limit

abbrev pub pieces_in : Draft → List Piece
pieces_in r = pieces_of (triples (shown r.numbers)) r.figure.origin

abbrev pub events_in : Draft → Budget → List Event
events_in r b = new_events_for r.write b (pieces_in r)

abbrev pub budget_of : Draft → Budget → Budget
budget_of r b = flagged (budget_for r.write b (pieces_in r)) r.figure.cut

-- it is a drawing under a budget
pub record Drafts (r : Draft) (d : Drawing) (b : Budget) : Type 0 where
  pub able : Drawable r
  pub write : r.write ≡ d.write
  pub pieces : pieces_in r ≡ d.pieces b
  pub cut : r.figure.cut ≡ d.cut b

-- sixteen waves and sixteen sines
abbrev pub figure_limit : ℕ
figure_limit = 2 * places

-- a plan has the windows, and counts the events
pub record Plans (r : Plan) (p : Passes) : Type 0 where
  pub few : r.count ≤ figure_limit
  pub long : length r.windows ≡ figure_limit
  pub windows : take r.count r.windows ≡ p.windows
  pub added : r.added ≡ length p.news

-- an event may not be stored: nothing is written
abbrev pub unstored : ℕ → Budget → Outcome
unstored count b = record { code = 4; count = count; budget = b }
