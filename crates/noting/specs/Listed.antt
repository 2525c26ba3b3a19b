-- What `write_cc_on_note` answers by what it says of everything but the track, whose lists alone it changes.
use Rattle.std.specs.Prelude.{ℕ, Result, Ok, Err}
use Rattle.numbers.specs.declared.refusals.Refusal.{Refusal}
use Rattle.numbers.specs.Refusals.{number_of}
use Rattle.budget.specs.declared.Budget.{Budget}
use Rattle.state.specs.declared.Track.{Track}
use Rattle.noting.specs.declared.Noted.{Noted}
use Rattle.noting.specs.declared.Listed.{Listed}
use Rattle.noting.specs.Calls.{with_notes, answer}

abbrev pub noted_by : Track → Budget → ℕ → Result Listed Refusal → Noted
noted_by a b count (Ok l) = answer 0 l.count l.budget (with_notes a l.notes)
noted_by a b count (Err r) = answer (number_of r) count b a
