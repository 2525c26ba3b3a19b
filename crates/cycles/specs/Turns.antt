-- 01, "One value": what a due write becomes, and what one record's share of a call leaves.
use Rattle.std.specs.Prelude.{cond, Some, None, List, [], ◌++◌, ℕ, min, ℤ, length, get_or, take, drop}
use Rattle.budget.specs.declared.Budget.{Budget}
use Rattle.events.specs.declared.Event.{Event}
use Rattle.values.specs.declared.WriteOption.{WriteOption}
use Rattle.values.specs.declared.Write.{Write}
use Rattle.values.specs.declared.Offer.{Offer}
use Rattle.values.specs.Options.{new_option}
use Rattle.values.specs.Value.{event_of_offer, next_seed, wrote_of}
use Rattle.cycles.specs.declared.Cycle.{Cycle}
use Rattle.cycles.specs.declared.Ask.{Ask}
use Rattle.cycles.specs.declared.Stepped.{Stepped}
use Rattle.cycles.specs.declared.Ran.{Ran}
use Rattle.cycles.specs.declared.Round.{Round}
use Rattle.cycles.specs.declared.Called.{Called}
use Rattle.cycles.specs.Due.{DueWrite, write_of, advanced, run, after, due_count, key}
use Rattle.cycles.specs.Calls.{State, Turn, push_all, call}

-- a due write as one value: at its own time, with its target's option
abbrev pub asked : WriteOption → ℤ → DueWrite → Write
asked option channel w = record { target = w.target; channel = channel; time = w.time; freq = 1; option = option }

abbrev pub offered : DueWrite → Offer
offered w = record { step = 0; value = w.value }

unfoldable pub turn : (ℤ → WriteOption) → ℤ → Turn Event
turn option channel w y =
    let a = asked (option w.target) channel w in
    (event_of_offer a (offered w) (next_seed a y), next_seed a y)

-- a target's option; both bends share one
abbrev pub option_of : List WriteOption → ℤ → WriteOption
option_of options t = get_or options (key t) new_option

-- a record asks for no other target's option
abbrev pub turn_of : Ask → Turn Event
turn_of ask = turn (λ (t : ℤ). ask.option) ask.channel

-- one write: the record advances, whether it fits or not
unfoldable pub step_of : Cycle → Ask → Budget → Stepped
step_of c ask b =
    let w = wrote_of (asked ask.option ask.channel (write_of c)) b (offered (write_of c)) in
    record { cycle = advanced c; budget = w.budget; event = cond w.fits (Some w.event) None }

-- how many writes a record makes of at most `most`, and what they leave of a budget and a list
abbrev pub made : Ask → ℕ → Cycle → ℕ
made ask most c = min most (due_count ask.until c)

unfoldable pub ran_state : Ask → ℕ → Cycle → Budget → List Event → State Event
ran_state ask k c b es = push_all (turn_of ask) (run k c) (record { table = []; budget = b; events = es })

unfoldable pub ran_of : Ask → ℕ → Cycle → Budget → List Event → Ran
ran_of ask k c b es =
    let s = ran_state ask k c b es in
    record { cycle = after k c; made = k; budget = s.budget; count = length s.events }

-- ---- a call over the used records of a table
abbrev pub ask_for : Round → ℤ → Ask
ask_for round t = record { until = round.until; channel = round.channel; option = option_of round.options t }

unfoldable pub called_state : Round → List Cycle → Budget → List Event → State Event
called_state round tab b es =
    call (turn (option_of round.options) round.channel) round.until (record { table = tab; budget = b; events = es })

-- the places past those used stay
unfoldable pub called_of : Round → ℕ → List Cycle → Budget → List Event → Called
called_of round used table b es =
    let s = called_state round (take used table) b es in
    record { table = s.table ++ drop used table; budget = s.budget; count = length s.events }
