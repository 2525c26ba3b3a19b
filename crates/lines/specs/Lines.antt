-- 01, "The tape program": what is printed, as one text in ASCII.
use Rattle.std.specs.Prelude.{Bool, cond, ◌&&◌, List, [], ◌∷◌, ◌++◌, ℕ, ◌+◌, ◌*◌, eqb, leb, ℤ, length}
use Rattle.laws.specs.Rows.{flat}
use Rattle.text.specs.Decimals.{decimal, number_text}
use Rattle.budget.specs.declared.Budget.{Budget}
use Rattle.events.specs.declared.Event.{Event}
use Rattle.eventlist.specs.Rows.{rows_of, events_of}
use Rattle.reel.specs.Limits.{event_room}
use Rattle.lines.specs.declared.Ending.{Ending}

-- "events ", " bytes ", " over ", " seed "; "refused ", " at "
abbrev pub events_word : List ℕ
events_word = 101 ∷ 118 ∷ 101 ∷ 110 ∷ 116 ∷ 115 ∷ 32 ∷ []

abbrev pub bytes_word : List ℕ
bytes_word = 32 ∷ 98 ∷ 121 ∷ 116 ∷ 101 ∷ 115 ∷ 32 ∷ []

abbrev pub over_word : List ℕ
over_word = 32 ∷ 111 ∷ 118 ∷ 101 ∷ 114 ∷ 32 ∷ []

abbrev pub seed_word : List ℕ
seed_word = 32 ∷ 115 ∷ 101 ∷ 101 ∷ 100 ∷ 32 ∷ []

abbrev pub refused_word : List ℕ
refused_word = 114 ∷ 101 ∷ 102 ∷ 117 ∷ 115 ∷ 101 ∷ 100 ∷ 32 ∷ []

abbrev pub at_word : List ℕ
at_word = 32 ∷ 97 ∷ 116 ∷ 32 ∷ []

abbrev pub newline : List ℕ
newline = 10 ∷ []

-- a word and a number, twice
unfoldable pub pair_text : List ℕ → ℕ → List ℕ → ℕ → List ℕ
pair_text v m w n = (v ++ decimal m) ++ (w ++ decimal n)

-- "Line one: count of events, bytes used, flag, seed (unsigned)"
unfoldable pub first_text : ℕ → Budget → List ℕ
first_text count b = (pair_text events_word count bytes_word b.used ++ pair_text over_word b.over seed_word b.seed) ++ newline

-- "A refusal prints only `refused N at K`, K the record from 0"
unfoldable pub refusal_text : ℕ → ℕ → List ℕ
refusal_text n k = pair_text refused_word n at_word k ++ newline

-- a number and what stands behind it
abbrev pub item_text : ℤ → ℕ → List ℕ
item_text z b = number_text z ++ (b ∷ [])

abbrev pub three_text : ℤ → ℤ → ℤ → ℕ → List ℕ
three_text x y z b = (item_text x 32 ++ item_text y 32) ++ item_text z b

-- "time, kind (NoteOn 0 to DirectSMF 8 in the Rust's order), channel, v1, v2, v3"
unfoldable pub line_text : Event → List ℕ
line_text e = three_text e.time e.kind e.channel 32 ++ three_text e.v1 e.v2 e.v3 10

-- "Below, in list order"
unfoldable pub done_text : ℕ → Budget → List Event → List ℕ
done_text count b es = first_text count b ++ flat line_text es

-- ---- what the buffer must have room for
abbrev pub first_long : ℕ
first_long = 113

abbrev pub line_long : ℕ
line_long = 132

abbrev pub page_long : ℕ
page_long = first_long + line_long * event_room

-- the events are there, no more than a tape's list holds, and the page is long enough for any text
unfoldable pub printable : ℕ → List ℤ → List ℕ → Bool
printable count l page = leb page_long (length page) && (leb count event_room && leb count (length (rows_of l)))

-- how a tape ended, in words: nothing where it cannot be printed
unfoldable pub end_text : Ending → List ℤ → List ℕ → List ℕ
end_text e l page =
    cond (printable e.count l page)
    (cond (eqb e.code 0) (done_text e.count e.budget (events_of l e.count)) (refusal_text e.code e.index))
    []
