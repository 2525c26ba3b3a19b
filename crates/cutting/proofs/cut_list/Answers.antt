-- `cut_list` meets its contract: the tests in their order (Refusing), then the passes, whose contract for a whole number of
-- records says every number (`determined`).
use mathlib.Core.Path.{◌≡◌, sym, ap, ap₂, ◌∙◌}
use mathlib.Core.Bool.{cond}
use mathlib.Core.List.{List}
use Prim.Native.Nat.{ℕ}
use native.Mathlib.Omega.{arith}
use lib.ListN.{length-append}
use lib.Seq.{length-take-le}
use mir.Syntax.{w64}
use Rattle.laws.specs.Lists.{put_first}
use Rattle.laws.proofs.Tests.{is_at}
use Rattle.laws.proofs.Every.{all-imply}
use Rattle.numbers.specs.Ranges.{is_time}
use Rattle.events.specs.declared.Event.{Event}
use Rattle.events.specs.Events.{zero_event}
use Rattle.eventlist.specs.declared.Taken.{Taken}
use Rattle.eventlist.specs.Rows.{rows_of, events_of}
use Rattle.eventlist.proofs.EventRows.{same_rows, determined}
use Rattle.eventlist.proofs.Sound.{list-whole, list-within}
use Rattle.cutting.specs.declared.Parts.{Parts}
use Rattle.cutting.specs.Cuts.{in_order, folded, kept_of, cut_of, fits_cut}
use Rattle.cutting.specs.Passes.{turned, sound}
use Rattle.cutting.proofs.Refusing.{no-list, no-time, no-events, well, arranged, same_count}
use Rattle.cutting.proofs.Room.{room}
use Rattle.cutting.proofs.Stored.{fits-sound}
use Rattle.cutting.proofs.cut_list.Goals as goal

abbrev done : ℕ → Taken
done n = record { code = 0; count = n }

pub returns-then-not-list_ok : goal.returns-then-not-list_ok
returns-then-not-list_ok c =
    let q = no-list c.args.store c.args.events.now c.args.count c.args.c (sym c.list_ok.ensures ∙ c.if-not-list_ok.true) in
    (rw q, rw q)

pub returns-then-not-is_time : goal.returns-then-not-is_time
returns-then-not-is_time c =
    let listed = sym c.list_ok.ensures ∙ c.if-not-list_ok.false in
    let late = sym (is_at w64 is_time (omega arith) c.is_time.ensures) ∙ c.if-not-is_time.true in
    let q = no-time c.args.store c.args.events.now c.args.count c.args.c listed late in
    (rw q, rw q)

pub all_fit-requires : goal.all_fit-requires
all_fit-requires c = (
  list-within c.args.events.now c.args.count (sym c.list_ok.ensures ∙ c.if-not-list_ok.false),
  sym (is_at w64 is_time (omega arith) c.is_time.ensures) ∙ c.if-not-is_time.false,
)

pub returns-then-not-all_fit : goal.returns-then-not-all_fit
returns-then-not-all_fit c =
    let listed = sym c.list_ok.ensures ∙ c.if-not-list_ok.false in
    let timed = sym (is_at w64 is_time (omega arith) c.is_time.ensures) ∙ c.if-not-is_time.false in
    let q = no-events c.args.store c.args.events.now c.args.count c.args.c listed timed (sym c.all_fit.ensures ∙ c.if-not-all_fit.true) in
    (rw q, rw q)

pub fold-p-requires : goal.fold-p-requires
fold-p-requires c =
    let a = c.args in (
      list-within a.events.now a.count (sym c.list_ok.ensures ∙ c.if-not-list_ok.false),
      (
        sym (is_at w64 is_time (omega arith) c.is_time.ensures) ∙ c.if-not-is_time.false,
        all-imply (fits_cut a.store a.c) sound (fits-sound a.store a.c) (events_of a.events.now a.count) (sym c.all_fit.ensures ∙ c.if-not-all_fit.false),
      ),
    )

pub arrange-requires : goal.arrange-requires
arrange-requires c =
    let k = c.args.c in
    let l = c.args.events.now in
    let es = events_of l c.args.count in
    let a = ap (λ (p : Parts). p.kept) c.fold-p.ensures.0 in
    let b = ap (λ (p : Parts). p.count) c.fold-p.ensures.0 in
    let d = length-append (kept_of k es) (folded k (in_order k es)) in
    let r = room k es in
    let w = list-within l c.args.count (sym c.list_ok.ensures ∙ c.if-not-list_ok.false) in
    let n = length-take-le c.args.count (rows_of l) w in
    let h = same_rows c.fold-p.new.events l c.fold-p.auto.events in
    (omega arith, omega arith)

pub returns : goal.returns
returns c =
    let k = c.args.c in
    let l = c.args.events.now in
    let es = events_of l c.args.count in
    let listed = sym c.list_ok.ensures ∙ c.if-not-list_ok.false in
    let timed = sym (is_at w64 is_time (omega arith) c.is_time.ensures) ∙ c.if-not-is_time.false in
    let q = well c.args.store l c.args.count k listed timed (sym c.all_fit.ensures ∙ c.if-not-all_fit.false) in
    let rows : rows_of c.arrange.new.events ≡ put_first zero_event c.args.count (cut_of k es) (rows_of l) =
    c.arrange.ensures
    ∙ ap₂ (λ (p : Parts) (x : List Event). cond k.full (turned p x) x) c.fold-p.ensures.0 c.fold-p.ensures.1
    ∙ arranged k es c.args.count (rows_of l) in (
      rw q (ap done (ap (λ (p : Parts). p.count) c.fold-p.ensures.0 ∙ same_count k es)),
      rw q (determined l c.arrange.new.events _ (list-whole l c.args.count listed) (c.arrange.auto.events ∙ c.fold-p.auto.events) rows),
    )
