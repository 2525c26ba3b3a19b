-- `in_window` meets its contract: every test is made on the bits, and each answers its part of the definition.
use mathlib.Core.Path.{◌≡◌, sym, ap, ap₂, ◌∙◌}
use mathlib.Core.Bool.{Bool, true, false, not, ◌&&◌, ◌||◌}
use lib.Dec.{lit<}
use lib.Signed.{lt_z, le_z}
use mir.Syntax.{w64}
use mir.Val.{SFits}
use mir.Facts.{to_z-of_z}
use Rattle.laws.specs.Integers.{eq_z}
use Rattle.laws.proofs.Bits.{flag}
use Rattle.laws.proofs.Bools.{and-on, and-off}
use Rattle.laws.proofs.Tests.{both, one_of}
use Rattle.events.specs.Kinds.{control_change}
use Rattle.events.specs.declared.Event.{Event}
use Rattle.eventlist.specs.declared.Window.{Window}
use Rattle.eventlist.specs.Windows.{taken_by}
use Rattle.eventlist.proofs.in_window.Goals as goal

constant : SFits w64 control_change
constant = record { sfits = lit< tt }

-- the same tests in the definition's order
turned : (k n s e : Bool) → (s && e && k && n) ≡ (k && n && s && e)
turned k n true true = sym (and-on (k && n && true) ∙ and-on (k && n))
turned k n true false = sym (and-off (k && n && true))
turned k n false e = sym (ap (λ (b : Bool). b && e) (and-off (k && n)))

module _ (c : goal.After-struct_told-9-1) where
  abbrev e : Event
  e = c.args.e

  abbrev w : Window
  w = c.args.w

  kind_fits : SFits w64 e.kind
  kind_fits = record { sfits = c.struct_told-2-1.given.0.1 }

  time-fits : SFits w64 e.time
  time-fits = record { sfits = c.struct_told-2-1.given.1.0.1 }

  v1-fits : SFits w64 e.v1
  v1-fits = record { sfits = c.struct_told-2-1.given.1.1.1.0.1 }

  asked-fits : SFits w64 w.kind
  asked-fits = record { sfits = c.struct_told-1.given.0.1 }

  number_fits : SFits w64 w.number
  number_fits = record { sfits = c.struct_told-1.given.1.0.1 }

  start_fits : SFits w64 w.start
  start_fits = record { sfits = c.struct_told-1.given.1.1.0.1 }

  end_fits : SFits w64 w.end
  end_fits = record { sfits = c.struct_told-1.given.1.1.1.0.1 }

pub returns : goal.returns
unfolding taken_by
returns c =
    let k = flag (kind_fits c) (asked-fits c) in
    let n = one_of (ap not (flag (asked-fits c) constant)) (flag (v1-fits c) (number_fits c)) in
    let a = ap₂ le_z (to_z-of_z (start_fits c)) (to_z-of_z (time-fits c)) in
    let b = ap₂ lt_z (to_z-of_z (time-fits c)) (to_z-of_z (end_fits c)) in
    both (both (both a b) k) n ∙ turned (eq_z (e c).kind (w c).kind) (not (eq_z (w c).kind control_change) || eq_z (e c).v1 (w c).number) (le_z (w c).start (e c).time) (lt_z (e c).time (w c).end)
