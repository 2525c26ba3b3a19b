-- What a wave that may be stored gives: numbers that a write may be asked with.
use mathlib.Core.Path.{◌≡◌}
use mathlib.Core.Bool.{Bool, true, not, ◌&&◌, ◌||◌}
use Prim.Native.Nat.{◌≤◌}
use native.Mathlib.Omega.{arith}
use lib.Dec.{leb, eqb}
use lib.ListN.{length-take}
use Rattle.laws.specs.Lists.{all, counted}
use Rattle.laws.proofs.Ranges.{left, right}
use Rattle.numbers.specs.Limits.{list_limit}
use Rattle.numbers.specs.Ranges.{is_target, is_number}
use Rattle.counted.specs.declared.Numbers.{Numbers}
use Rattle.counted.specs.Numbers.{shown, ok_numbers}
use Rattle.counted.specs.Curves.{triples, has_length, is_curve, ok_curve}
use Rattle.counted.proofs.Counted.{numbers-count, curve-numbers}
use Rattle.offers.specs.Sources.{Fine}
use Rattle.writing.proofs.Allowed.{fine}
use Rattle.tables.specs.declared.OnNoteWave.{OnNoteWave}
use Rattle.tables.specs.Reservations.{expand, repeat, forward, ok_wave}

curve-is : (a : Numbers) → ok_curve a ≡ true → is_curve (shown a) ≡ true
unfolding ok_curve ok_numbers counted is_curve
curve-is a e =
    let p = right (leb a.count list_limit) (all is_number (shown a)) (left (ok_numbers a) (all has_length (triples (shown a))) e) in
    rw (p, right (ok_numbers a) (all has_length (triples (shown a))) e)

module _ (e : OnNoteWave) (h : ok_wave e ≡ true) where
  abbrev others : Bool
  others = is_target e.target && leb e.mode repeat && (not (eqb e.mode expand) || all forward (triples (shown e.values)))

  curve : ok_curve e.values ≡ true
  unfolding ok_wave
  curve = left (ok_curve e.values) others h

  pub wave-few : e.values.count ≤ list_limit
  wave-few = numbers-count e.values (curve-numbers e.values curve)

  pub wave-fine : Fine (shown e.values)
  wave-fine = fine (shown e.values) (curve-is e.values curve) (let f = wave-few in omega (arith, length-take e.values.count e.values.items))

  pub wave-aimed : is_target e.target ≡ true
  unfolding ok_wave
  wave-aimed =
      left (is_target e.target) (leb e.mode repeat)
      (left (is_target e.target && leb e.mode repeat) (not (eqb e.mode expand) || all forward (triples (shown e.values))) (right (ok_curve e.values) others h))
