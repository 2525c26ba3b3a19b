-- `takes` meets its contract: out of the span no window takes the event (`outside`).
use Rattle.std.proofs.Common.{◌≡◌, sym, refl, ◌∙◌, Bool, true, false, ◌&&◌, ◌||◌, cond, ℤ, w64, to_z, of_z, to_z-of_z, FitsSigned}
use Rattle.std.specs.Int.Signed.{lt_z, le_z}
use Rattle.std.specs.Ordering.{is_le, is_lt, int_cmp}
use Rattle.laws.proofs.Order.{nlt-le}
use Rattle.std.specs.declared.cmp.Ordering.TheVariants.{Less, Equal, Greater}
use Rattle.eventlist.proofs.Spans.{outside}
use Rattle.eventlist.proofs.takes.Goals as goal

-- out of a range
out : (a b x : ℤ) → (is_le (int_cmp a x) && is_lt (int_cmp x b)) ≡ false → (lt_z x a || le_z b x) ≡ true
out a b x e = go (lt_z x a) (lt_z a x) (lt_z x b) refl e
  where
    go : (s u t : Bool) → lt_z x b ≡ t → (is_le (cond u Less (cond s Greater Equal)) && is_lt (cond t Less (cond (lt_z b x) Greater Equal))) ≡ false → (s || le_z b x) ≡ true
    go true u t q e = refl
    go false true true q e = absurd (cc)
    go false false true q e = absurd (cc)
    go false u false q e = nlt-le x b q

pub returns-else-contains : goal.returns-else-contains
returns-else-contains c =
    let i = c.args in
    let from : FitsSigned w64 i.span.start = record { sfits = c.struct_told-1.given.0.1 } in
    let to : FitsSigned w64 i.span.end = record { sfits = c.struct_told-1.given.1.0.1 } in
    let h : (is_le (int_cmp (to_z w64 (of_z w64 i.span.start)) i.e.time) && is_lt (int_cmp i.e.time (to_z w64 (of_z w64 i.span.end)))) ≡ false = sym c.contains.ensures.value ∙ c.if-contains.false in
    c.if-contains.false ∙ sym (outside i.span i.e i.windows.now c.requires (out i.span.start i.span.end i.e.time (rw (to_z-of_z from, to_z-of_z to) at h)))
