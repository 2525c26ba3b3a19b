-- `mark_of`: each arm is a case of the definition.
use mathlib.Core.Path.{refl}
use borrow.Author.Tests.{ne_eqb}
use Rattle.reel.specs.Marks.{mark_of}
use Rattle.reel.proofs.marks.mark_of.Goals as goal

pub returns-in-19284 : goal.returns-in-19284
unfolding mark_of
returns-in-19284 c = rw c.in-19284.is refl

pub returns-in-22605 : goal.returns-in-22605
unfolding mark_of
returns-in-22605 c = rw c.in-22605.is refl

pub returns-in-20564 : goal.returns-in-20564
unfolding mark_of
returns-in-20564 c = rw c.in-20564.is refl

pub returns-in-20806 : goal.returns-in-20806
unfolding mark_of
returns-in-20806 c = rw c.in-20806.is refl

pub returns-in-21583 : goal.returns-in-21583
unfolding mark_of
returns-in-21583 c = rw c.in-21583.is refl

pub returns-in-22851 : goal.returns-in-22851
unfolding mark_of
returns-in-22851 c = rw c.in-22851.is refl

pub returns-in-17234 : goal.returns-in-17234
unfolding mark_of
returns-in-17234 c = rw c.in-17234.is refl

pub returns-in-18000 : goal.returns-in-18000
unfolding mark_of
returns-in-18000 c = rw c.in-18000.is refl

pub returns-in_default : goal.returns-in_default
unfolding mark_of
returns-in_default c = let r = c.in_default.in_default-own.rest in
    simp (ne_eqb _ _ r.0.0.0.0.0.0.0.1, ne_eqb _ _ r.0.0.0.0.0.0.1, ne_eqb _ _ r.0.0.0.0.0.1, ne_eqb _ _ r.0.0.0.0.1, ne_eqb _ _ r.0.0.0.1, ne_eqb _ _ r.0.0.1, ne_eqb _ _ r.0.1, ne_eqb _ _ r.1)
