-- The range limits first, and then the maximum what it left.
use Rattle.std.proofs.Common.{rules, ◌≡◌, Some}
use Rattle.std.specs.Int.{int_min}
use mir.Syntax.{w32}
use mir.Val.{SFits}
use mir.Facts.{to_z-of_z}
use Rattle.params.specs.Param.{range_for, max_for, in_range, limited}
use Rattle.params.proofs.within_limits.Goals as goal

pub returns-in-Some-max_of : goal.returns-in-Some-max_of
unfolding limited
returns-in-Some-max_of c =
    let a = c.args.param in
    let kept : c.match-range_of.kept ≡ in_range (range_for a) c.args.value = search rules in
    let most : max_for a ≡ Some c.in-Some-max_of.top = search rules in
    let least : c.min.result ≡ int_min c.match-range_of.kept c.in-Some-max_of.top = search rules in
    let fits : SFits w32 c.min.result = search rules in
    rw (to_z-of_z fits, least, most, kept)
