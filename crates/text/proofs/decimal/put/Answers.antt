-- `put`: the text copied over the bytes from `at` on.
use Rattle.std.proofs.Common.{◌≡◌, ◌+◌, ◌-◌, length, take, drop, refl, sym, arith, append_assoc}
use Rattle.std.proofs.Math.Seq.{drop-drop}
use Rattle.text.specs.Laying.{laid}
use Rattle.text.proofs.decimal.put.Goals as goal

pub returns : goal.returns
unfolding laid
returns c =
    let a = c.args in
    let e : a.at + length a.text.now - a.at ≡ length a.text.now = omega arith in
    let joined = append_assoc (take a.at a.out.now) a.text.now (drop (a.at + length a.text.now) a.out.now) in
    (rw (e, c.copy_from_slice.ensures.after, drop-drop (length a.text.now) a.at a.out.now) (sym joined), refl)
