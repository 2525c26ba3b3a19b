-- `put_message` meets its contract: each byte behind those before it, the third where there is one.
use Rattle.std.proofs.Common.{◌≤◌, length, arith, [], ◌∷◌}
use Rattle.text.proofs.Laying.{put-behind}
use Rattle.chunks.proofs.put_message.Goals as goal

pub returns-in-Some : goal.returns-in-Some
returns-in-Some c =
    let m = c.args.m in
    let o = c.args.out.now in
    let p = c.put_byte-p.ensures in
    let q = c.put_byte-q.ensures in
    let h : c.args.at ≤ length o = omega (arith, c.requires) in
    let u = put-behind c.args.at o (m.status ∷ []) (m.first ∷ []) h p.0 p.1 q.0 q.1 in
    rw c.in-Some.is (put-behind c.args.at o (m.status ∷ m.first ∷ []) (c.in-Some.second ∷ []) h u.0 u.1 c.put_byte.ensures.0 c.put_byte.ensures.1)

pub returns-in-None : goal.returns-in-None
returns-in-None c =
    let m = c.args.m in
    let o = c.args.out.now in
    let p = c.put_byte-p.ensures in
    let q = c.put_byte-q.ensures in
    let h : c.args.at ≤ length o = omega (arith, c.requires) in
    rw c.in-None.is (put-behind c.args.at o (m.status ∷ []) (m.first ∷ []) h p.0 p.1 q.0 q.1)
