-- `put_head` meets its contract: the mark, and the length behind it.
use Rattle.std.proofs.Common.{arith}
use Rattle.text.proofs.Laying.{put-behind}
use Rattle.chunks.specs.Chunks.{big_endian, mark}
use Rattle.chunks.proofs.put_head.Goals as goal

pub returns : goal.returns
unfolding big_endian
returns c =
    let p = c.put-at.ensures in
    let q = c.put.ensures in
    put-behind 0 c.args.out.now mark (big_endian c.args.body) (omega arith) p.0 p.1 (rw c.to_be_bytes.ensures at q.0) (rw c.to_be_bytes.ensures at q.1)
