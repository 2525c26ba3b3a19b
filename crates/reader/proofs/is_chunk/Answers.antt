-- `is_chunk` meets its contract: the mark, and the length that four bytes say.
use native.Mathlib.Omega.{arith}
use borrow.Author.Rules.{rules}
use mathlib.Core.Bool.{false, ◌&&◌}
use mathlib.Core.Path.{◌≡◌}
use mathlib.Core.List.{List}
use Prim.Native.Nat.{ℕ, ◌+◌, ◌*◌, ◌≤◌, ◌<◌}
use borrow.Author.Tests.{le-leb, lt-leb}
use lib.Dec.{eqb}
use lib.ListN.{length, get_or}
use lib.Seq.{get_or-drop}
use Rattle.reader.specs.Reading.{marked, is_chunk}
use Rattle.reader.proofs.is_chunk.Goals as goal

too_short : (c : List ℕ) → length c < 8 → false ≡ is_chunk c
unfolding is_chunk
too_short c h = rw (lt-leb 8 (length c) h)

heads : (c : List ℕ) (body : ℕ) → 8 ≤ length c → body ≡ get_or c 4 0 * 16777216 + get_or c 5 0 * 65536 + get_or c 6 0 * 256 + get_or c 7 0
    → (eqb (get_or c 0 0) 77 && eqb (get_or c 1 0) 84 && eqb (get_or c 2 0) 114 && eqb (get_or c 3 0) 107 && eqb (8 + body) (length c)) ≡ is_chunk c
unfolding is_chunk marked
heads c body h e =
    rw (le-leb 8 (length c) h, get_or-drop 4 c 0 0, get_or-drop 4 c 1 0, get_or-drop 4 c 2 0, get_or-drop 4 c 3 0, e)

pub returns-then-chunk-lt-HEAD : goal.returns-then-chunk-lt-HEAD
returns-then-chunk-lt-HEAD c = too_short c.args.chunk.now c.if-chunk-lt-HEAD.true

pub returns : goal.returns
returns c = heads c.args.chunk.now _ (search rules) (omega (arith, c.from_be_bytes-body.ensures))
