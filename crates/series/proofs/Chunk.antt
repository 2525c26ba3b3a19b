-- The linked library's chunks: what its C functions leave is what is proved of the call `write_chunk` (`WrittenOut` of crate chunks), so that all of
-- crates/chunks/proofs/Calls.antt holds of what C calls.
use mathlib.Core.Path.{ap₂}
use mathlib.Core.List.{List}
use Prim.Native.Nat.{ℕ}
use lib.IntN.{ℤ}
use lib.ListN.{length}
use Rattle.chunks.specs.Writing.{chunk_written, chunk_left}
use Rattle.chunks.specs.Told.{WrittenOut}
use Rattle.reader.specs.Reading.{read_taken, read_left}
use Rattle.reader.specs.Rereading.{ReadIn}
use Rattle.ctrack.specs.Lent.{ListLeft, ChunkLeft}

pub linked-chunk : (store : ℕ) (l : List ℤ) (count : ℕ) (out : List ℕ) (n : ℕ) (out' : List ℕ)
    → ChunkLeft (chunk_written store l count (length out)) (chunk_left store l count out) 0 n out' → WrittenOut store l count out n out'
linked-chunk store l count out n out' k = record { answer = ap₂ (λ (x y : ℕ). record { code = x; bytes = y }) k.code k.bytes; output = k.output }

-- and of `read_chunk` (`ReadIn` of crate reader), so that all of crates/reader/proofs/Calls.antt, Running.antt and Ending.antt does
pub linked-read : (c : List ℕ) (l : List ℤ) (count n : ℕ) (l' : List ℤ) → ListLeft (read_taken c l count) (read_left c l count) 0 n l' → ReadIn c l count n l'
linked-read c l count n l' k = record { answer = ap₂ (λ (x y : ℕ). record { code = x; count = y }) k.code k.count; list = k.events }
