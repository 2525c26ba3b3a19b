-- `keep_unspent`: the loop is proofs/Closing's, where the array is the list of its records itself.
use Rattle.tables.specs.Tables.{no_note}
use Rattle.noting.specs.Lists.{spent}
use Rattle.noting.proofs.Closing as C
use Rattle.noting.proofs.keep_unspent.Given as goal

abbrev pub invariant-loop-i : goal.invariant-loop-i
invariant-loop-i l = C.Closing no_note spent l.fn.table.items l.fn.table.count l.notes.items l.n l.i
