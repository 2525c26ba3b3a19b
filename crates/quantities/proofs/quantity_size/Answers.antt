-- `quantity_size`: one byte, and one for each test that holds (`bytes_counted`).
use Rattle.quantities.proofs.Groups.{bytes_counted}
use Rattle.quantities.proofs.quantity_size.Goals as goal

pub returns : goal.returns
returns c =
    rw (c.from.ensures, c.from-2.ensures, c.from-3.ensures) (bytes_counted c.args.q)
