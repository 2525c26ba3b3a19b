-- 01, "What each place should look like": "For an answer that is an enum, a definition gives this paper's number and values for each of its
-- cases, and the promises use that definition". What such a definition says of a case stands here; each enum has its own definition beside it.
use Rattle.std.specs.Prelude.{List, ℕ, ℤ}

pub record Said : Type 0 where
  pub number : ℕ
  pub values : List ℤ
