-- `is_kept` meets its contract: five statuses are kept (Kept).
use mathlib.Core.Bool.{Bool, true, false, cond, ◌&&◌}
use mathlib.Core.Path.{◌≡◌, refl}
use mathlib.Core.List.{[]}
use Prim.Native.Nat.{ℕ, ◌+◌}
use lib.ListN.{length}
use Rattle.reader.specs.declared.Found.{Found}
use Rattle.reader.specs.Reading.{kept_in}
use Rattle.reader.specs.Steps.{tells}
use Rattle.reader.proofs.Kept.{kept-many}
use Rattle.reader.proofs.is_kept.Goals as goal

counts : (f : Found) (b : Bool) → ((t : ℕ) → length (kept_in f.status t f.first f.second) ≡ cond b 1 0)
    → (t : ℕ) → length (tells t f).kept ≡ cond (f.sent && b) 1 0
unfolding tells
counts f b h t = go f.sent
  where
    go : (s : Bool) → length (cond s (kept_in f.status (t + f.gap) f.first f.second) []) ≡ cond (s && b) 1 0
    go true = h (t + f.gap)
    go false = refl

pub returns : goal.returns
returns c = let f = c.args.f in counts f _ (λ t. kept-many f.status t f.first f.second)
