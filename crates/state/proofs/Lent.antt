-- What the test of a track with its cycle table says of its parts, and back.
--     lent-track, lent-cycles, lent-lone   the parts; lent-counted: the table alone
--     lent-whole                           all of them make a pair that passes
--     untracked, tracked, behind           a test of the pair among others, the track asked first
--     notes-few .. cycles-few              no table counts more than its places
use mathlib.Core.Path.{◌≡◌, refl, ap, ◌∙◌}
use mathlib.Core.Bool.{Bool, true, false, ◌&&◌}
use mathlib.Core.List.{List}
use Prim.Native.Nat.{◌≤◌}
use Rattle.laws.specs.Lists.{counted}
use Rattle.laws.proofs.Ranges.{left, right}
use Rattle.numbers.specs.Limits.{places}
use Rattle.cycles.specs.declared.Cycle.{Cycle}
use Rattle.cycles.specs.Rules.{ok_cycle}
use Rattle.tables.specs.Sixteen.{ok_sixteen}
use Rattle.tables.specs.Tables.{ok_cycles, lone}
use Rattle.state.specs.declared.Track.{Track}
use Rattle.state.specs.Track.{cycles_of}
use Rattle.state.specs.Tests.{ok_track, ok_lent}
use Rattle.state.proofs.Counts.{few-cycles}
use Rattle.state.proofs.Stored as stored

module _ (a : Track) (cs : List Cycle) where
  abbrev alone : Bool
  alone = lone a.notes a.waves a.sines (cycles_of a cs)

  pub lent-whole : ok_track a ≡ true → ok_cycles (cycles_of a cs) ≡ true → lone a.notes a.waves a.sines (cycles_of a cs) ≡ true → ok_lent a cs ≡ true
  unfolding ok_lent
  lent-whole t c l = rw (t, c, l)

  not-lent : ok_track a ≡ false → ok_lent a cs ≡ false
  unfolding ok_lent
  not-lent t = rw t

  rest : ok_track a ≡ true → ok_lent a cs ≡ (ok_cycles (cycles_of a cs) && alone)
  unfolding ok_lent
  rest t = rw t

  module _ (x y : Bool) where
    pub untracked : (x && ok_track a && y) ≡ false → (x && ok_lent a cs && y) ≡ false
    untracked e = go x (ok_track a) (ok_lent a cs) not-lent e
      where
        go : (u t l : Bool) → (t ≡ false → l ≡ false) → (u && t && y) ≡ false → (u && l && y) ≡ false
        go false t l h e = refl
        go true false l h e = rw (h refl)
        go true true false h e = refl
        go true true true h e = e

    module _ (e : (x && ok_track a && y) ≡ true) where
      pub tracked : ok_track a ≡ true
      tracked = right x (ok_track a) (left (x && ok_track a) y e)

      -- what is left to ask
      pub behind : (x && ok_lent a cs && y) ≡ (ok_cycles (cycles_of a cs) && lone a.notes a.waves a.sines (cycles_of a cs))
      behind = ap (λ (l : Bool). x && l && y) (rest tracked) ∙ go (ok_cycles (cycles_of a cs) && alone)
        where
          go : (r : Bool) → (x && r && y) ≡ r
          go true = rw (left x (ok_track a) (left (x && ok_track a) y e), right (x && ok_track a) y e)
          go false = rw (left x (ok_track a) (left (x && ok_track a) y e))

  module _ (e : ok_lent a cs ≡ true) where
    two : (ok_track a && ok_cycles (cycles_of a cs)) ≡ true
    unfolding ok_lent
    two = left (ok_track a && ok_cycles (cycles_of a cs)) alone e

    pub lent-track : ok_track a ≡ true
    lent-track = left (ok_track a) (ok_cycles (cycles_of a cs)) two

    pub lent-cycles : ok_cycles (cycles_of a cs) ≡ true
    lent-cycles = right (ok_track a) (ok_cycles (cycles_of a cs)) two

    pub lent-lone : lone a.notes a.waves a.sines (cycles_of a cs) ≡ true
    unfolding ok_lent
    lent-lone = right (ok_track a && ok_cycles (cycles_of a cs)) alone e

    pub lent-counted : counted a.cycles places ok_cycle cs ≡ true
    unfolding ok_sixteen
    lent-counted = lent-cycles

    pub notes-few : a.notes.count ≤ places
    notes-few = stored.notes-few a lent-track

    pub waves-few : a.waves.count ≤ places
    waves-few = stored.waves-few a lent-track

    pub sines-few : a.sines.count ≤ places
    sines-few = stored.sines-few a lent-track

    pub cycles-few : a.cycles ≤ places
    cycles-few = few-cycles (cycles_of a cs) lent-cycles
