-- `message_size` meets its contract: the kinds with three bytes follow each other, and are tested as a range.
use mathlib.Core.Path.{◌≡◌, refl}
use mathlib.Core.Bool.{true, false, true≢false}
use Prim.Native.Nat.{zero, suc}
use native.Mathlib.Omega.{arith}
use borrow.Author.Tests.{ltb-true}
use lib.Dec.{lit<}
use lib.IntN.{ℤ, pos, negsuc}
use lib.ListN.{length}
use lib.Signed.{lt_z}
use mir.Syntax.{w64}
use mir.Val.{SFits}
use Rattle.laws.proofs.Signed.{lt-back-l}
use Rattle.events.proofs.Matching.{below-not, above-not}
use Rattle.chunks.specs.Chunks.{message_of}
use Rattle.chunks.proofs.Leaves.{is-kind, not-kind}
use Rattle.chunks.proofs.message_size.Goals as goal

-- a kind from NoteOn to PitchBend is one of the four
one-of-four : (P : ℤ → Type 0) → P (pos 0) → P (pos 1) → P (pos 2) → P (pos 3) → (k : ℤ) → lt_z k (pos 0) ≡ false → lt_z k (pos 4) ≡ true → P k
one-of-four P a b c d (pos zero) l h = a
one-of-four P a b c d (pos (suc zero)) l h = b
one-of-four P a b c d (pos (suc (suc zero))) l h = c
one-of-four P a b c d (pos (suc (suc (suc zero)))) l h = d
one-of-four P a b c d (pos (suc (suc (suc (suc k))))) l h = absurd (omega (arith, ltb-true (suc (suc (suc (suc k)))) 4 h))
one-of-four P a b c d (negsuc k) l h = absurd (true≢false l)

kind_fits : (c : goal.In-5) → SFits w64 c.args.e.kind
kind_fits c = record { sfits = c.struct_told-1.given.0.1 }

kind_fits-at-2 : (c : goal.In-0) → SFits w64 c.args.e.kind
kind_fits-at-2 c = record { sfits = c.struct_told-1.given.0.1 }

kind_fits-at-3 : (c : goal.In_default) → SFits w64 c.args.e.kind
kind_fits-at-3 c = record { sfits = c.struct_told-1.given.0.1 }

kind_fits-at-4 : (c : goal.In_default-2) → SFits w64 c.args.e.kind
kind_fits-at-4 c = record { sfits = c.struct_told-1.given.0.1 }

pub returns-in-5 : goal.returns-in-5
unfolding message_of
returns-in-5 c = rw (is-kind (kind_fits c) 5 (lit< tt) c.in-5.in-5-own.keys1)

pub returns-in-0 : goal.returns-in-0
unfolding message_of
returns-in-0 c =
    let f = kind_fits-at-2 c in
    let e = c.args.e in
    one-of-four
    (λ (k : ℤ). e.kind ≡ k → 3 ≡ length (message_of e))
    (λ q. rw q)
    (λ q. rw q)
    (λ q. rw q)
    (λ q. rw q)
    e.kind
    (lt-back-l (pos 0) f c.in-0.if-e-lt0-own.false)
    (lt-back-l (pos 4) f c.in-0.if-e-lt4-own.true)
    refl

pub returns-in_default : goal.returns-in_default
unfolding message_of
returns-in_default c =
    let k = c.args.e.kind in
    let l = lt-back-l (pos 0) (kind_fits-at-3 c) c.in_default.if-e-lt0-own.true in
    rw (
      below-not 0 0 k l (omega arith),
      below-not 0 1 k l (omega arith),
      below-not 0 2 k l (omega arith),
      below-not 0 5 k l (omega arith),
      below-not 0 3 k l (omega arith),
    )

pub returns-in_default-2 : goal.returns-in_default-2
unfolding message_of
returns-in_default-2 c =
    let f = kind_fits-at-4 c in
    let k = c.args.e.kind in
    let l = lt-back-l (pos 4) f c.in_default.if-e-lt4-own.false in
    rw (
      above-not 4 0 k l (omega arith),
      above-not 4 1 k l (omega arith),
      above-not 4 2 k l (omega arith),
      not-kind f 5 (lit< tt) c.in_default.in_default-own.rest.1,
      above-not 4 3 k l (omega arith),
    )
