-- A track that passes its test asks a write that is ready.
use mathlib.Core.Path.{◌≡◌}
use mathlib.Core.Bool.{Bool, true, false, cond}
use Prim.Native.Nat.{ℕ, zero, suc, ◌/◌, ◌≤◌, ◌<◌, ◌^◌, max}
use native.Mathlib.Omega.{arith}
use borrow.Author.Tests.{ne_eqb, leb-true}
use lib.Dec.{eqb, leb}
use lib.IntN.{ℤ, pos, negsuc}
use Rattle.laws.specs.Integers.{inside, cut}
use Rattle.laws.proofs.Signed.{cut-mag}
use Rattle.laws.proofs.Ranges.{right, sized-mag}
use Rattle.numbers.specs.Ranges.{is_controller, is_length, is_timebase}
use Rattle.values.specs.Value.{Ready}
use Rattle.writing.proofs.Allowed.{ready}
use Rattle.state.specs.declared.Track.{Track}
use Rattle.state.specs.Tests.{ok_track}
use Rattle.state.proofs.Parts.{track-play}
use Rattle.state.proofs.Play.{play-timebase, play-time, play-ccfreq, play-pbfreq}
use Rattle.drawing.specs.Frequency.{bend_freq, freq_for}
use Rattle.drawing.specs.Write.{write_of}

either : (n m : ℕ) → 0 < cond (eqb n 0) (max m 1) n
either zero m = omega arith
either (suc n) m = rw (ne_eqb (suc n) 0 (λ (e : suc n ≡ 0). omega (arith, e))) (omega arith)

chosen : (b : Bool) (m n : ℕ) → 0 < n → 0 < cond b (max m 1) n
chosen true m n h = omega arith
chosen false m n h = h

-- no frequency is 0
pub some : (target ccfreq pbfreq timebase : ℤ) → 0 < freq_for target ccfreq pbfreq timebase
unfolding freq_for bend_freq
some target ccfreq pbfreq timebase =
    chosen (is_controller target) (cut ccfreq) (bend_freq pbfreq timebase) (either (cut pbfreq) (cut timebase / 32))

-- ---- and none is above 2^20
either-slow : (n m : ℕ) → n ≤ 2 ^ 20 → m ≤ 2 ^ 20 → cond (eqb n 0) (max m 1) n ≤ 2 ^ 20
either-slow zero m h k = omega arith
either-slow (suc n) m h k = rw (ne_eqb (suc n) 0 (λ (e : suc n ≡ 0). omega (arith, e))) h

chosen-slow : (b : Bool) (m n : ℕ) → m ≤ 2 ^ 20 → n ≤ 2 ^ 20 → cond b (max m 1) n ≤ 2 ^ 20
chosen-slow true m n h k = omega arith
chosen-slow false m n h k = k

length_cut : (z : ℤ) → is_length z ≡ true → cut z ≤ 2 ^ 20
unfolding is_length
length_cut z e = let m = sized-mag (2 ^ 20) z e in let c = cut-mag z in omega arith

timebase-cut : (z : ℤ) → is_timebase z ≡ true → cut z ≤ 32767
unfolding is_timebase inside
timebase-cut (pos n) e = leb-true n 32767 (right (leb 1 n) (leb n 32767) e)
timebase-cut (negsuc n) e = omega arith

pub slow : (target ccfreq pbfreq timebase : ℤ) → is_length ccfreq ≡ true → is_length pbfreq ≡ true → is_timebase timebase ≡ true → freq_for target ccfreq pbfreq timebase ≤ 2 ^ 20
unfolding freq_for bend_freq
slow target ccfreq pbfreq timebase c p b =
    let m = timebase-cut timebase b in
    chosen-slow (is_controller target) (cut ccfreq) (bend_freq pbfreq timebase) (length_cut ccfreq c)
    (either-slow (cut pbfreq) (cut timebase / 32) (length_cut pbfreq p) (omega arith))

pub track-ready : (a : Track) (target : ℤ) → ok_track a ≡ true → Ready (write_of a target)
unfolding write_of
track-ready a target e =
    let p = track-play a e in
    ready (write_of a target) (play-time a p) (some target a.ccfreq a.pbfreq a.timebase)
    (slow target a.ccfreq a.pbfreq a.timebase (play-ccfreq a p) (play-pbfreq a p) (play-timebase a p))
