-- `play_ok` joins the tests of the numbers, each read back from its bits.
use Rattle.std.proofs.Common.{◌≡◌, w32, w64}
use Rattle.laws.proofs.Tests.{is_at}
use Rattle.numbers.specs.Ranges.{is_time, is_number, is_length, is_channel, is_timebase}
use Rattle.state.proofs.play_ok.Goals as goal

pub returns : goal.returns
returns c =
    let a = c.args in
    let f = c.ranges in
    let p1 : c.is_timebase.result ≡ is_timebase a.timebase = is_at w32 is_timebase f.timebase.sfits c.is_timebase.ensures in
    let p2 : c.is_time.result ≡ is_time a.timepos = is_at w64 is_time f.timepos.sfits c.is_time.ensures in
    let p3 : c.channel_ok.result ≡ is_channel a.channel = is_at w32 is_channel f.channel.sfits c.channel_ok.ensures in
    let p4 : c.is_length.result ≡ is_length a.ccfreq = is_at w32 is_length f.ccfreq.sfits c.is_length.ensures in
    let p5 : c.is_length-2.result ≡ is_length a.pbfreq = is_at w32 is_length f.pbfreq.sfits c.is_length-2.ensures in
    let p6 : c.is_number.result ≡ is_number a.velocity = is_at w32 is_number f.velocity.sfits c.is_number.ensures in
    let p7 : c.is_number-2.result ≡ is_number a.timing = is_at w32 is_number f.timing.sfits c.is_number-2.ensures in
    let p8 : c.is_number-3.result ≡ is_number a.octave = is_at w32 is_number f.octave.sfits c.is_number-3.ensures in
    let p9 : c.is_number-4.result ≡ is_number a.qlen = is_at w32 is_number f.qlen.sfits c.is_number-4.ensures in
    rw (p1, p2, p3, p4, p5, p6, p7, p8, p9)
