-- What has been read stands at the front of the buffer.
use Rattle.std.proofs.Common.{length, ◌≤◌}
use Rattle.streams.proofs.read_full.Given as goal

abbrev pub invariant-loop : goal.invariant-loop
invariant-loop l = l.done ≤ length l.space
