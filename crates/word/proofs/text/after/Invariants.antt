-- What is left goes on with the ranges that are left.
use Rattle.std.proofs.Common.{◌≡◌, ◌≤◌, length, map, drop}
use Rattle.model.specs.Bytes.{goes_on}
use Rattle.word.specs.Ranges.{range_of}
use Rattle.word.proofs.text.after.Given as goal

abbrev pub invariant-loop-range : goal.invariant-loop-range
invariant-loop-range l = (goes_on l.s (map range_of l.ranges) ≡ goes_on l.left (map range_of (drop l.range-index l.ranges))) × (length l.left ≤ length l.s)
