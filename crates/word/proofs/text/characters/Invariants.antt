-- What is left is well formed where s is; each turn takes a character off.
use Rattle.std.proofs.Common.{◌≡◌, length}
use Rattle.model.specs.Bytes.{well_formed}
use Rattle.word.proofs.text.characters.Given as goal

abbrev pub invariant-loop-left : goal.invariant-loop-left
invariant-loop-left l = well_formed l.s ≡ well_formed l.left

abbrev pub decreases-loop-left : goal.decreases-loop-left
decreases-loop-left l = length l.left
