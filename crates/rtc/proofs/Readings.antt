-- A later tick never reads less.
use Rattle.model.proofs.Range.{never_back}
use Rattle.rtc.specs.Meaning.{clock_of}
use Rattle.rtc.specs.Laws.{NeverLess}

pub never_less : NeverLess
never_less r t u h = never_back (clock_of r) t u h
