-- `text::Writer::digits` ends: the front digits are those of a tenth of the number.
use Rattle.text.proofs.Writer.+digits.Given as goal

abbrev pub decreases-digits : goal.decreases-digits
decreases-digits l = l.n
