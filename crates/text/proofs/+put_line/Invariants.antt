-- A call of itself has one word fewer.
use Rattle.std.proofs.Common.{length}
use Rattle.text.proofs.+put_line.Given as goal

abbrev pub decreases-put_line : goal.decreases-put_line
decreases-put_line l = length l.words.now
