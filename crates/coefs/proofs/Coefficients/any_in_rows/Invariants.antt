use Rattle.std.proofs.Common.{◌≡◌, false}
use Rattle.coefs.specs.Inner.{ZeroRows}
use Rattle.coefs.proofs.Coefficients.any_in_rows.Given as goal

abbrev pub invariant-loop-x : goal.invariant-loop-x
invariant-loop-x l = l.hit ≡ false → ZeroRows l.x l.self.h l.self.values.now l.from l.to
