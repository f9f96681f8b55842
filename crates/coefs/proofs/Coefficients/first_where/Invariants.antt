use Rattle.std.proofs.Common.{◌≡◌, ◌+◌, ◌*◌, ℤ}
use Rattle.std.proofs.Math.Bool.{Bool}
use Rattle.std.specs.Prelude.{None}
use Rattle.whole.specs.Lists.{at}
use Rattle.coefs.specs.Inner.{Tells, in_rows}
use Rattle.coefs.proofs.Clean.{Clean}
use Rattle.coefs.proofs.Coefficients.first_where.Given as goal

abbrev pub invariant-loop-y : goal.invariant-loop-y
invariant-loop-y g l = (l.place ≡ None) × ((f : ℤ → Bool) → Tells (goal.F-post g l.test) f
    → Clean (in_rows l.r l.self.h (λ i. f (at l.self.values.now i))) (l.x * l.self.h + l.y))

abbrev pub invariant-columns : goal.invariant-columns
invariant-columns g l = (l.place ≡ None) × ((f : ℤ → Bool) → Tells (goal.F-post g l.test) f
    → Clean (in_rows l.r l.self.h (λ i. f (at l.self.values.now i))) (l.x * l.self.h))
