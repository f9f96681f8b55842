use Rattle.std.proofs.Common.{◌≡◌, ℤ}
use Rattle.std.proofs.Math.Bool.{Bool}
use Rattle.whole.specs.Lists.{at, any}
use Rattle.coefs.specs.Inner.{Tells}
use Rattle.coefs.proofs.some.Given as goal

abbrev pub invariant-loop-v : goal.invariant-loop-v
invariant-loop-v g l = (f : ℤ → Bool) → Tells (goal.F-post g l.test) f → l.hit ≡ any l.v-index (λ i. f (at l.c i))
