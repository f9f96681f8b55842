use Rattle.std.proofs.Common.{◌≤◌}
use Rattle.coefs.specs.Coefs.{Covers}
use Rattle.coefs.proofs.Coefficients.live_rows.Given as goal

abbrev pub invariant-loop-live : goal.invariant-loop-live
invariant-loop-live l = ((1 ≤ l.live) × (l.live ≤ l.self.h)) × Covers l.self.w l.self.h l.self.values.now l.live

abbrev pub decreases-loop-live : goal.decreases-loop-live
decreases-loop-live l = l.live
