use Rattle.std.proofs.Common.{ℕ, ◌<◌}
use Rattle.strided.specs.Planes.{begins}
use Rattle.above.specs.Inner.{LowRow}
use Rattle.above.proofs.Visible.rows_bound.Given as goal

abbrev pub invariant-loop-y : goal.invariant-loop-y
invariant-loop-y l = (j : ℕ) → j < l.y → LowRow l.most l.self.ps.now (begins l.fn.self.spot j) l.fn.self.spot.columns
