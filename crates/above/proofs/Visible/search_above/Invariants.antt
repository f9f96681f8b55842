use Rattle.std.proofs.Common.{◌≡◌, ◌+◌, ◌*◌}
use Rattle.std.specs.Prelude.{None}
use Rattle.coefs.proofs.Clean.{Clean}
use Rattle.above.specs.Above.{above}
use Rattle.above.proofs.Visible.search_above.Given as goal

abbrev pub invariant-loop-x : goal.invariant-loop-x
invariant-loop-x l = (l.place ≡ None) × Clean (above l.top l.self.ps.now l.fn.self.spot l.self.w) (l.y * l.self.w + l.x)

abbrev pub invariant-rows : goal.invariant-rows
invariant-rows l = (l.place ≡ None) × Clean (above l.top l.self.ps.now l.fn.self.spot l.self.w) (l.y * l.self.w)
