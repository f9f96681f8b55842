use mathlib.Core.Path.{sym}
use Rattle.std.proofs.Common.{arith}
use Rattle.above.proofs.Above.{no_above}
use Rattle.above.proofs.Visible.first_above.Goals as goal

pub returns : goal.returns
returns c =
    sym (no_above c.args.top c.args.self.ps.now c.args.self.spot c.args.self.w c.args.self.looking.columns_in
    (λ y x l m. omega (arith, c.bound.ensures y l x m)))
