use Rattle.std.proofs.Common.{◌≤◌, arith}
use lib.Pow.{pow_mono}
use Rattle.report.proofs.side_of.Goals as goal

pub returns : goal.returns
returns c = let most : c.args.r ≤ 3 = omega arith in (omega (arith, pow_mono most), omega (arith, pow_mono most))
