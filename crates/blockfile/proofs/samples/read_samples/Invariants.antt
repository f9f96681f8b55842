-- The invariant is `Filling`, of the part of `out` that is filled.
use Rattle.std.proofs.Common.{take}
use Rattle.blockfile.proofs.Fill.{Filling}
use Rattle.blockfile.proofs.samples.read_samples.Given as goal

abbrev pub invariant-loop-sample : goal.invariant-loop-sample
invariant-loop-sample g l = Filling g.S.Sample.form l.s l.at l.n (take l.n l.fn.out) l.sample-items l.p l.sample-index
