-- The invariant is `Writing`.
use Rattle.numbers.proofs.Writing.{Writing}
use Rattle.blockfile.proofs.samples.write_samples.Given as goal

abbrev pub invariant-loop-v : goal.invariant-loop-v
invariant-loop-v g l = Writing g.S.Sample.form l.values l.fn.out l.at l.out l.p l.v-index
