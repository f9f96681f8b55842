use Rattle.blockfile.specs.Record.{pixel}
use Rattle.numbers.proofs.Numbers.{number_short}
use Rattle.blockfile.proofs.samples.U16Sample.write.Goals as goal

pub returns-clause-put : goal.returns-clause-put
unfolding pixel
returns-clause-put c = c.write_number.ensures

pub returns-clause-short : goal.returns-clause-short
unfolding pixel
returns-clause-short c = number_short c.args.self
