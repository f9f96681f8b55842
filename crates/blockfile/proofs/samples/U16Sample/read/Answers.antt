use borrow.Author.Tests.{le-leb, lt-leb}
use Rattle.std.proofs.lemmas.Result.{err_from_is_err_and}
use Rattle.blockfile.specs.Record.{pixel}
use Rattle.blockfile.proofs.samples.U16Sample.read.Goals as goal

pub returns-then-value-gt65535-clause-err : goal.returns-then-value-gt65535-clause-err
unfolding pixel
returns-then-value-gt65535-clause-err c = rw (c.in_ok-value.ensures.read, lt-leb _ 65535 c.if-value-gt65535.true)

pub returns-clause-ok : goal.returns-clause-ok
unfolding pixel
returns-clause-ok c =
    record { read = rw (c.in_ok-value.ensures.read, le-leb _ 65535 c.if-value-gt65535.false); inside = c.in_ok-value.ensures.inside }

pub returns-in_err-value : goal.returns-in_err-value
unfolding pixel
returns-in_err-value c =
    let p = err_from_is_err_and c.from_residual.result c.from_residual.ensures.1 in
    rw (p.1, p.2) (record { ok = tt; err = rw c.in_err-value.ensures })
