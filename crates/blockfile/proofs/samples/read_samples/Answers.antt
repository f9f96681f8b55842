use Rattle.std.proofs.Common.{arith}
use Rattle.std.proofs.lemmas.List.{length-take-le}
use Rattle.std.proofs.lemmas.Result.{err_from_is_err_and}
use Rattle.blockfile.proofs.Fill.{begin, ended_in, refusing, one_more}
use Rattle.blockfile.proofs.samples.read_samples.Goals as goal

pub loop-sample-init : goal.loop-sample-init
loop-sample-init g c =
    begin g.S.Sample.form _ _ _ _ c.requires.0 (omega (arith, length-take-le c.args.n c.args.out.now c.requires.1))

pub returns-in_err-value : goal.returns-in_err-value
returns-in_err-value g c =
    let p = err_from_is_err_and c.from_residual.result c.from_residual.ensures.1 in
    let long = length-take-le c.args.n c.args.out.now c.requires.1 in
    rw (p.1, p.2) (refusing g.S.Sample.form _ _ _ _ c.loop-sample.invariant
    (omega (arith, c.loop-sample-test.true, c.loop-sample.invariant.same_length, long)) _ c.in_err-value.ensures.err)

pub loop-sample-preserved : goal.loop-sample-preserved
loop-sample-preserved g c =
    let long = length-take-le c.args.n c.args.out.now c.requires.1 in
    one_more g.S.Sample.form _ _ _ _ c.loop-sample.invariant
    (omega (arith, c.loop-sample-test.true, c.loop-sample.invariant.same_length, long)) c.in_ok-value.ensures.ok

pub returns : goal.returns
returns g c =
    let long = length-take-le c.args.n c.args.out.now c.requires.1 in
    ended_in g.S.Sample.form _ _ _ _ _ c.loop-sample.invariant
    (omega (arith, c.loop-sample-test.false, c.loop-sample.invariant.same_length, long)) long
