use Rattle.std.proofs.Common.{ap, sym}
use Rattle.numbers.proofs.Writing.{one_more, finish}
use Rattle.blockfile.proofs.samples.write_samples.Goals as goal

pub loop-v-preserved : goal.loop-v-preserved
loop-v-preserved g c =
    one_more g.S.Sample.form _ _ _ c.loop-v.invariant c.v-item.result _ c.loop-v-test.true
    (ap g.S.Sample.form.write (sym c.v-item.is)) c.write-p.ensures.short c.write-p.ensures.put

pub returns : goal.returns
returns g c = finish g.S.Sample.form _ _ _ c.loop-v.invariant c.loop-v-test.false
