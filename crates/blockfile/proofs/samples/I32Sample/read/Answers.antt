use Rattle.std.proofs.Common.{◌≡◌, to_z, of_z, w32}
use Rattle.std.proofs.lemmas.Int.{to_z-of_z}
use Rattle.std.proofs.lemmas.Result.{err_from_is_err_and}
use Rattle.blockfile.specs.Record.{coefficient}
use Rattle.blockfile.proofs.samples.I32Sample.read.Goals as goal

pub returns-clause-ok : goal.returns-clause-ok
unfolding coefficient
returns-clause-ok c =
    let t = c.in_ok-value.ensures in let z = c.coefficient_of.result in
    let same : to_z w32 (of_z w32 z) ≡ z = to_z-of_z w32 z (record { sfits = c.coefficient_of.type_inv }) in
    record { read = rw (t.read, same, c.coefficient_of.ensures); inside = t.inside }

pub returns-in_err-value : goal.returns-in_err-value
unfolding coefficient
returns-in_err-value c =
    let p = err_from_is_err_and c.from_residual.result c.from_residual.ensures.1 in
    rw (p.1, p.2) (record { ok = tt; err = rw c.in_err-value.ensures })
