use Rattle.std.proofs.Common.{ap, ◌∙◌, w32}
use Rattle.std.proofs.lemmas.Int.{to_z-of_z}
use Rattle.numbers.specs.Zigzag.{zig}
use Rattle.blockfile.specs.Record.{coefficient}
use Rattle.numbers.proofs.Numbers.{number_short}
use Rattle.blockfile.proofs.samples.I32Sample.write.Goals as goal

pub returns-clause-put : goal.returns-clause-put
unfolding coefficient
returns-clause-put c =
    let same = c.number_of.ensures ∙ ap zig (to_z-of_z w32 c.args.self c.ranges.self) in
    rw (← same) c.write_number.ensures

pub returns-clause-short : goal.returns-clause-short
unfolding coefficient
returns-clause-short c = number_short (zig c.args.self)
