use Rattle.std.proofs.Common.{rules, sym, ◌*◌}
use Rattle.whole.proofs.Counts.{none_first}
use Rattle.coefs.specs.Coefs.{nonzero, in_dead_row}
use Rattle.coefs.proofs.Clean.{no_stray}
use Rattle.coefs.proofs.Coefficients.first_stray.Goals as goal

pub returns-then-any_in_rows : goal.returns-then-any_in_rows
returns-then-any_in_rows c = c.first_where.ensures nonzero (λ v b f p. search rules)

pub returns : goal.returns
returns c = let s = c.args.self in
    sym (none_first (s.w * s.h) (in_dead_row c.args.r s.h s.values.now)
    (no_stray s.w s.h c.args.r s.values.now (c.any_in_rows.ensures c.if-any_in_rows.false)))
