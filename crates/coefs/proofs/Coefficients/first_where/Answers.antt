use mathlib.Core.Path.{◌≡◌, sym, ap, ◌∙◌}
use mir.ValLaws.{to_z-of_z}
use Rattle.std.proofs.Common.{rules, arith, ℕ, ◌*◌, ◌+◌, FitsSigned, w32, to_z, of_z}
use Rattle.whole.specs.Lists.{at}
use Rattle.whole.proofs.Counts.{none_first, first_found}
use Rattle.coefs.specs.Inner.{in_rows}
use Rattle.coefs.proofs.Clean.{clean_live, in_buffer, in_dead}
use Rattle.coefs.proofs.Coefficients.first_where.Goals as goal

pub loop-y-init : goal.loop-y-init
loop-y-init g c =
    let k = c.columns.invariant in (k.0, λ f t. clean_live c.args.r c.args.self.h _ c.columns.x c.requires.rows (k.1 f t))

pub returns-after-columns : goal.returns-after-columns
returns-after-columns g c f t =
    let s = c.args.self in let k = c.columns.invariant in let q : c.columns.x ≡ s.w = omega arith in
    k.0
    ∙ sym (none_first (s.w * s.h) (in_rows c.args.r s.h (λ i. f (at s.values.now i)))
    (λ j l. k.1 f t j (omega (arith, ap (λ (m : ℕ). m * s.h) q))))

pub returns-then-test : goal.returns-then-test
returns-then-test g c f t =
    let s = c.args.self in let x = c.columns.x in let y = c.loop-y.y in let z = at s.values.now (x * s.h + y) in
    let k : FitsSigned w32 z = search rules in let held : FitsSigned w32 (to_z w32 (of_z w32 z)) = search rules in
    sym (first_found (s.w * s.h) (in_rows c.args.r s.h (λ i. f (at s.values.now i))) (x * s.h + y)
    (in_buffer s.w s.h x y c.columns-test.true c.loop-y-test.true)
    (in_dead c.args.r s.h (λ i. f (at s.values.now i)) x y c.loop-y-test.true (omega arith) ∙ ap f (sym (to_z-of_z w32 z k))
    ∙ sym (t _ _ held c.test.ensures) ∙ c.if-test.true)
    (c.loop-y.invariant.1 f t))
