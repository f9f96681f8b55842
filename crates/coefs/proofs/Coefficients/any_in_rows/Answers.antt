use Rattle.std.proofs.Common.{rules, arith, ◌≡◌, ◌∙◌, sym, subst, ◌+◌, ◌-◌, ◌*◌, suc, ◌≤◌, ℕ, pos, length}
use native.Mathlib.Nat.{mul-le-mul_right}
use Rattle.whole.specs.Lists.{at}
use Rattle.whole.proofs.Clips.{or_false}
use Rattle.whole.proofs.Counts.{last_or_less}
use Rattle.coefs.specs.Coefs.{nonzero}
use Rattle.coefs.proofs.Clean.{part_zero}
use Rattle.coefs.proofs.Coefficients.any_in_rows.Goals as goal

pub loop-x-preserved : goal.loop-x-preserved
loop-x-preserved c e y x from to l =
    let s = c.args.self in let v = s.values.now in let i = c.loop-x.x in let none = or_false c.loop-x.hit c.some-hit.result e in
    let room : i * s.h + c.args.to ≤ length v = omega (arith, s.all, mul-le-mul_right {m = suc i} {n = s.w} s.h c.loop-x-test.true) in
    last_or_less x i (λ (x : ℕ). at v (y + x * s.h) ≡ pos 0) (omega arith)
    (let p : i * s.h + c.args.from + (y - c.args.from) ≡ y + i * s.h = omega arith in
    subst (λ (j : ℕ). at v j ≡ pos 0) p (part_zero v (i * s.h + c.args.from) (i * s.h + c.args.to - (i * s.h + c.args.from)) (omega arith)
    (sym (c.some-hit.ensures nonzero (λ v b f p. search rules)) ∙ none.1) (y - c.args.from) (omega arith)))
    (λ g. c.loop-x.invariant none.0 y x from to g)
