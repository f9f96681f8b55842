use mathlib.Core.Path.{◌≡◌, ap, ◌∙◌}
use mir.ValLaws.{to_z-of_z}
use Rattle.std.proofs.Common.{rules, arith, length, ℕ, FitsSigned, w32, to_z, of_z}
use Rattle.whole.specs.Lists.{at, any}
use Rattle.whole.proofs.Counts.{any_more}
use Rattle.coefs.proofs.some.Goals as goal

pub loop-v-preserved : goal.loop-v-preserved
loop-v-preserved g c f t =
    let i = c.loop-v.v-index in let z = at c.args.c.now i in let k : FitsSigned w32 z = search rules in
    let held : FitsSigned w32 (to_z w32 (of_z w32 z)) = search rules in
    any_more i (λ i. f (at c.args.c.now i)) (c.loop-v.invariant f t) (t _ _ held c.test-hit.ensures ∙ ap f (to_z-of_z w32 z k))

pub returns : goal.returns
returns g c f t = let all : c.loop-v.v-index ≡ length c.args.c.now = omega arith in
    c.loop-v.invariant f t ∙ ap (λ (n : ℕ). any n (λ i. f (at c.args.c.now i))) all
