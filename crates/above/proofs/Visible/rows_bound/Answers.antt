use mathlib.Core.Path.{refl, subst}
use Rattle.std.proofs.Common.{rules, arith, length, ℕ, FitsSigned, w64}
use Rattle.strided.specs.Planes.{begins}
use Rattle.strided.proofs.Walks.{Row, found_row, place, counted, in_slice}
use Rattle.whole.proofs.Counts.{last_or_less}
use Rattle.above.specs.Inner.{LowRow}
use Rattle.above.proofs.Visible.rows_bound.Goals as goal
use Rattle.above.proofs.Visible.rows_bound.Goals.{After-start-from}

row : (c : After-start-from) → Row c.args.self.spot (length c.args.self.ps.now) c.loop-y.y c.start-from.result
row c =
    let s = c.args.self in let f : FitsSigned w64 c.start-from.result = search rules in
    found_row s.spot (length s.ps.now) c.loop-y.y s.looking.height s.looking.inside c.loop-y-test.true f c.start-from.ensures

pub overflow_cast-from : goal.overflow_cast-from
overflow_cast-from c = counted (row c) (omega arith)

pub bound-requires : goal.bound-requires
bound-requires c = let room = in_slice (row (goal.at.bound-requires c).After-start-from) refl in omega (arith, room, c.requires)

pub loop-y-preserved : goal.loop-y-preserved
loop-y-preserved c =
    let r = row (goal.at.loop-y-preserved c).After-start-from in let s = c.args.self in let ps = s.ps.now in
    let low : LowRow c.bound.result ps (begins s.spot c.loop-y.y) s.spot.columns =
    subst (λ (n : ℕ). LowRow c.bound.result ps (begins s.spot c.loop-y.y) n) c.requires
    (subst (λ (n : ℕ). LowRow c.bound.result ps n c.args.columns) (place r) c.bound.ensures) in
    λ j g.
    last_or_less j c.loop-y.y (λ (j : ℕ). LowRow c.joint-most.result ps (begins s.spot j) s.spot.columns) (omega arith)
    (λ x n. omega (arith, low x n)) (λ e x n. omega (arith, c.loop-y.invariant j e x n))
