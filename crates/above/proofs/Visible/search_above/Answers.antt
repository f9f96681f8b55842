use mathlib.Core.Path.{◌≡◌, refl, sym, ap, ◌∙◌}
use Rattle.std.proofs.Common.{rules, arith, List, ◌≤◌, ◌<◌, ◌+◌, ◌*◌, length, get_or, nat_abs, ℕ, ℤ, FitsSigned, w64}
use Rattle.std.proofs.Math.Dec.{ltb}
use borrow.Author.Tests.{lt-ltb, le-ltb}
use Rattle.strided.specs.declared.Spot.{Spot}
use Rattle.strided.proofs.Casts.{read}
use Rattle.strided.proofs.Walks.{Row, found_row, place, counted, in_slice}
use Rattle.whole.proofs.Counts.{none_first, first_found}
use Rattle.coefs.proofs.Clean.{clean_more, in_buffer}
use Rattle.above.specs.Above.{above}
use Rattle.above.proofs.Above.{at_visible, clean_past}
use Rattle.above.proofs.Visible.search_above.Goals as goal
use Rattle.above.proofs.Visible.search_above.Goals.{After-start-from}

row : (c : After-start-from) → Row c.args.self.spot (length c.args.self.ps.now) c.rows.y c.start-from.result
row c =
    let s = c.args.self in let f : FitsSigned w64 c.start-from.result = search rules in
    found_row s.spot (length s.ps.now) c.rows.y s.looking.height s.looking.inside c.rows-test.true f c.start-from.ensures

-- what a pixel's test tells
tested : (top : ℕ) (ps : List ℕ) (s : Spot) (w y x : ℕ) {z : ℤ} → s.columns ≤ w → x < s.columns → Row s (length ps) y z
    → above top ps s w (y * w + x) ≡ ltb top (get_or ps (nat_abs (read w64 z) + x) 0)
tested top ps s w y x n l r = at_visible top ps s w n y x l ∙ ap (λ (k : ℕ). ltb top (get_or ps (k + x) 0)) (sym (place r))

pub overflow_cast-from : goal.overflow_cast-from
overflow_cast-from c = counted (row c) (omega arith)

pub bounds-self-from : goal.bounds-self-from
bounds-self-from c =
    let r = row (goal.at.bounds-self-from c).After-start-from in
    let h = in_slice r refl in
    omega arith

pub loop-x-preserved : goal.loop-x-preserved
loop-x-preserved c =
    let s = c.args.self in let r = row (goal.at.loop-x-preserved c).After-start-from in (
      c.loop-x.invariant.0,
      clean_more _ (c.rows.y * s.w + c.loop-x.x) _ c.loop-x.invariant.1
          (tested c.args.top s.ps.now s.spot s.w c.rows.y c.loop-x.x s.looking.columns_in c.loop-x-test.true r
          ∙ le-ltb _ _ c.if-top-p.false) (omega arith),
    )

pub rows-preserved : goal.rows-preserved
rows-preserved c =
    let s = c.args.self in let q : c.loop-x.x ≡ s.spot.columns = omega arith in (
      c.loop-x.invariant.0,
      clean_past c.args.top s.ps.now s.spot s.w s.looking.columns_in c.rows.y _ (λ j m. c.loop-x.invariant.1 j (omega arith))
          (omega arith),
    )

pub returns-after-rows : goal.returns-after-rows
returns-after-rows c =
    let s = c.args.self in let q : c.rows.y ≡ s.spot.rows = omega arith in
    c.rows.invariant.0
    ∙ sym (none_first (s.spot.rows * s.w) (above c.args.top s.ps.now s.spot s.w)
    (λ j k. c.rows.invariant.1 j (omega (arith, ap (λ (m : ℕ). m * s.w) q))))

pub returns-then-top-p : goal.returns-then-top-p
returns-then-top-p c =
    let s = c.args.self in let r = row (goal.at.returns-then-top-p c).After-start-from in
    sym (first_found (s.spot.rows * s.w) (above c.args.top s.ps.now s.spot s.w) (c.rows.y * s.w + c.loop-x.x)
    (in_buffer s.spot.rows s.w c.rows.y c.loop-x.x c.rows-test.true (omega arith))
    (tested c.args.top s.ps.now s.spot s.w c.rows.y c.loop-x.x s.looking.columns_in c.loop-x-test.true r
    ∙ lt-ltb _ _ c.if-top-p.true) c.loop-x.invariant.1)
