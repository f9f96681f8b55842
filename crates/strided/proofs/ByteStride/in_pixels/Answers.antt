use Rattle.std.proofs.Common.{◌≡◌, ◌∙◌, sym, ap, arith, rules, ◌%◌, Bool, true, false, ◌||◌, ℤ, nat_abs, ltb, w32, to_z, SFits, ne_eqb, refl}
use Rattle.std.proofs.Common.{lt-ltb, le-ltb}
use mathlib.Core.Path.{subst⁻¹}
use mir.ValLaws.{to_z-of_z}
use Rattle.whole.specs.Checks.{accept, unless}
use Rattle.strided.specs.declared.Width.{Width}
use Rattle.strided.specs.Inner.{converted}
use Rattle.strided.specs.Planes.{in_pixels, odd}
use Rattle.strided.proofs.Casts.{half_is, even}
use Rattle.strided.proofs.ByteStride.in_pixels.Goals as goal
use Rattle.strided.proofs.ByteStride.in_pixels.Goals.{After-unsigned_abs, in-Wide-2, in-Narrow}

-- the stride was turned, is even where it has to be, and is tested
module _ (c : After-unsigned_abs) where
  turned : (c.match-width.pixels ≡ in_pixels c.args.width c.args.self.0) × (odd c.args.width c.args.self.0 ≡ false)
  turned = let b = c.args.self.0 in let f : SFits w32 b = search rules in
      let are : Width → Type 0 = λ k. (c.match-width.pixels ≡ in_pixels k b) × (odd k b ≡ false) in
      elim c.match-width.branch [
        | in-Wide-2 w ↦ subst⁻¹ are w.in-Wide-2.is (
          sym c.match-width.pixels-is ∙ w.pixels-is ∙ half_is b f,
          ne_eqb (nat_abs b % 2) 1 (λ e. omega (arith, even b f w.if-bytes-ne0.false)),
        )
        | in-Narrow w ↦ subst⁻¹ are w.in-Narrow.is (sym c.match-width.pixels-is ∙ w.pixels-is ∙ to_z-of_z w32 b f, refl)
      ]

  by_test : (t : Bool) → ltb (nat_abs c.match-width.pixels) c.args.w ≡ t
      → unless t 7 (accept (record { 0 = c.match-width.pixels })) ≡ converted c.args.width c.args.w c.args.self.0
  by_test t e = let short = sym e ∙ ap (λ (z : ℤ). ltb (nat_abs z) c.args.w) turned.0 in
      λ i. unless (sym turned.1 i || short i) 7 (accept (record { 0 = turned.0 i }))

  size : nat_abs (to_z w32 c.match-width.pixels-bits) ≡ nat_abs c.match-width.pixels
  size = ap nat_abs c.match-width.pixels-is

pub returns-then-unsigned_abs-w : goal.returns-then-unsigned_abs-w
returns-then-unsigned_abs-w c =
    let o = (goal.at.returns-then-unsigned_abs-w c).After-unsigned_abs in
    by_test o true (lt-ltb (nat_abs c.match-width.pixels) c.args.w (omega (arith, size o)))

pub returns : goal.returns
returns c =
    let o = (goal.at.returns c).After-unsigned_abs in
    ap (λ (z : ℤ). accept (record { 0 = z })) c.match-width.pixels-is
    ∙ by_test o false (le-ltb (nat_abs c.match-width.pixels) c.args.w (omega (arith, size o)))
