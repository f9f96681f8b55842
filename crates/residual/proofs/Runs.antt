-- The first n numbers of a block, which a loop writes one by one.
use mathlib.Core.Path.{◌≡◌, sym, ◌∙◌, subst}
use mathlib.Core.List.{List, ◌++◌}
use Prim.Native.Nat.{ℕ, ◌+◌, ◌<◌}
use native.Mathlib.Omega.{arith}
use lib.IntN.{ℤ, pos}
use lib.ListN.{set, length, drop, length-append, get_or-append}
use mir.Syntax.{w32}
use mir.Val.{SFits, to_z, of_z}
use mir.ValLaws.{to_z-of_z}
use Rattle.std.proofs.lemmas.List.{set-append_left}
use Rattle.whole.specs.Lists.{at}
use Rattle.steps.specs.Inner.{Filled}
use Rattle.steps.proofs.Fills.{filled_more}

module _ (items : List ℤ) (n : ℕ) {t : List ℤ} {i : ℕ} {f : ℕ → ℤ} (h : Filled t 0 1 f i (items ++ drop n t)) (l : i < length items) where
  -- number i is still what it was
  pub as_held : SFits w32 (at items i) → to_z w32 (of_z w32 (at items i)) ≡ at t i
  as_held s = to_z-of_z w32 (at items i) s ∙ sym (get_or-append items (drop n t) (pos 0) i l) ∙ h.other i (λ j k e. omega arith)

  pub one_more : {v : ℤ} → v ≡ f i → Filled t 0 1 f (i + 1) (set items i v ++ drop n t)
  one_more {v} e = subst (Filled t 0 1 f (i + 1)) (set-append_left items (drop n t) i v l)
      (filled_more h i (omega arith) (omega (arith, h.long, length-append items (drop n t))) e)
