-- A list of elements, and the list of the numbers that they hold.
use Rattle.std.specs.Prelude.{◌≡◌, List, ℕ, ◌<◌, length, take, drop, get_or, set, refl}
use Rattle.std.proofs.Common.{sym}
use Rattle.std.proofs.lemmas.List.{get_or_read}

-- `numbers` is the list of what `number` gives of each
pub record Numbered {A N : Type 0} (zero : N) (number : A → N) (numbers : List A → List N) : Type 0 where
  pub long : (xs : List A) → length (numbers xs) ≡ length xs
  pub cut : (from size : ℕ) (xs : List A) → numbers (take size (drop from xs)) ≡ take size (drop from (numbers xs))
  pub read : (xs : List A) (i : ℕ) (x : A) → i < length xs → x ≡ get_or xs i x → get_or (numbers xs) i zero ≡ number x
  pub written : (xs : List A) (i : ℕ) (x : A) → numbers (set xs i x) ≡ set (numbers xs) i (number x)

-- numbers that are their own
pub own_numbers : {N : Type 0} (zero : N) → Numbered {A = N} zero (λ x. x) (λ xs. xs)
own_numbers zero =
    record { long = λ xs. refl; cut = λ from size xs. refl; read = λ xs i x l e. sym (get_or_read xs i x l e zero); written = λ xs i x. refl }
