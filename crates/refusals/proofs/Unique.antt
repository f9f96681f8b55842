-- An answer is determined by what it says in the table's numbers.
use Rattle.std.proofs.Common.{◌≡◌, ℕ, cond, refl}
use Rattle.std.specs.Prelude.{Result, Ok, Err}
use lib.Dec.{eqb}
use Rattle.whole.specs.Checks.{Check, accept, refuse}
use Rattle.whole.proofs.Checks.{one_answer}
use Rattle.refusals.specs.declared.Refusal.{Refusal}
use Rattle.refusals.specs.declared.Refusal.TheVariants.{NoSize, NoType, NoDepth, NegativeEob, NoSuchRows, FewCoefficients}
use Rattle.refusals.specs.declared.Refusal.TheVariants.{NotVisible, BadStride, RowOutside, OutOfRange, Stray, AboveMaximum}
use Rattle.refusals.specs.Refusals.{check_of, number, place}

-- the refusal of a number and a place
abbrev pub listed_at : ℕ → ℕ → Refusal
listed_at n i =
    cond (eqb n 1) NoSize (cond (eqb n 2) NoType (cond (eqb n 3) NoDepth (cond (eqb n 4) NegativeEob (cond (eqb n 5) NoSuchRows
    (cond (eqb n 6) FewCoefficients (cond (eqb n 20) NotVisible (cond (eqb n 7) BadStride (cond (eqb n 8) RowOutside
    (cond (eqb n 9) (OutOfRange i) (cond (eqb n 10) (Stray i) (AboveMaximum i)))))))))))

pub listed_at-number : (r : Refusal) → listed_at (number r) (place r) ≡ r
listed_at-number r =
    elim r as (λ (k : Refusal). listed_at (number k) (place k) ≡ k) [
      | NoSize ↦ refl
      | NoType ↦ refl
      | NoDepth ↦ refl
      | NegativeEob ↦ refl
      | NoSuchRows ↦ refl
      | FewCoefficients ↦ refl
      | NotVisible ↦ refl
      | BadStride ↦ refl
      | RowOutside ↦ refl
      | OutOfRange i ↦ refl
      | Stray i ↦ refl
      | AboveMaximum i ↦ refl
    ]

module _ {A : Type 0} where
  back : Check A → Result A Refusal
  back c = elim c [ accept a ↦ Ok a | refuse n i ↦ Err (listed_at n i) ]

  back_is : (r : Result A Refusal) → back (check_of r) ≡ r
  unfolding back
  back_is (Ok a) = refl
  back_is (Err r) = rw (listed_at-number r)

  pub one_result : (c : Check A) (r r' : Result A Refusal) → check_of r ≡ c → check_of r' ≡ c → r ≡ r'
  one_result c r r' = one_answer check_of back back_is
