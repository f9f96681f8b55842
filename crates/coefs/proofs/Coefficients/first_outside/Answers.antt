use Rattle.std.proofs.Common.{rules, arith, ◌∙◌, sym, ap, ◌&&◌, ◌*◌, ◌%◌, ℤ, Bool, pos, take, length}
use borrow.Author.Tests.{le-leb}
use Rattle.std.proofs.lemmas.List.{get_or-take, length-take-le}
use Rattle.whole.specs.Lists.{at}
use Rattle.whole.specs.Numbers.{outside}
use Rattle.whole.proofs.Counts.{first_ext, none_of_any, none_first}
use Rattle.coefs.proofs.Coefficients.first_outside.Goals as goal

pub returns-then-some : goal.returns-then-some
returns-then-some c = let s = c.args.self in let f : ℤ → Bool = λ v. outside v c.args.min c.args.max in
    c.first_where.ensures f (λ v b k p. search rules)
    ∙ first_ext (s.w * s.h) _ _ (λ i l. ap (λ (b : Bool). b && f (at s.values.now i)) (le-leb 0 (i % s.h) (omega arith)))

pub returns : goal.returns
returns c = let s = c.args.self in let n = s.w * s.h in let v = s.values.now in let f : ℤ → Bool = λ v. outside v c.args.min c.args.max in
    let e = sym (c.some.ensures f (λ v b k p. search rules)) ∙ c.if-some.false in
    sym (none_first n (λ i. f (at v i)) (λ i l. ap f (sym (get_or-take n v i (pos 0) l))
    ∙ none_of_any (length (take n v)) _ e i (omega (arith, length-take-le n v s.all))))
