use Rattle.std.proofs.Common.{◌≡◌, ℕ, true, Some, None, Ok, Err, Result, ◌∙◌, subst, arith}
use lib.Utf8.{scalar, scalar_fits}
use Rattle.std.specs.Result.{OkIff, result_ok}
use Rattle.std.specs.Str.Parse.{digits_value}
use Rattle.keystrokes.proofs.Words.{code_point_is}
use Rattle.keystrokes.proofs.numbers.read_code_point.Goals as goal

-- what is taken out of a result is the value that it has
taken : {E : Type 0} (P : Type 0) (v x : ℕ) (r : Result ℕ E) → OkIff r P v → Some x ≡ result_ok r → x ≡ v
taken P v x (Ok y) is some = let same : x ≡ y = cc in same ∙ is.1
taken P v x (Err e) is some = cc

pub returns-in_err-number : goal.returns-in_err-number
returns-in_err-number c =
    let no_number = rw c.in_err-number.was at c.number.ensures in
    rw c.from_residual.ensures (code_point_is None c.args.word.now (λ p. no_number (p.0, omega (arith, scalar_fits (digits_value 16 c.args.word.now) p.1))))

pub returns : goal.returns
returns c =
    let word = c.args.word.now in
    let code = c.in_ok-code.code in
    let is : code ≡ digits_value 16 word = taken _ _ code c.try_from.result c.try_from.ensures c.in_ok-code.ensures.value ∙ c.in_ok-number.ensures.1 in
    code_point_is (Some code) word ((c.in_ok-number.ensures.0.0, subst (λ n. scalar n ≡ true) is c.in_ok-from_u32.ensures.value.0), is)
