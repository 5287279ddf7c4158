use Rattle.std.proofs.Common.{◌≡◌, None, Ok, Err, MatchResult, Result, sym, ◌∙◌}
use Rattle.std.specs.Result.{result_ok}
use Rattle.keystrokes.proofs.Words.{numeral_utf8}
use Rattle.keystrokes.proofs.numbers.number.Goals as goal

-- where there is no text, the reason says what the bytes are not
no_text : {A E : Type 0} (P : A → Type 0) (Not : Type 0) (Q : E → Type 0) (r : Result A E) → result_ok r ≡ None → MatchResult r P (λ e. Not × Q e) → Not
no_text P Not Q (Ok x) none cases = cc
no_text P Not Q (Err e) none cases = cases.0

pub returns-in_err-text : goal.returns-in_err-text
returns-in_err-text c =
    let unreadable = no_text _ _ _ c.from_utf8.result (sym c.ok.ensures.value ∙ c.in_err-text.was) c.from_utf8.ensures.cases in
    rw c.from_residual.ensures (λ n. unreadable (numeral_utf8 c.args.base c.args.word.now c.requires.high n.0))
