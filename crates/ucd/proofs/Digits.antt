-- Numbers that digits write. Assumes nothing.
use Rattle.std.proofs.Common.{◌≡◌, ℕ, suc, ◌+◌, ◌-◌, ◌*◌, ◌^◌, ◌<◌, ◌≤◌, true, cond, List, [], ◌∷◌, get_or, take, drop, Some, sym, ap, ◌∙◌, subst, pow-suc, one-add, arith, lit<, rules}
use native.Mathlib.Nat.{pow-le-pow_right}
use Rattle.std.proofs.lemmas.Bool.{true≢false}
use Rattle.std.proofs.lemmas.Option.{cond_some}
use Rattle.std.specs.Str.Parse.{digits_value_after}
use Rattle.std.specs.Char.{digit_value}
use Rattle.std.specs.List.{prefix_len}
use Rattle.ucd.specs.Bytes.{Digit, is}
use Rattle.ucd.specs.Points.{digit_of, point_of, behind}

-- so many of six digits are still to be read
pub record Remains (text : List ℕ) (number : ℕ) (rest : List ℕ) : Type 0 where
  pub whole : digits_value_after 16 number (take (prefix_len (is Digit) rest) rest) ≡ point_of text
  pub end : behind rest ≡ behind text
  pub few : prefix_len (is Digit) rest ≤ 6
  pub small : number < 16 ^ (6 - prefix_len (is Digit) rest)

digit_small : (b : ℕ) → is Digit b ≡ true → digit_value b < 16
digit_small b sure = search rules

-- one digit more makes the number sixteen times as large at most
grown : (number value n : ℕ) → n < 6 → value < 16 → number < 16 ^ (6 - suc n) → number * 16 + value < 16 ^ (6 - n)
grown number value n few digit small =
    let next : 16 ^ (6 - n) ≡ 16 ^ (6 - suc n) * 16 = ap (λ k. 16 ^ k) (omega arith) ∙ pow-suc 16 (6 - suc n) in
    omega (arith, next)

remains_digit : (text : List ℕ) (number b : ℕ) (bs : List ℕ) → is Digit b ≡ true → Remains text number (b ∷ bs) → Remains text (number * 16 + digit_value b) bs
remains_digit text number b bs sure h =
    let one : prefix_len (is Digit) (b ∷ bs) ≡ suc (prefix_len (is Digit) bs) = ap (λ v. cond v (1 + prefix_len (is Digit) bs) 0) sure ∙ one-add (prefix_len (is Digit) bs) in
    record {
      whole = sym (ap (λ n. digits_value_after 16 number (take n (b ∷ bs))) one) ∙ h.whole;
      end = sym (ap (λ n. drop n (b ∷ bs)) one) ∙ h.end;
      few = omega (arith, one, h.few);
      small = grown number (digit_value b) (prefix_len (is Digit) bs) (omega (arith, one, h.few)) (digit_small b sure) (subst (λ n. number < 16 ^ (6 - n)) one h.small);
    }

-- one digit less
pub remains_more : (text : List ℕ) (number value : ℕ) (rest more : List ℕ) → more ≡ drop 1 rest → Some value ≡ digit_of (get_or rest 0 0) → Remains text number rest → Remains text (number * 16 + value) more
remains_more text number value [] more is-more digit h = absurd (true≢false cc)
remains_more text number value (b ∷ bs) more is-more digit h =
    let told = cond_some (is Digit b) (digit_value b) value (sym digit) in
    subst (λ v. Remains text (number * 16 + v) more) told.1 (subst (Remains text (number * 16 + digit_value b)) (sym is-more) (remains_digit text number b bs told.0 h))

-- six digits write less than 16 ^ 6
pub remains_small : (text : List ℕ) (number : ℕ) (rest : List ℕ) → Remains text number rest → number < 16777216
remains_small text number rest h =
    let most : 16 ^ (6 - prefix_len (is Digit) rest) ≤ 16 ^ 6 = pow-le-pow_right (lit< tt) {i = 6 - prefix_len (is Digit) rest} {j = 6} (omega arith) in
    omega (arith, h.small, most)
