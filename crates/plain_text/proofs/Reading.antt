-- A word is read as a decimal or as a fraction, whichever it is.
use Rattle.std.proofs.Common.{◌≡◌, ℕ, ◌^◌, Bool, true, false, Some, None, Option, List, ◌++◌, length, sym, subst, ◌∙◌}
use Rattle.std.specs.Prelude.{pos, ◌&&◌, if◌then◌else◌, MatchResult}
use Rattle.std.specs.declared.result.Result.{Result}
use Rattle.numbers.specs.Fraction.{lowest}
use Rattle.plain_text.specs.declared.fault.NumberFault.{NumberFault}
use Rattle.plain_text.specs.declared.number_form.NumberForm.{NumberForm}
use Rattle.plain_text.specs.declared.number_word.NumberWord.{NumberWord}
use Rattle.plain_text.specs.Digits.{is_digits, value_of_digits}
use Rattle.plain_text.specs.NumberWords.{signed, is_negative, numerator_part, denominator_part, whole_part, decimal_part, is_decimal, fraction_fault, decimal_fault, number_fault, number_value}
use Rattle.plain_text.specs.Views.{fraction_of}

-- the answer is the number with this fault or none, with this sign, numerator and denominator
abbrev pub Answers : Result NumberWord NumberFault → Option NumberFault → Bool → ℕ → ℕ → Type 0
Answers r fault negative a b = MatchResult r (λ f. (fault ≡ None) × (fraction_of f ≡ lowest (signed negative a) (pos b))) (λ e. fault ≡ Some e)

-- the same of a word with these parts, which are a decimal or a fraction
abbrev AnswersParts : Result NumberWord NumberFault → NumberForm → Bool → List ℕ → List ℕ → List ℕ → List ℕ → Bool → Type 0
AnswersParts r form is before behind over under negative = Answers r
    (if is then decimal_fault form before behind else fraction_fault over under)
    negative
    (if is then value_of_digits (before ++ behind) else value_of_digits over)
    (if is then 10 ^ length behind else value_of_digits under)

-- of the word
abbrev pub AnswersWord : Result NumberWord NumberFault → NumberForm → List ℕ → Type 0
AnswersWord r form word = MatchResult r (λ f. (number_fault form word ≡ None) × (fraction_of f ≡ number_value word)) (λ e. number_fault form word ≡ Some e)

pub decimal_read : (form : NumberForm) (word before behind : List ℕ) (negative : Bool) (r : Result NumberWord NumberFault) →
    before ≡ whole_part word → behind ≡ decimal_part word → negative ≡ is_negative word → (is_digits before && is_digits behind) ≡ true →
    Answers r (decimal_fault form before behind) negative (value_of_digits (before ++ behind)) (10 ^ length behind) → AnswersWord r form word
unfolding number_fault number_value
decimal_read form word before behind negative r e f g digits h =
    let over = numerator_part word in
    let under = denominator_part word in
    let same : (is_digits before && is_digits behind) ≡ is_decimal word = λ i. is_digits (e i) && is_digits (f i) in
    let one = subst (λ (b : List ℕ). AnswersParts r form true b behind over under negative) e h in
    let two = subst (λ (d : List ℕ). AnswersParts r form true (whole_part word) d over under negative) f one in
    let three = subst (AnswersParts r form true (whole_part word) (decimal_part word) over under) g two in
    subst (λ (is : Bool). AnswersParts r form is (whole_part word) (decimal_part word) over under (is_negative word)) (sym digits ∙ same) three

pub fraction_read : (form : NumberForm) (word before behind over under : List ℕ) (negative : Bool) (r : Result NumberWord NumberFault) →
    before ≡ whole_part word → behind ≡ decimal_part word → over ≡ numerator_part word → under ≡ denominator_part word → negative ≡ is_negative word → (is_digits before && is_digits behind) ≡ false →
    Answers r (fraction_fault over under) negative (value_of_digits over) (value_of_digits under) → AnswersWord r form word
unfolding number_fault number_value
fraction_read form word before behind over under negative r e f p q g digits h =
    let same : (is_digits before && is_digits behind) ≡ is_decimal word = λ i. is_digits (e i) && is_digits (f i) in
    let one = subst (λ (b : List ℕ). AnswersParts r form false (whole_part word) (decimal_part word) b under negative) p h in
    let two = subst (λ (d : List ℕ). AnswersParts r form false (whole_part word) (decimal_part word) (numerator_part word) d negative) q one in
    let three = subst (AnswersParts r form false (whole_part word) (decimal_part word) (numerator_part word) (denominator_part word)) g two in
    subst (λ (is : Bool). AnswersParts r form is (whole_part word) (decimal_part word) (numerator_part word) (denominator_part word) (is_negative word)) (sym digits ∙ same) three
