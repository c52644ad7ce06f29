-- That numbers are parsed as they are printed. These are proofs, and nobody has to read them: they stand here and not in proofs/ since an
-- implementation of a trait can name only what stands in specs/.
use Rattle.std.specs.Prelude.{◌≡◌, ◌≢◌, ℕ, ◌^◌, ◌<◌, ◌≤◌, List, [], ◌∷◌, length, Ok, Err, Result, ℤ, pos, negsuc, neg_ℤ, FitsSigned, refl}
use Rattle.std.specs.Fmt.{decimal, signed_decimal}
use Rattle.std.specs.Int.{IsInRange}
use Rattle.std.specs.Int.Signed.{mag}
use Rattle.std.specs.Str.Parse.{AllDigits, digits_value, ParsesUnsigned, ParsesSigned}
use Rattle.std.proofs.Common.{zero, suc, sym, ap, subst, ◌∙◌, inl, inr, get_or, arith}
use Rattle.std.proofs.lemmas.Fmt.{decimal-digits_value, decimal_digit, parse-decimal, parse-signed_decimal, first_decimal, decimal_nonempty, decimal_is_IsNumeral, IsAscii-decimal, IsAscii-signed}
use Rattle.std.proofs.lemmas.Str.{IsUtf8-from_ascii}
use Rattle.std.proofs.lemmas.Str.Parse.{IsNumeralModel, numerals_by_value, tells_digits, digit_at, parse_plain, parse_signed_plain, parse_signed_minus}
use Rattle.ledger_lines.specs.Plain.{Plain, Parsed, Printed}
use mir.Syntax.{Width}
use mir.Val.{hbits}

own : IsNumeralModel (AllDigits 10) (digits_value 10)
own = numerals_by_value (AllDigits 10) tells_digits

-- a plain word does not begin with a plus sign
no_plus : (word : List ℕ) → Plain word → get_or word 0 0 ≢ 43
no_plus word (inl zero_alone) e = let first : get_or word 0 0 ≡ 48 = ap (λ w. get_or w 0 0) zero_alone in omega arith
no_plus word (inr (inl digit)) e = omega (arith, digit.0)
no_plus word (inr (inr minus)) e = omega (arith, minus.0)

-- if it begins with a zero, then it is that zero
no_zeros : (word : List ℕ) → Plain word → get_or word 0 0 ≡ 48 → length word ≡ 1
no_zeros word (inl zero_alone) e = ap length zero_alone
no_zeros word (inr (inl digit)) e = absurd (omega (arith, digit.0))
no_zeros word (inr (inr minus)) e = absurd (omega (arith, minus.0))

-- ---- numbers without a sign

pub parsed_unsigned : (E : Type 0) (k : ℕ) → 2 ^ k ≤ 2 ^ 64 → (word : List ℕ) (outcome : Result ℕ E) → Plain word → ParsesUnsigned k 10 word outcome → Parsed (λ n. n < 2 ^ k) decimal word outcome
parsed_unsigned E k few word (Ok n) plain given =
    let p = parse_plain own {E = E} k word (Ok n) given (no_plus word plain) in
    let same : n ≡ digits_value 10 word = p.1 in
    let small : digits_value 10 word < 2 ^ k = p.0.2 in
    let printed = decimal-digits_value own word p.0.0 p.0.1 (no_zeros word plain) (omega arith) in
    (omega arith, sym (ap decimal same ∙ printed))
parsed_unsigned E k few word (Err e) plain given =
    λ n small written. let read = parse-decimal {E = E} k n word (Err e) small (omega arith) written given in cc

decimal_plain : (n : ℕ) → n < 2 ^ 64 → Plain (decimal n)
decimal_plain zero small = inl (decimal_digit 0 (omega arith))
decimal_plain (suc n) small =
    let digits = (decimal_is_IsNumeral (suc n) small).0 in
    let above = first_decimal (suc n) (omega arith) small in
    let digit = digit_at (decimal (suc n)) 0 digits.1 (decimal_nonempty (suc n) small) in
    inr (inl (omega arith, digit.1))

pub printed_unsigned : (k : ℕ) → 2 ^ k ≤ 2 ^ 64 → (n : ℕ) → n < 2 ^ k → Printed (decimal n)
printed_unsigned k few n small =
    let small_enough : n < 2 ^ 64 = omega arith in
    (decimal_plain n small_enough, IsUtf8-from_ascii (decimal n) (IsAscii-decimal n small_enough))

-- ---- numbers with a sign

-- a minus sign and digits that do not begin with a zero
below_zero : (ds : List ℕ) (v : ℕ) → decimal v ≡ ds → 49 ≤ get_or ds 0 0 → 45 ∷ ds ≡ signed_decimal (neg_ℤ (pos v))
below_zero ds zero written first =
    let zero_first : get_or ds 0 0 ≡ 48 = ap (λ w. get_or w 0 0) (sym written ∙ decimal_digit 0 (omega arith)) in
    absurd (omega arith)
below_zero ds (suc v) written first = ap (λ w. 45 ∷ w) (sym written)

parsed_plain : (E : Type 0) (w : Width) → 2 ^ hbits w ≤ 2 ^ 63 → (word : List ℕ) (n : ℤ) → Plain word → get_or word 0 0 ≢ 45 → ParsesSigned {E = E} w 10 word (Ok n) → word ≡ signed_decimal n
parsed_plain E w few word n plain above given =
    let p = parse_signed_plain own {E = E} w word (Ok n) given (no_plus word plain) above in
    let small : digits_value 10 word < 2 ^ hbits w = p.0.2 in
    let printed = decimal-digits_value own word p.0.0 p.0.1 (no_zeros word plain) (omega arith) in
    sym (ap signed_decimal p.1 ∙ printed)

parsed_minus : (E : Type 0) (w : Width) → 2 ^ hbits w ≤ 2 ^ 63 → (word : List ℕ) (n : ℤ) → get_or word 0 0 ≡ 45 → IsInRange 49 57 (get_or word 1 0) → ParsesSigned {E = E} w 10 word (Ok n) → word ≡ signed_decimal n
parsed_minus E w few [] n minus digit given = absurd (omega arith)
parsed_minus E w few (c ∷ ds) n minus digit given =
    let p = parse_signed_minus own {E = E} w (c ∷ ds) (Ok n) given minus in
    let small : digits_value 10 ds ≤ 2 ^ hbits w = p.0.2 in
    let first : 49 ≤ get_or ds 0 0 = digit.0 in
    let printed = decimal-digits_value own ds p.0.0 p.0.1 (λ e. absurd (omega arith)) (omega arith) in
    ap (λ b. b ∷ ds) minus ∙ (below_zero ds (digits_value 10 ds) printed first ∙ ap signed_decimal (sym p.1))

pub parsed_signed : (E : Type 0) (w : Width) → 2 ^ hbits w ≤ 2 ^ 63 → (word : List ℕ) (outcome : Result ℤ E) → Plain word → ParsesSigned w 10 word outcome → Parsed (FitsSigned w) signed_decimal word outcome
parsed_signed E w few word (Ok n) plain given = (subst (FitsSigned w) (sym given.1) given.0.1, written plain)
  where
    written : Plain word → word ≡ signed_decimal n
    written (inl zero_alone) =
        let first : get_or word 0 0 ≡ 48 = ap (λ w. get_or w 0 0) zero_alone in
        parsed_plain E w few word n plain (λ e. omega arith) given
    written (inr (inl digit)) = parsed_plain E w few word n plain (λ e. omega (arith, digit.0)) given
    written (inr (inr minus)) = parsed_minus E w few word n minus.0 minus.1 given
parsed_signed E w few word (Err e) plain given =
    λ n fits written. let small : mag n < 2 ^ hbits w = fits.sfits in let read = parse-signed_decimal {E = E} w n word (Err e) fits (omega arith) written given in cc

signed_plain : (n : ℤ) → mag n < 2 ^ 63 → Plain (signed_decimal n)
signed_plain (pos n) small = decimal_plain n (omega arith)
signed_plain (negsuc n) small =
    let below : suc n < 2 ^ 64 = omega arith in
    let digits = (decimal_is_IsNumeral (suc n) below).0 in
    let above = first_decimal (suc n) (omega arith) below in
    let digit = digit_at (decimal (suc n)) 0 digits.1 (decimal_nonempty (suc n) below) in
    inr (inr (refl, (omega arith, digit.1)))

pub printed_signed : (w : Width) → 2 ^ hbits w ≤ 2 ^ 63 → (n : ℤ) → FitsSigned w n → Printed (signed_decimal n)
printed_signed w few n fits =
    let small : mag n < 2 ^ hbits w = fits.sfits in
    let small_enough : mag n < 2 ^ 63 = omega arith in
    (signed_plain n small_enough, IsUtf8-from_ascii (signed_decimal n) (IsAscii-signed n small_enough))
