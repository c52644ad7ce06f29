-- The table of weights: its entries are the weights, row after row.
use Rattle.std.proofs.Common.{◌≡◌, ℕ, zero, suc, ◌+◌, ◌-◌, ◌*◌, ◌/◌, ◌<◌, ◌≤◌, Bool, true, eqb, List, [], ◌∷◌, get_or, ap, ◌∙◌, zero-mul, arith, refl}
use Rattle.std.proofs.lemmas.Bool.{eqb-true}
use native.Mathlib.Nat.{mul-div_cancel_left}
use Rattle.shapley.proofs.CommonMultiples.{lcm_to_pos}
use Rattle.shapley.proofs.Tests.{each_below, at}
use Rattle.shapley.proofs.Weights.{weights_are_exact, row_starts}
use Rattle.shapley.specs.Combinations.{choose}
use Rattle.shapley.specs.CommonMultiple.{lcm_to}
use Rattle.shapley.specs.Weights.{weight, HasWeight}
use Rattle.composition.specs.Counts.{most}

-- the table as the code has it
unfoldable pub table : List ℕ
table =
    1 ∷
    1 ∷ 1 ∷
    2 ∷ 1 ∷ 2 ∷
    3 ∷ 1 ∷ 1 ∷ 3 ∷
    12 ∷ 3 ∷ 2 ∷ 3 ∷ 12 ∷
    10 ∷ 2 ∷ 1 ∷ 1 ∷ 2 ∷ 10 ∷
    60 ∷ 10 ∷ 4 ∷ 3 ∷ 4 ∷ 10 ∷ 60 ∷
    105 ∷ 15 ∷ 5 ∷ 3 ∷ 3 ∷ 5 ∷ 15 ∷ 105 ∷
    280 ∷ 35 ∷ 10 ∷ 5 ∷ 4 ∷ 5 ∷ 10 ∷ 35 ∷ 280 ∷
    252 ∷ 28 ∷ 7 ∷ 3 ∷ 2 ∷ 2 ∷ 3 ∷ 7 ∷ 28 ∷ 252 ∷
    2520 ∷ 252 ∷ 56 ∷ 21 ∷ 12 ∷ 10 ∷ 12 ∷ 21 ∷ 56 ∷ 252 ∷ 2520 ∷
    2310 ∷ 210 ∷ 42 ∷ 14 ∷ 7 ∷ 5 ∷ 5 ∷ 7 ∷ 14 ∷ 42 ∷ 210 ∷ 2310 ∷
    27720 ∷ 2310 ∷ 420 ∷ 126 ∷ 56 ∷ 35 ∷ 30 ∷ 35 ∷ 56 ∷ 126 ∷ 420 ∷ 2310 ∷ 27720 ∷
    25740 ∷ 1980 ∷ 330 ∷ 90 ∷ 36 ∷ 20 ∷ 15 ∷ 15 ∷ 20 ∷ 36 ∷ 90 ∷ 330 ∷ 1980 ∷ 25740 ∷
    24024 ∷ 1716 ∷ 264 ∷ 66 ∷ 24 ∷ 12 ∷ 8 ∷ 7 ∷ 8 ∷ 12 ∷ 24 ∷ 66 ∷ 264 ∷ 1716 ∷ 24024 ∷
    45045 ∷ 3003 ∷ 429 ∷ 99 ∷ 33 ∷ 15 ∷ 9 ∷ 7 ∷ 7 ∷ 9 ∷ 15 ∷ 33 ∷ 99 ∷ 429 ∷ 3003 ∷ 45045 ∷
    720720 ∷ 45045 ∷ 6006 ∷ 1287 ∷ 396 ∷ 165 ∷ 90 ∷ 63 ∷ 56 ∷ 63 ∷ 90 ∷ 165 ∷ 396 ∷ 1287 ∷ 6006 ∷ 45045 ∷ 720720 ∷
    680680 ∷ 40040 ∷ 5005 ∷ 1001 ∷ 286 ∷ 110 ∷ 55 ∷ 35 ∷ 28 ∷ 28 ∷ 35 ∷ 55 ∷ 110 ∷ 286 ∷ 1001 ∷ 5005 ∷ 40040 ∷
    680680 ∷
    12252240 ∷ 680680 ∷ 80080 ∷ 15015 ∷ 4004 ∷ 1430 ∷ 660 ∷ 385 ∷ 280 ∷ 252 ∷ 280 ∷ 385 ∷ 660 ∷ 1430 ∷ 4004 ∷ 15015 ∷
    80080 ∷ 680680 ∷ 12252240 ∷
    11639628 ∷ 612612 ∷ 68068 ∷ 12012 ∷ 3003 ∷ 1001 ∷ 429 ∷ 231 ∷ 154 ∷ 126 ∷ 126 ∷ 154 ∷ 231 ∷ 429 ∷ 1001 ∷ 3003 ∷
    12012 ∷ 68068 ∷ 612612 ∷ 11639628 ∷
    11085360 ∷ 554268 ∷ 58344 ∷ 9724 ∷ 2288 ∷ 715 ∷ 286 ∷ 143 ∷ 88 ∷ 66 ∷ 60 ∷ 66 ∷ 88 ∷ 143 ∷ 286 ∷ 715 ∷ 2288 ∷
    9724 ∷ 58344 ∷ 554268 ∷ 11085360 ∷
    10581480 ∷ 503880 ∷ 50388 ∷ 7956 ∷ 1768 ∷ 520 ∷ 195 ∷ 91 ∷ 52 ∷ 36 ∷ 30 ∷ 30 ∷ 36 ∷ 52 ∷ 91 ∷ 195 ∷ 520 ∷ 1768 ∷
    7956 ∷ 50388 ∷ 503880 ∷ 10581480 ∷
    232792560 ∷ 10581480 ∷ 1007760 ∷ 151164 ∷ 31824 ∷ 8840 ∷ 3120 ∷ 1365 ∷ 728 ∷ 468 ∷ 360 ∷ 330 ∷ 360 ∷ 468 ∷ 728 ∷
    1365 ∷ 3120 ∷ 8840 ∷ 31824 ∷ 151164 ∷ 1007760 ∷ 10581480 ∷ 232792560 ∷
    223092870 ∷ 9699690 ∷ 881790 ∷ 125970 ∷ 25194 ∷ 6630 ∷ 2210 ∷ 910 ∷ 455 ∷ 273 ∷ 195 ∷ 165 ∷ 165 ∷ 195 ∷ 273 ∷
    455 ∷ 910 ∷ 2210 ∷ 6630 ∷ 25194 ∷ 125970 ∷ 881790 ∷ 9699690 ∷ 223092870 ∷ []

-- where the entry for n homes and j others stands
abbrev pub entry_place : ℕ → ℕ → ℕ
entry_place n j = n * (n - 1) / 2 + j

-- the entry is the weight
right : ℕ → ℕ → Bool
right n j = eqb (get_or table (entry_place n j) 0) (weight n j)

-- one test of all rows
all_right : each_below 25 (λ n. each_below n (right n)) ≡ true
unfolding table right
all_right = refl

pub entry_is_weight : (n j : ℕ) → HasWeight n j → get_or table (entry_place n j) 0 ≡ weight n j
unfolding right
entry_is_weight n j (_, few, below) =
    eqb-true (get_or table (entry_place n j) 0) (weight n j)
    (at n (right n) (at 25 (λ m. each_below m (right m)) all_right n (omega arith)) j below)

-- no weight is 0: times something it gives the least common multiple
pub weight_pos : (n j : ℕ) → HasWeight n j → 0 < weight n j
weight_pos n j has = factor_pos (weight n j) (n * choose (n - 1) j) (lcm_to n) (weights_are_exact n j has) (lcm_to_pos n)
  where
    factor_pos : (w d l : ℕ) → w * d ≡ l → 0 < l → 0 < w
    factor_pos zero d l e h = absurd (omega (arith, zero-mul d))
    factor_pos (suc w) d l e h = omega arith

-- a row's first weight over another is in how many ways the others can be picked
pub row_quotient : (m j : ℕ) → m < most → j ≤ m → weight (m + 1) 0 / weight (m + 1) j ≡ choose m j
row_quotient m j p q =
    ap (λ (x : ℕ). x / weight (m + 1) j) (row_starts (m + 1) j (omega arith) (omega arith) (omega arith))
    ∙ mul-div_cancel_left (choose (m + 1 - 1) j) (weight_pos (m + 1) j (omega arith, omega arith, omega arith))
    ∙ ap (λ (x : ℕ). choose x j) one_less
  where
    one_less : m + 1 - 1 ≡ m
    one_less = omega arith
