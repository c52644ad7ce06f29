-- What `div_euclid` and `rem_euclid` answer, as one equation over the amount, and what it says of rounding.
use Rattle.std.proofs.Common.{◌≡◌, ℕ, ◌<◌, ℤ, pos, negsuc, ◌+ℤ◌, ◌-ℤ◌, ◌*ℤ◌, ◌≤ℤ◌, ◌<ℤ◌, ap, ◌∙◌, mod-lt, arith}
use native.Mathlib.Nat.{div-add-mod}
use lib.IntN.{+ℤ-neg_ℤ_cancel}
use Rattle.std.proofs.lemmas.Int.{ints}
use Rattle.std.specs.Int.{int_div_euclid, int_rem_euclid}
use Rattle.rounding.specs.Rounding.{RoundedUp, RoundedDown}
use Rattle.rounding.proofs.RoundingLaws.{down_unique}
use Rattle.rounding.proofs.Integers.{*ℤ_+ℤ, *ℤ_-ℤ, *ℤ_one}

-- the amount is the divisor times the quotient, and the remainder
pub divided : (a : ℤ) (d : ℕ) → 0 < d → a ≡ pos d *ℤ int_div_euclid a (pos d) +ℤ int_rem_euclid a (pos d)
divided (pos n) d p = ap pos (omega (arith, div-add-mod n d))
divided (negsuc n) d p = omega (arith, ints, div-add-mod n d, mod-lt n p)

-- the remainder is below the divisor
pub remainder_below : (a : ℤ) (d : ℕ) → 0 < d → int_rem_euclid a (pos d) <ℤ pos d
remainder_below (pos n) d p = omega (arith, ints, mod-lt n p)
remainder_below (negsuc n) d p = omega (arith, ints)

-- and not negative
pub remainder_natural : (a : ℤ) (d : ℕ) → pos 0 ≤ℤ int_rem_euclid a (pos d)
remainder_natural (pos n) d = omega (arith, ints)
remainder_natural (negsuc n) d = omega (arith, ints)

whole : (a a' d' q r : ℤ) (d : ℕ) → 0 < d → a' ≡ a → d' ≡ pos d → q ≡ int_div_euclid a' d' → r ≡ int_rem_euclid a' d' → a ≡ pos d *ℤ q +ℤ r
whole a a' d' q r d p ea ed eq er =
    let e = divided a d p in cc

under : (a a' d' r : ℤ) (d : ℕ) → 0 < d → a' ≡ a → d' ≡ pos d → r ≡ int_rem_euclid a' d' → r <ℤ pos d
under a a' d' r d p ea ed er = let e : r ≡ int_rem_euclid a (pos d) = cc in rw e (remainder_below a d p)

-- with a remainder above 0, the quotient rounded up is one more
up_past : (a q r : ℤ) (d : ℕ) → a ≡ pos d *ℤ q +ℤ r → r <ℤ pos d → pos 0 <ℤ r → RoundedUp a d (q +ℤ pos 1)
up_past a q r d e below above = record {
  below = rw (+ℤ-neg_ℤ_cancel q (pos 1)) (passed (pos d *ℤ q) e);
  reaches = reached (pos d *ℤ q) (pos d *ℤ (q +ℤ pos 1)) e (*ℤ_+ℤ (pos d) q (pos 1) ∙ ap (λ (x : ℤ). pos d *ℤ q +ℤ x) (*ℤ_one (pos d)));
}
  where
    passed : (x : ℤ) → a ≡ x +ℤ r → x <ℤ a
    passed x e = omega (arith, ints)

    reached : (x y : ℤ) → a ≡ x +ℤ r → y ≡ x +ℤ pos d → a ≤ℤ y
    reached x y e f = omega (arith, ints)

-- with none, it is the quotient
up_exact : (a q r : ℤ) (d : ℕ) → a ≡ pos d *ℤ q +ℤ r → 0 < d → r ≡ pos 0 → RoundedUp a d q
up_exact a q r d e p none = record {
  below = short (pos d *ℤ q) (pos d *ℤ (q -ℤ pos 1)) e (*ℤ_-ℤ (pos d) q (pos 1) ∙ ap (λ (x : ℤ). pos d *ℤ q -ℤ x) (*ℤ_one (pos d)));
  reaches = same (pos d *ℤ q) e;
}
  where
    short : (x y : ℤ) → a ≡ x +ℤ r → y ≡ x -ℤ pos d → y <ℤ a
    short x y e f = omega (arith, ints)

    same : (x : ℤ) → a ≡ x +ℤ r → a ≤ℤ x
    same x e = omega (arith, ints)

-- the two for numbers as a call has them: a' and d' are the amount and the divisor, and q and r what the calls answered
pub past_answered : (a a' d' q r : ℤ) (d : ℕ) → 0 < d → a' ≡ a → d' ≡ pos d → q ≡ int_div_euclid a' d' → r ≡ int_rem_euclid a' d' → pos 0 <ℤ r → RoundedUp a d (q +ℤ pos 1)
past_answered a a' d' q r d p ea ed eq er above =
    up_past a q r d (whole a a' d' q r d p ea ed eq er) (under a a' d' r d p ea ed er) above

pub exact_answered : (a a' d' q r : ℤ) (d : ℕ) → 0 < d → a' ≡ a → d' ≡ pos d → q ≡ int_div_euclid a' d' → r ≡ int_rem_euclid a' d' → r ≡ pos 0 → RoundedUp a d q
exact_answered a a' d' q r d p ea ed eq er none = up_exact a q r d (whole a a' d' q r d p ea ed eq er) p none

-- the quotient as it is, rounded down
down_exact : (a q r : ℤ) (d : ℕ) → a ≡ pos d *ℤ q +ℤ r → pos 0 ≤ℤ r → r <ℤ pos d → RoundedDown a d q
down_exact a q r d e above below = record {
  within = short (pos d *ℤ q) e;
  beyond = past (pos d *ℤ q) (pos d *ℤ (q +ℤ pos 1)) e (*ℤ_+ℤ (pos d) q (pos 1) ∙ ap (λ (x : ℤ). pos d *ℤ q +ℤ x) (*ℤ_one (pos d)));
}
  where
    short : (x : ℤ) → a ≡ x +ℤ r → x ≤ℤ a
    short x e = omega (arith, ints)

    past : (x y : ℤ) → a ≡ x +ℤ r → y ≡ x +ℤ pos d → a <ℤ y
    past x y e f = omega (arith, ints)

pub floor_is : (a : ℤ) (d : ℕ) → 0 < d → RoundedDown a d (int_div_euclid a (pos d))
floor_is a d p = down_exact a (int_div_euclid a (pos d)) (int_rem_euclid a (pos d)) d (divided a d p) (remainder_natural a d) (remainder_below a d p)

-- `rem_euclid` is what is left of the amount once the quotient, rounded down, is taken
pub remainder_is : (a q : ℤ) (d : ℕ) → 0 < d → RoundedDown a d q → int_rem_euclid a (pos d) ≡ a -ℤ pos d *ℤ q
remainder_is a q d p r =
    let same : int_div_euclid a (pos d) ≡ q = down_unique a d (int_div_euclid a (pos d)) q (floor_is a d p) r in
    left_over (int_rem_euclid a (pos d)) (pos d *ℤ int_div_euclid a (pos d)) (pos d *ℤ q) (divided a d p) (ap (λ (x : ℤ). pos d *ℤ x) same)
  where
    left_over : (r x y : ℤ) → a ≡ x +ℤ r → x ≡ y → r ≡ a -ℤ y
    left_over r x y e f = omega (arith, ints)
