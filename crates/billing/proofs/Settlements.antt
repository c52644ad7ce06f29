-- How the answers of the calls make a settlement.
use Rattle.std.proofs.Common.{◌≡◌, ℕ, ◌*◌, ◌<◌, ◌≤◌, List, ℤ, pos, ◌+ℤ◌, nat_abs, sym, ◌∙◌, subst, mul_comm, le-mul_of_pos_right, arith}
use lib.Signed.{pos-nat_abs, yes_non_neg}
use Rattle.std.proofs.lemmas.Int.{ints}
use Rattle.std.specs.Int.{int_rem_euclid}
use Rattle.rounding.specs.Rounding.{RoundedDown}
use Rattle.rounding.proofs.RoundingLaws.{down_bounds}
use Rattle.rounding.proofs.Euclid.{remainder_is, remainder_natural}
use Rattle.composition.specs.Amounts.{Between}
use Rattle.composition.specs.Counts.{total}
use Rattle.billing.specs.Billing.{surplus, Settled}

-- a', by, q' and r' are the pot, the divisor, the rebate and the remainder as they are read again from their bits
pub settled_by : (counts : List ℕ) (pence : List ℤ) (cost : ℤ) (purse : ℕ) (a a' by q q' r r' : ℤ) (h : ℕ) → 0 < total counts → h ≡ total counts
    → a ≡ pos purse +ℤ surplus counts pence cost → a' ≡ a → q' ≡ q → r' ≡ r → RoundedDown a' (100 * h) q → r ≡ int_rem_euclid a' by → by ≡ pos (100 * h)
    → Settled counts pence cost purse q' (nat_abs r')
settled_by counts pence cost purse a a' by q q' r r' h p eh ea ea' eq er d er' eby =
    record { rebate_is = down; purse_is = pos-nat_abs r' (yes_non_neg (rw rest (remainder_natural amount size))) ∙ rest ∙ remainder_is amount q' size (omega arith) down }
  where
    amount : ℤ
    amount = pos purse +ℤ surplus counts pence cost

    size : ℕ
    size = 100 * total counts

    down : RoundedDown amount size q'
    down =
        subst (λ (x : ℤ). RoundedDown x size q') (ea' ∙ ea) (subst (λ (n : ℕ). RoundedDown a' (100 * n) q') eh (subst (RoundedDown a' (100 * h)) (sym eq) d))

    rest : r' ≡ int_rem_euclid amount (pos size)
    rest = cc

-- a quotient rounded down is no further from 0 than the amount; a' and q' are the two as they are read again from their bits
pub down_between : (m d : ℕ) (a a' q q' : ℤ) → 0 < d → Between m a → a' ≡ a → q' ≡ q → RoundedDown a' d q → Between m q'
down_between m d a a' q q' p b ea eq r =
    let more : m ≤ d * m = rw (mul_comm d m) (le-mul_of_pos_right m p) in
    subst (Between m) (sym eq)
    (down_bounds a' q d m p (rw ea (omega (arith, ints, b.0, more))) (rw ea (omega (arith, ints, b.1, more))) r)
