-- What a caller wants to know of a rounded quotient: it is the only one, and it keeps the bounds of the amount.
use Rattle.std.proofs.Common.{◌≡◌, ℕ, zero, suc, ◌*◌, ◌<◌, ◌≤◌, ℤ, pos, ◌+ℤ◌, ◌-ℤ◌, ◌*ℤ◌, neg_ℤ, ◌≤ℤ◌, ◌<ℤ◌, arith}
use lib.Signed.{<ℤ-≤ℤ_trans}
use Rattle.std.proofs.lemmas.Int.{ints}
use Rattle.rounding.specs.Rounding.{RoundedUp, RoundedDown}
use Rattle.rounding.proofs.Integers.{cancel_≤, cancel_<, ≤ℤ_antisym, *ℤ_negℤ}

≤_<_trans : (a b c : ℤ) → a ≤ℤ b → b <ℤ c → a <ℤ c
≤_<_trans a b c h k = omega (arith, ints)

-- no whole number below a quotient rounded up reaches the amount
pub up_least : (a : ℤ) (d : ℕ) (q z : ℤ) → RoundedUp a d q → a ≤ℤ (pos d *ℤ z) → q ≤ℤ z
up_least a d q z r h =
    let k : (q -ℤ pos 1) <ℤ z = cancel_< d (q -ℤ pos 1) z (<ℤ-≤ℤ_trans r.below h) in omega (arith, ints)

-- no whole number above a quotient rounded down stays within the amount
pub down_greatest : (a : ℤ) (d : ℕ) (q z : ℤ) → RoundedDown a d q → (pos d *ℤ z) ≤ℤ a → z ≤ℤ q
down_greatest a d q z r h =
    let k : z <ℤ (q +ℤ pos 1) = cancel_< d z (q +ℤ pos 1) (≤_<_trans (pos d *ℤ z) a (pos d *ℤ (q +ℤ pos 1)) h r.beyond) in omega (arith, ints)

-- one amount and one divisor give one quotient
pub up_unique : (a : ℤ) (d : ℕ) (q q' : ℤ) → RoundedUp a d q → RoundedUp a d q' → q ≡ q'
up_unique a d q q' r s = ≤ℤ_antisym q q' (up_least a d q q' r s.reaches) (up_least a d q' q s r.reaches)

pub down_unique : (a : ℤ) (d : ℕ) (q q' : ℤ) → RoundedDown a d q → RoundedDown a d q' → q ≡ q'
down_unique a d q q' r s = ≤ℤ_antisym q q' (down_greatest a d q' q s r.within) (down_greatest a d q q' r s.within)

-- an amount between -(d × m) and d × m has a quotient between -m and m, however it is rounded
pub up_bounds : (a q : ℤ) (d m : ℕ) → 0 < d → neg_ℤ (pos (d * m)) ≤ℤ a → a ≤ℤ pos (d * m) → RoundedUp a d q → (neg_ℤ (pos m) ≤ℤ q) × (q ≤ℤ pos m)
up_bounds a q d m p low high r = (cancel_≤ d (neg_ℤ (pos m)) q p (below r.reaches), up_least a d q (pos m) r high)
  where
    below : a ≤ℤ (pos d *ℤ q) → (pos d *ℤ neg_ℤ (pos m)) ≤ℤ (pos d *ℤ q)
    below h = rw (*ℤ_negℤ (pos d) (pos m)) (omega (arith, ints))

pub down_bounds : (a q : ℤ) (d m : ℕ) → 0 < d → neg_ℤ (pos (d * m)) ≤ℤ a → a ≤ℤ pos (d * m) → RoundedDown a d q → (neg_ℤ (pos m) ≤ℤ q) × (q ≤ℤ pos m)
down_bounds a q d m p low high r =
    (down_greatest a d q (neg_ℤ (pos m)) r (rw (*ℤ_negℤ (pos d) (pos m)) low), cancel_≤ d q (pos m) p (within (pos d *ℤ q) a (pos (d * m)) r.within high))
  where
    within : (x y z : ℤ) → x ≤ℤ y → y ≤ℤ z → x ≤ℤ z
    within x y z h k = omega (arith, ints)

-- a quotient rounded up is not above the amount's bound, so that it fits where the amount does
pub up_no_larger : (a q : ℤ) (d h : ℕ) → 0 < d → a ≤ℤ pos h → RoundedUp a d q → q ≤ℤ pos h
up_no_larger a q d h p k r = up_least a d q (pos h) r (let m : h ≤ d * h = le_mul d h p in omega (arith, ints))
  where
    le_mul : (d h : ℕ) → 0 < d → h ≤ d * h
    le_mul zero h p = omega arith
    le_mul (suc d) h p = omega arith
