-- That each rule owes what every rule owes. These are proofs, and nobody has to read them: they stand here and not in proofs/ since an
-- implementation of the interface can name only what stands in specs/.
use Rattle.std.specs.Prelude.{◌≡◌, ℕ, ◌*◌, ◌<◌, ◌≤◌, Bool, true, false, cond, ◌&&◌, List, length, ℤ, pos, ◌+ℤ◌, neg_ℤ, Ok, Err, Result, int_le, slice_index_or, refl}
use Rattle.std.proofs.Common.{ap, subst, mul-le-mul_right, arith}
use Rattle.std.proofs.lemmas.Int.{ints}
use Rattle.composition.proofs.Amounts.{weighted_between, weighted_nobody}
use Rattle.composition.proofs.Four.{nobody_inside, nobody_place}
use Rattle.composition.proofs.Places.{fits_inside, inside_fits, place_below}
use Rattle.composition.specs.Amounts.{weighted}
use Rattle.composition.specs.Counts.{total, fits, place, size, nobody}
use Rattle.cost_rules.specs.Faults.{above_box, outside_limits}
use Rattle.cost_rules.specs.Fees.{IsFee}
use Rattle.cost_rules.specs.Heads.{headed}
use Rattle.cost_rules.specs.Limits.{limit, Within}
use Rattle.cost_rules.specs.Listed.{listed}
use Rattle.cost_rules.specs.Meanings.{Meaning, Free, Limited, Lawful}
use Rattle.cost_rules.specs.Prices.{priced}
use Rattle.cost_rules.specs.Sums.{both, sum_of}
use Rattle.cost_rules.specs.declared.fault.Fault.{Fault}

-- ---- the listed rule

-- nobody stands at the first place of every box
pub listed_free : (box : List ℕ) (table : List ℤ) → length box ≡ 4 → slice_index_or table 0 (pos 0) ≡ pos 0 → Free (listed box table)
listed_free box table four free = rw (inside_fits nobody box (nobody_inside box four), nobody_place box four) (ap Ok free)

pub listed_limited :
    (box : List ℕ) (table : List ℤ)
    → length table ≡ size box
    → ((p : ℕ) → p < length table → Within (slice_index_or table p (pos 0)))
    → Limited (listed box table)
listed_limited box table whole within n four few c = go (fits n box) refl
  where
    entry : ℤ
    entry = slice_index_or table (place box n) (pos 0)

    go : (b : Bool) → fits n box ≡ b → cond b (Ok entry) (Err above_box) ≡ Ok c → Within c
    go true inside e =
        let same : entry ≡ c = cc in
        let below : place box n < length table = omega (arith, place_below box n (fits_inside n box inside), whole) in
        subst Within same (within (place box n) below)
    go false inside e = cc

-- ---- the head rule

pub headed_free : (fees : List ℤ) → length fees ≡ 4 → Free (headed fees)
headed_free fees four = ap Ok (weighted_nobody fees four)

-- 24 homes cannot be charged more than a rule may cost
pub headed_limited : (fees : List ℤ) → ((i : ℕ) → i < 4 → IsFee (slice_index_or fees i (pos 0))) → length fees ≡ 4 → Limited (headed fees)
headed_limited fees small four n length_n few c e =
    let same : weighted n fees ≡ c = cc in
    let most : total n * 1000000 ≤ 24 * 1000000 = mul-le-mul_right 1000000 few in
    let bound = weighted_between 1000000 n fees (λ i h. small i (omega (arith, h, four))) in
    subst Within same (omega (arith, ints, bound.0, most), omega (arith, ints, bound.1, most))

-- ---- the sum of two rules

-- what has a price has it within the limits
pub priced_within : (a c : ℤ) → priced a ≡ Ok c → Within c
priced_within a c = go (int_le (neg_ℤ (pos limit)) a) (int_le a (pos limit)) refl refl
  where
    go :
        (low high : Bool)
        → int_le (neg_ℤ (pos limit)) a ≡ low
        → int_le a (pos limit) ≡ high
        → cond (low && high) (Ok a) (Err outside_limits) ≡ Ok c
        → Within c
    go true true l h e = let same : a ≡ c = cc in (omega (arith, ints), omega (arith, ints))
    go true false l h e = cc
    go false high l h e = cc

pub sum_free : (f g : Meaning) → Free f → Free g → Free (sum_of f g)
sum_free f g p q = rw (p, q)

both_within : (x y : Result ℤ Fault) (c : ℤ) → both x y ≡ Ok c → Within c
both_within (Ok a) (Ok b) c e = priced_within (a +ℤ b) c e
both_within (Ok a) (Err g) c e = cc
both_within (Err f) y c e = cc

pub sum_limited : (f g : Meaning) → Limited f → Limited g → Limited (sum_of f g)
sum_limited f g p q n four few c e = both_within (f n) (g n) c e

-- so the sum of two rules is a rule
pub sum_lawful : (f g : Meaning) → Lawful f → Lawful g → Lawful (sum_of f g)
sum_lawful f g p q = record { free = sum_free f g p.free q.free; limited = sum_limited f g p.limited q.limited }
