-- One home more or fewer: what it does to a list of counts.
use Rattle.std.proofs.Common.{◌≡◌, ℕ, zero, suc, ◌+◌, ◌-◌, ◌<◌, ◌≤◌, List, [], ◌∷◌, length, set, refl, ap, arith}
use Rattle.composition.specs.Counts.{total, count, raised, lowered}
use Rattle.composition.specs.Types.{position}
use Rattle.composition.specs.declared.composition.Composition.{Composition}
use Rattle.composition.specs.declared.demand_type.DemandType.{DemandType}
use Rattle.composition.specs.declared.demand_type.DemandType.TheVariants.{One, Two, Three, Four}

pub position_below : (k : DemandType) → position k < 4
position_below One = omega arith
position_below Two = omega arith
position_below Three = omega arith
position_below Four = omega arith

-- a composition has a count for each type
pub type_counted : (k : DemandType) (homes : Composition) → position k < length homes.counts
type_counted k homes = omega (arith, position_below k, homes.four)

pub length_raised : (i : ℕ) (ns : List ℕ) → length (raised i ns) ≡ length ns
length_raised i [] = refl
length_raised zero (n ∷ ns) = refl
length_raised (suc i) (n ∷ ns) = ap suc (length_raised i ns)

pub length_lowered : (i : ℕ) (ns : List ℕ) → length (lowered i ns) ≡ length ns
length_lowered i [] = refl
length_lowered zero (n ∷ ns) = refl
length_lowered (suc i) (n ∷ ns) = ap suc (length_lowered i ns)

pub total_raised : (i : ℕ) (ns : List ℕ) → i < length ns → total (raised i ns) ≡ total ns + 1
total_raised i [] h = absurd (omega arith)
total_raised zero (n ∷ ns) h = omega arith
total_raised (suc i) (n ∷ ns) h = let t : total (raised i ns) ≡ total ns + 1 = total_raised i ns (omega arith) in omega arith

pub total_lowered : (i : ℕ) (ns : List ℕ) → 0 < count i ns → total (lowered i ns) + 1 ≡ total ns
total_lowered i [] h = absurd (omega arith)
total_lowered zero (n ∷ ns) h = omega arith
total_lowered (suc i) (n ∷ ns) h = let t : total (lowered i ns) + 1 ≡ total ns = total_lowered i ns h in omega arith

-- no type has more homes than all types together
pub count_le_total : (i : ℕ) (ns : List ℕ) → count i ns ≤ total ns
count_le_total i [] = omega arith
count_le_total zero (n ∷ ns) = omega arith
count_le_total (suc i) (n ∷ ns) = let t : count i ns ≤ total ns = count_le_total i ns in omega arith

-- as a program writes it: the count at the position goes up by one, the others stay
pub set_raised : (i : ℕ) (ns : List ℕ) → set ns i (count i ns + 1) ≡ raised i ns
set_raised i [] = refl
set_raised zero (n ∷ ns) = refl
set_raised (suc i) (n ∷ ns) = ap (λ ms. n ∷ ms) (set_raised i ns)

pub set_lowered : (i : ℕ) (ns : List ℕ) → set ns i (count i ns - 1) ≡ lowered i ns
set_lowered i [] = refl
set_lowered zero (n ∷ ns) = refl
set_lowered (suc i) (n ∷ ns) = ap (λ ms. n ∷ ms) (set_lowered i ns)

-- the same, where a number is only known to be one more, or one fewer
pub set_one_more : (i n : ℕ) (ns : List ℕ) → n ≡ count i ns + 1 → set ns i n ≡ raised i ns
set_one_more i n ns e = rw e (set_raised i ns)

pub set_one_fewer : (i n : ℕ) (ns : List ℕ) → n ≡ count i ns - 1 → set ns i n ≡ lowered i ns
set_one_fewer i n ns e = rw e (set_lowered i ns)

-- a group of fewer than 24 stays a group with one home more
pub one_more_fits : (i n : ℕ) (ns : List ℕ) → n ≡ count i ns + 1 → i < length ns → length ns ≡ 4 → total ns < 24 → (length (set ns i n) ≡ 4) × (total (set ns i n) ≤ 24)
one_more_fits i n ns e within four few = rw (set_one_more i n ns e) (rw (length_raised i ns) four, omega (arith, total_raised i ns within, few))

-- and any group that has one stays a group with one home fewer
pub one_fewer_fits : (i n : ℕ) (ns : List ℕ) → n ≡ count i ns - 1 → 0 < count i ns → length ns ≡ 4 → total ns ≤ 24 → (length (set ns i n) ≡ 4) × (total (set ns i n) ≤ 24)
one_fewer_fits i n ns e some four few = rw (set_one_fewer i n ns e) (rw (length_lowered i ns) four, omega (arith, total_lowered i ns some, few))

-- a home that joins and leaves again leaves the counts as they were, and so does one that leaves and comes back
pub lowered_raised : (i : ℕ) (ns : List ℕ) → lowered i (raised i ns) ≡ ns
lowered_raised i [] = refl
lowered_raised zero (n ∷ ns) = ap (λ (x : ℕ). x ∷ ns) (omega arith)
lowered_raised (suc i) (n ∷ ns) = ap (λ ms. n ∷ ms) (lowered_raised i ns)

pub raised_lowered : (i : ℕ) (ns : List ℕ) → 0 < count i ns → raised i (lowered i ns) ≡ ns
raised_lowered i [] h = refl
raised_lowered zero (n ∷ ns) h = ap (λ (x : ℕ). x ∷ ns) (omega arith)
raised_lowered (suc i) (n ∷ ns) h = ap (λ ms. n ∷ ms) (raised_lowered i ns h)

-- a home that has joined is counted
pub raised_counted : (i : ℕ) (ns : List ℕ) → i < length ns → 0 < count i (raised i ns)
raised_counted i [] h = absurd (omega arith)
raised_counted zero (n ∷ ns) h = omega arith
raised_counted (suc i) (n ∷ ns) h = raised_counted i ns (omega arith)
