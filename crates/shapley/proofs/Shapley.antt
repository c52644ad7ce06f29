-- The share by counts is the Shapley value over subsets; it is additive, and as small as the costs.
use Rattle.std.proofs.Common.{◌≡◌, ℕ, zero, suc, ◌+◌, ◌-◌, ◌*◌, ◌<◌, ◌≤◌, List, [], ◌∷◌, length, get_or, ℤ, pos, ◌+ℤ◌, ◌-ℤ◌, ◌*ℤ◌, neg_ℤ, ◌≤ℤ◌, sym, refl, ap, ◌∙◌, subst, ap₂, subst₂, mul_assoc, mul_comm, add-one, arith}
use lib.IntN.{*ℤ_comm}
use Rattle.std.proofs.lemmas.Int.{ints}
use Rattle.composition.proofs.Changes.{length_lowered, lowered_raised, raised_lowered, raised_counted}
use Rattle.composition.proofs.Four.{split4}
use Rattle.composition.proofs.Places.{inside_total, inside_lowered, raised_inside}
use Rattle.composition.specs.Counts.{total, Inside, raised, lowered}
use Rattle.composition.specs.Types.{position}
use Rattle.composition.specs.declared.demand_type.DemandType.{DemandType}
use Rattle.composition.specs.declared.demand_type.DemandType.TheVariants.{One, Two, Three, Four}
use Rattle.shapley.proofs.Combinatorics.{factorial_pos}
use Rattle.rounding.proofs.Integers.{*ℤ_+ℤ, *ℤ_negℤ, *ℤ_assoc, *ℤ_left_comm, scale_≤, cancel_≡, swap_inner_minus}
use Rattle.shapley.proofs.SubsetsToCounts.{length_is_total, position_inside, subsets_by_counts, orders_add_up}
use Rattle.shapley.proofs.Sums.{box_sum_cong, box_sum_scale, box_sum_adds, box_sum_mono, subset_sum_cong, subset_sum_scale}
use Rattle.shapley.proofs.Weights.{weight_factorials}
use Rattle.shapley.specs.Combinations.{factorial, ways}
use Rattle.shapley.specs.CommonMultiple.{lcm_to}
use Rattle.shapley.specs.Shares.{box_sum, marginal, share}
use Rattle.shapley.specs.Subsets.{subset_sum, shapley_sum, counts_of}
use Rattle.shapley.specs.Weights.{weight}

-- ---- the homes of a list

pub home_counted : (home : DemandType) (others : List DemandType) → 0 < get_or (counts_of (home ∷ others)) (position home) 0
home_counted home others = raised_counted (position home) (counts_of others) (position_inside home others)

-- ---- the share of a sum, and of equal costs

pub share_adds : (counts : List ℕ) (i : ℕ) (c d : List ℕ → ℤ) → share counts i (λ n. c n +ℤ d n) ≡ share counts i c +ℤ share counts i d
share_adds counts i c d =
    box_sum_cong (lowered i counts)
    (λ n. factor n *ℤ marginal (λ m. c m +ℤ d m) i n) (λ n. factor n *ℤ marginal c i n +ℤ factor n *ℤ marginal d i n)
    (λ n h. ap (λ (x : ℤ). factor n *ℤ x) (swap_inner_minus (c (raised i n)) (d (raised i n)) (c n) (d n)) ∙ *ℤ_+ℤ (factor n) (marginal c i n) (marginal d i n))
    ∙ box_sum_adds (lowered i counts) (λ n. factor n *ℤ marginal c i n) (λ n. factor n *ℤ marginal d i n)
  where
    factor : List ℕ → ℤ
    factor n = pos (weight (total counts) (total n) * ways (lowered i counts) n)

pub share_cong : (counts : List ℕ) (i : ℕ) (c d : List ℕ → ℤ) → 0 < get_or counts i 0 → ((n : List ℕ) → Inside n counts → c n ≡ d n) → share counts i c ≡ share counts i d
share_cong counts i c d p e =
    box_sum_cong (lowered i counts) (λ n. factor n *ℤ marginal c i n) (λ n. factor n *ℤ marginal d i n)
    (λ n h. ap₂ (λ (x y : ℤ). factor n *ℤ (x -ℤ y)) (e (raised i n) (raised_inside i n counts p h)) (e n (inside_lowered i n counts h)))
  where
    factor : List ℕ → ℤ
    factor n = pos (weight (total counts) (total n) * ways (lowered i counts) n)

-- ---- from weights to orders

-- a sum over the groups of the others, by weights, of size homes in all
abbrev weighted : ℕ → List ℕ → (List ℕ → ℤ) → ℤ
weighted size others x = box_sum others (λ n. pos (weight size (total n) * ways others n) *ℤ x n)

-- the share of a home beside the others: all homes are one more, and without it the others' counts are left
share_beside : (c : List ℕ → ℤ) (home : DemandType) (others : List DemandType)
    → share (counts_of (home ∷ others)) (position home) c ≡ weighted (suc (length others)) (counts_of others) (marginal c (position home))
share_beside c home others =
    ap₂ (λ (size : ℕ) (left : List ℕ). weighted size left (marginal c (position home)))
    (length_is_total (home ∷ others)) (lowered_raised (position home) (counts_of others))

to_orders : (f w v l o : ℕ) (x : ℤ) → f * w ≡ l * o → pos f *ℤ (pos (w * v) *ℤ x) ≡ pos l *ℤ (pos v *ℤ (pos o *ℤ x))
to_orders f w v l o x e =
    sym (*ℤ_assoc (pos f) (pos (w * v)) x)
    ∙ ap (λ (y : ℕ). pos y *ℤ x) (sym (mul_assoc f w v) ∙ ap (λ (y : ℕ). y * v) e ∙ mul_assoc l o v ∙ ap (λ (y : ℕ). l * y) (mul_comm o v))
    ∙ *ℤ_assoc (pos l) (pos (v * o)) x ∙ ap (λ (y : ℤ). pos l *ℤ y) (*ℤ_assoc (pos v) (pos o) x)

-- times the number of all orders, a sum by weights over counts is the sum by orders over subsets, times the least common multiple
weighted_is_ordered : (others : List DemandType) (x : List ℕ → ℤ) → suc (length others) ≤ 24
    → pos (factorial (suc (length others))) *ℤ weighted (suc (length others)) (counts_of others) x
    ≡ pos (lcm_to (suc (length others))) *ℤ subset_sum others (λ s. pos (factorial (length s) * factorial (length others - length s)) *ℤ x (counts_of s))
weighted_is_ordered others x h =
    box_sum_scale (pos all) counts (λ n. pos (weight (suc len) (total n) * ways counts n) *ℤ x n)
    ∙ box_sum_cong counts (λ n. pos all *ℤ (pos (weight (suc len) (total n) * ways counts n) *ℤ x n)) (λ n. pos l *ℤ (pos (ways counts n) *ℤ ordered n))
    (λ n i. to_orders all (weight (suc len) (total n)) (ways counts n) l (factorial (total n) * factorial (len - total n)) (x n) (of_size (total n) (total_within n i)))
    ∙ sym (box_sum_scale (pos l) counts (λ n. pos (ways counts n) *ℤ ordered n))
    ∙ ap (λ (y : ℤ). pos l *ℤ y)
    (sym (subsets_by_counts others ordered)
    ∙ subset_sum_cong others (λ s. ordered (counts_of s)) (λ s. pos (factorial (length s) * factorial (len - length s)) *ℤ x (counts_of s))
    (λ s. ap (λ (k : ℕ). pos (factorial k * factorial (len - k)) *ℤ x (counts_of s)) (length_is_total s)))
  where
    len : ℕ
    len = length others

    counts : List ℕ
    counts = counts_of others

    all : ℕ
    all = factorial (suc len)

    l : ℕ
    l = lcm_to (suc len)

    ordered : List ℕ → ℤ
    ordered n = pos (factorial (total n) * factorial (len - total n)) *ℤ x n

    total_within : (n : List ℕ) → Inside n counts → total n ≤ len
    total_within n i = omega (arith, inside_total n counts i, length_is_total others)

    of_size : (k : ℕ) → k ≤ len → all * weight (suc len) k ≡ l * (factorial k * factorial (len - k))
    of_size k p =
        let whole : k + (len - k) ≡ len = omega arith in
        subst (λ (m : ℕ). factorial (suc m) * weight (suc m) k ≡ lcm_to (suc m) * (factorial k * factorial (len - k))) whole
        (weight_factorials k (len - k) (omega arith))

pub share_is_shapley : (c : List ℕ → ℤ) (home : DemandType) (others : List DemandType) → suc (length others) ≤ 24
    → pos (factorial (suc (length others))) *ℤ share (counts_of (home ∷ others)) (position home) c
    ≡ pos (lcm_to (suc (length others))) *ℤ shapley_sum (λ s. c (counts_of s)) home others
share_is_shapley c home others h =
    ap (λ (x : ℤ). pos (factorial (suc (length others))) *ℤ x) (share_beside c home others)
    ∙ weighted_is_ordered others (marginal c (position home)) h

-- ---- how large a share can be

-- the weights of all groups, each as often as it can be picked, are the least common multiple
pub weights_add_up : (others : List DemandType) (y : ℤ) → suc (length others) ≤ 24
    → box_sum (counts_of others) (λ n. pos (weight (suc (length others)) (total n) * ways (counts_of others) n) *ℤ y) ≡ pos (lcm_to (suc (length others))) *ℤ y
weights_add_up others y h =
    cancel_≡ all (weighted (suc (length others)) (counts_of others) (λ n. y)) (pos l *ℤ y) (factorial_pos (suc (length others)))
    (weighted_is_ordered others (λ n. y) h ∙ ap (λ (x : ℤ). pos l *ℤ x) every ∙ *ℤ_left_comm (pos l) (pos all) y)
  where
    all : ℕ
    all = factorial (suc (length others))

    l : ℕ
    l = lcm_to (suc (length others))

    orders : List DemandType → ℤ
    orders s = pos (factorial (length s) * factorial (length others - length s))

    every : subset_sum others (λ s. orders s *ℤ y) ≡ pos all *ℤ y
    every =
        subset_sum_cong others (λ s. orders s *ℤ y) (λ s. y *ℤ orders s) (λ s. *ℤ_comm (orders s) y)
        ∙ sym (subset_sum_scale y others orders) ∙ ap (λ (x : ℤ). y *ℤ x) (orders_add_up others) ∙ *ℤ_comm y (pos all)

-- a bound on what the home adds to each group is one on its share
pub share_at_most : (y : ℤ) (c : List ℕ → ℤ) (home : DemandType) (others : List DemandType) → suc (length others) ≤ 24
    → ((n : List ℕ) → Inside n (counts_of others) → marginal c (position home) n ≤ℤ y)
    → share (counts_of (home ∷ others)) (position home) c ≤ℤ (pos (lcm_to (suc (length others))) *ℤ y)
share_at_most y c home others h high =
    subst₂ (λ (a b : ℤ). a ≤ℤ b) (sym (share_beside c home others)) (weights_add_up others y h)
    (box_sum_mono (counts_of others) (λ n. pos (factor n) *ℤ marginal c (position home) n) (λ n. pos (factor n) *ℤ y)
    (λ n i. scale_≤ (factor n) (marginal c (position home) n) y (high n i)))
  where
    factor : List ℕ → ℕ
    factor n = weight (suc (length others)) (total n) * ways (counts_of others) n

pub share_at_least : (y : ℤ) (c : List ℕ → ℤ) (home : DemandType) (others : List DemandType) → suc (length others) ≤ 24
    → ((n : List ℕ) → Inside n (counts_of others) → y ≤ℤ marginal c (position home) n)
    → (pos (lcm_to (suc (length others))) *ℤ y) ≤ℤ share (counts_of (home ∷ others)) (position home) c
share_at_least y c home others h low =
    subst₂ (λ (a b : ℤ). a ≤ℤ b) (weights_add_up others y h) (sym (share_beside c home others))
    (box_sum_mono (counts_of others) (λ n. pos (factor n) *ℤ y) (λ n. pos (factor n) *ℤ marginal c (position home) n)
    (λ n i. scale_≤ (factor n) y (marginal c (position home) n) (low n i)))
  where
    factor : List ℕ → ℕ
    factor n = weight (suc (length others)) (total n) * ways (counts_of others) n

-- costs between -B and B differ by at most 2 B
pub share_bounded : (B : ℕ) (c : List ℕ → ℤ) (home : DemandType) (others : List DemandType) → suc (length others) ≤ 24
    → ((n : List ℕ) → Inside n (counts_of (home ∷ others)) → (neg_ℤ (pos B) ≤ℤ c n) × (c n ≤ℤ pos B))
    → (neg_ℤ (pos (lcm_to (suc (length others)) * (2 * B))) ≤ℤ share (counts_of (home ∷ others)) (position home) c)
    × (share (counts_of (home ∷ others)) (position home) c ≤ℤ pos (lcm_to (suc (length others)) * (2 * B)))
share_bounded B c home others h bound = (
  subst (λ (x : ℤ). x ≤ℤ share counts i c) (*ℤ_negℤ (pos (lcm_to (suc (length others)))) (pos (2 * B)))
      (share_at_least (neg_ℤ (pos (2 * B))) c home others h (λ n p. from_below (c (raised i n)) (c n) (with_home n p).0 (without n p).1)),
  share_at_most (pos (2 * B)) c home others h (λ n p. from_above (c (raised i n)) (c n) (with_home n p).1 (without n p).0),
)
  where
    i : ℕ
    i = position home

    counts : List ℕ
    counts = counts_of (home ∷ others)

    inside : (n : List ℕ) → Inside n (counts_of others) → Inside n (lowered i counts)
    inside n p = subst (λ (x : List ℕ). Inside n x) (sym (lowered_raised i (counts_of others))) p

    without : (n : List ℕ) → Inside n (counts_of others) → (neg_ℤ (pos B) ≤ℤ c n) × (c n ≤ℤ pos B)
    without n p = bound n (inside_lowered i n counts (inside n p))

    with_home : (n : List ℕ) → Inside n (counts_of others) → (neg_ℤ (pos B) ≤ℤ c (raised i n)) × (c (raised i n) ≤ℤ pos B)
    with_home n p = bound (raised i n) (raised_inside i n counts (home_counted home others) (inside n p))

    from_below : (x y : ℤ) → neg_ℤ (pos B) ≤ℤ x → y ≤ℤ pos B → neg_ℤ (pos (2 * B)) ≤ℤ (x -ℤ y)
    from_below x y a b = omega (arith, ints)

    from_above : (x y : ℤ) → x ≤ℤ pos B → neg_ℤ (pos B) ≤ℤ y → (x -ℤ y) ≤ℤ pos (2 * B)
    from_above x y a b = omega (arith, ints)

-- ---- every counts are those of some homes

repeated_four : (d : ℕ) → (hs : List DemandType) × (counts_of hs ≡ 0 ∷ 0 ∷ 0 ∷ d ∷ [])
repeated_four zero = ([], refl)
repeated_four (suc d) =
    let (hs, e) = repeated_four d in
    (Four ∷ hs, ap (raised 3) e ∙ ap (λ (x : ℕ). 0 ∷ 0 ∷ 0 ∷ x ∷ []) (add-one d))

repeated_three : (c d : ℕ) → (hs : List DemandType) × (counts_of hs ≡ 0 ∷ 0 ∷ c ∷ d ∷ [])
repeated_three zero d = repeated_four d
repeated_three (suc c) d =
    let (hs, e) = repeated_three c d in
    (Three ∷ hs, ap (raised 2) e ∙ ap (λ (x : ℕ). 0 ∷ 0 ∷ x ∷ d ∷ []) (add-one c))

repeated_two : (b c d : ℕ) → (hs : List DemandType) × (counts_of hs ≡ 0 ∷ b ∷ c ∷ d ∷ [])
repeated_two zero c d = repeated_three c d
repeated_two (suc b) c d =
    let (hs, e) = repeated_two b c d in
    (Two ∷ hs, ap (raised 1) e ∙ ap (λ (x : ℕ). 0 ∷ x ∷ c ∷ d ∷ []) (add-one b))

repeated : (a b c d : ℕ) → (hs : List DemandType) × (counts_of hs ≡ a ∷ b ∷ c ∷ d ∷ [])
repeated zero b c d = repeated_two b c d
repeated (suc a) b c d =
    let (hs, e) = repeated a b c d in
    (One ∷ hs, ap (raised 0) e ∙ ap (λ (x : ℕ). x ∷ b ∷ c ∷ d ∷ []) (add-one a))

pub homes_of : (counts : List ℕ) → length counts ≡ 4 → (hs : List DemandType) × (counts_of hs ≡ counts)
homes_of counts e =
    let (hs, h) = repeated (get_or counts 0 0) (get_or counts 1 0) (get_or counts 2 0) (get_or counts 3 0) in
    (hs, h ∙ sym (split4 0 counts e))

-- and where a type is counted, of homes that begin with one of it
pub homes_list : (counts : List ℕ) → length counts ≡ 4 → (k : DemandType) → 0 < get_or counts (position k) 0 → (others : List DemandType) × (counts_of (k ∷ others) ≡ counts)
homes_list counts e k p =
    let (others, h) = homes_of (lowered (position k) counts) (length_lowered (position k) counts ∙ e) in
    (others, ap (raised (position k)) h ∙ raised_lowered (position k) counts p)

-- the bound, over counts alone
pub share_bounded_by_counts : (B : ℕ) (c : List ℕ → ℤ) (counts : List ℕ) (k : DemandType) → length counts ≡ 4 → total counts ≤ 24 → 0 < get_or counts (position k) 0
    → ((n : List ℕ) → Inside n counts → (neg_ℤ (pos B) ≤ℤ c n) × (c n ≤ℤ pos B))
    → (neg_ℤ (pos (lcm_to (total counts) * (2 * B))) ≤ℤ share counts (position k) c) × (share counts (position k) c ≤ℤ pos (lcm_to (total counts) * (2 * B)))
share_bounded_by_counts B c counts k e small p bound = of_homes (homes_list counts e k p)
  where
    Bounded : List ℕ → ℕ → Type 0
    Bounded m size =
        (neg_ℤ (pos (lcm_to size * (2 * B))) ≤ℤ share m (position k) c) × (share m (position k) c ≤ℤ pos (lcm_to size * (2 * B)))

    of_homes : (others : List DemandType) × (counts_of (k ∷ others) ≡ counts) → Bounded counts (total counts)
    of_homes (others, h) =
        let size : total counts ≡ suc (length others) = ap total (sym h) ∙ length_is_total (k ∷ others) in
        subst₂ Bounded h (sym size)
        (share_bounded B c k others (omega arith) (λ n i. bound n (subst (λ (x : List ℕ). Inside n x) h i)))
