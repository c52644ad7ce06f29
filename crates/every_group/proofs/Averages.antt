-- What a home adds in all orders, divided among these, is its share.
use Rattle.std.proofs.Common.{◌≡◌, ℕ, zero, suc, ◌-◌, ◌*◌, ◌/◌, ◌<◌, ◌≤◌, List, ◌∷◌, length, ℤ, pos, ◌+ℤ◌, ◌*ℤ◌, ◌<ℤ◌, ◌≤ℤ◌, ◌⊎◌, inl, inr, sym, ap, ◌∙◌, subst, ap₂, mul_comm, mul_assoc, arith}
use Rattle.std.proofs.Math.Nat.{eq-or-lt_of_le, le-mul_of_pos_right, mul-div_cancel}
use Rattle.std.proofs.lemmas.Int.{ints}
use Rattle.std.specs.Int.{int_div_euclid}
use Rattle.composition.proofs.Changes.{lowered_raised}
use Rattle.composition.proofs.Places.{inside_length, inside_self}
use Rattle.composition.specs.Counts.{most, nobody, total, lowered, Inside}
use Rattle.composition.specs.Types.{position}
use Rattle.composition.specs.declared.demand_type.DemandType.{DemandType}
use Rattle.rounding.proofs.Euclid.{floor_is}
use Rattle.rounding.proofs.Integers.{cancel_≡, *ℤ_+ℤ, *ℤ_assoc, *ℤ_one, ≤ℤ_of_≡}
use Rattle.rounding.proofs.RoundingLaws.{down_unique}
use Rattle.shapley.proofs.Combinatorics.{factorial_pos}
use Rattle.shapley.proofs.CommonMultiples.{lcm_to_is_least, lcm_to_pos}
use Rattle.shapley.proofs.Shapley.{homes_list, share_is_shapley}
use Rattle.shapley.proofs.SubsetsToCounts.{length_is_total, orders_add_up, subsets_by_counts}
use Rattle.shapley.proofs.Sums.{box_sum_cong, subset_sum_cong}
use Rattle.shapley.specs.Combinations.{factorial, ways}
use Rattle.shapley.specs.CommonMultiple.{lcm_to, Divides}
use Rattle.shapley.specs.CostTables.{cost_in, share_in}
use Rattle.shapley.specs.Shares.{box_sum, marginal, share}
use Rattle.shapley.specs.Subsets.{subset_sum, shapley_sum, counts_of}
use Rattle.every_group.proofs.Orders.{factorial_mono}
use Rattle.every_group.proofs.Together.{of_nobody}
use Rattle.every_group.specs.Going.{added_by, orders, over, together, GoneThrough, Parted}
use Rattle.every_group.specs.declared.newcomer.Newcomer.{Newcomer}
use Rattle.every_group.specs.declared.sums.Sums.{Sums}

-- ---- a division that leaves nothing over

-- every number from 1 to n divides the number of orders of n
divides_factorial : (n k : ℕ) → 1 ≤ k → k ≤ n → Divides k (factorial n)
divides_factorial zero k some few = absurd (omega (arith, some, few))
divides_factorial (suc n) k some few = go (divides_factorial n k some) (eq-or-lt_of_le few)
  where
    go : (k ≤ n → Divides k (factorial n)) → (k ≡ suc n) ⊎ (k < suc n) → Divides k (factorial (suc n))
    go before (inl last) = (factorial n, ap (λ (x : ℕ). factorial n * x) last ∙ mul_comm (factorial n) (suc n))
    go before (inr earlier) = let (q, e) = before (omega (arith, earlier)) in (suc n * q, mul_assoc (suc n) q k ∙ ap (λ (x : ℕ). suc n * x) e)

-- and so does their least common multiple
pub multiple_divides : (n : ℕ) → Divides (lcm_to n) (factorial n)
multiple_divides n = (lcm_to_is_least n).least (factorial n) (divides_factorial n)

exact : (a q : ℤ) (d : ℕ) → 0 < d → a ≡ pos d *ℤ q → int_div_euclid a (pos d) ≡ q
exact a q d p e = down_unique a d (int_div_euclid a (pos d)) q (floor_is a d p) (record {
  within = ≤ℤ_of_≡ (sym e);
  beyond = past (pos d *ℤ q) (pos d *ℤ (q +ℤ pos 1)) e (*ℤ_+ℤ (pos d) q (pos 1) ∙ ap (λ (x : ℤ). pos d *ℤ q +ℤ x) (*ℤ_one (pos d)));
})
  where
    past : (x y : ℤ) → a ≡ x → y ≡ x +ℤ pos d → a <ℤ y
    past x y e f = omega (arith, ints)

some_parts : (q l f : ℕ) → q * l ≡ f → 0 < f → 0 < q
some_parts zero l f e p = absurd (omega (arith, e, p))
some_parts (suc q) l f e p = omega arith

-- with n! = q × l and n! × h = l × a, the quotient of a by n! / l is h
pub divided_twice : (n : ℕ) (h a a' d' : ℤ) (all l : ℕ) → all ≡ factorial n → l ≡ lcm_to n → pos (factorial n) *ℤ h ≡ pos (lcm_to n) *ℤ a → a' ≡ a → d' ≡ pos (all / l) → int_div_euclid a' d' ≡ h
divided_twice n h a a' d' all l is_all is_l e ea ed =
    let (q, f) = multiple_divides n in
    let parts : all / l ≡ q = ap₂ (λ (x y : ℕ). x / y) (is_all ∙ sym f) is_l ∙ mul-div_cancel q (lcm_to_pos n) in
    let times : pos q *ℤ h ≡ a =
    cancel_≡ (lcm_to n) (pos q *ℤ h) a (lcm_to_pos n)
    (sym (*ℤ_assoc (pos (lcm_to n)) (pos q) h) ∙ ap (λ (x : ℕ). pos x *ℤ h) (mul_comm (lcm_to n) q ∙ f) ∙ e) in
    ap₂ int_div_euclid ea (ed ∙ ap pos parts) ∙ exact a h q (some_parts q (lcm_to n) (factorial n) f (factorial_pos n)) (sym times)

-- of the orders there are some for each part of the multiple, and not too many
pub parts_within : (n all l : ℕ) → n ≤ most → all ≡ factorial n → l ≡ lcm_to n → (0 < all / l) × (all / l ≤ factorial most)
parts_within n all l few is_all is_l =
    let (q, f) = multiple_divides n in
    let parts : all / l ≡ q = ap₂ (λ (x y : ℕ). x / y) (is_all ∙ sym f) is_l ∙ mul-div_cancel q (lcm_to_pos n) in
    let fewer : q ≤ factorial n = subst (λ (x : ℕ). q ≤ x) f (le-mul_of_pos_right q (lcm_to_pos n)) in
    let most_orders : factorial n ≤ factorial most = factorial_mono n most few in
    (omega (arith, parts, some_parts q (lcm_to n) (factorial n) f (factorial_pos n)), omega (arith, parts, fewer, most_orders))

-- ---- over all groups of the others

module _ (h : Newcomer) (hs : List DemandType) (are : counts_of (h.of ∷ hs) ≡ h.table.homes.counts) where
  pub others_are : h.others.counts ≡ counts_of hs
  others_are = h.fewer ∙ ap (lowered (position h.of)) (sym are) ∙ lowered_raised (position h.of) (counts_of hs)

  pub as_many : total h.others.counts ≡ length hs
  as_many = ap total others_are ∙ length_is_total hs

  pub as_many_homes : total h.table.homes.counts ≡ suc (length hs)
  as_many_homes = ap total (sym are) ∙ length_is_total (h.of ∷ hs)

  over_all : (f : List ℕ → ℤ) → over h.others.counts nobody f ≡ subset_sum hs (λ s. f (counts_of s))
  over_all f =
      box_sum_cong h.others.counts (λ n. pos (ways h.others.counts n) *ℤ f (together nobody n)) (λ n. pos (ways h.others.counts n) *ℤ f n)
      (λ n inside. ap (λ m. pos (ways h.others.counts n) *ℤ f m) (of_nobody n (inside_length n h.others.counts inside ∙ h.others.four)))
      ∙ subst (λ others. box_sum others (λ n. pos (ways others n) *ℤ f n) ≡ subset_sum hs (λ s. f (counts_of s))) (sym others_are) (sym (subsets_by_counts hs f))

  orders_of : (s : List DemandType) → orders (total h.others.counts) (counts_of s) ≡ factorial (length s) * factorial (length hs - length s)
  orders_of s = ap₂ (λ (x y : ℕ). factorial x * factorial (y - x)) (length_is_total s) as_many

  -- all orders of all homes
  pub all_orders : over h.others.counts nobody (λ n. pos (orders (total h.others.counts) n)) ≡ pos (factorial (total h.table.homes.counts))
  all_orders =
      over_all (λ n. pos (orders (total h.others.counts) n))
      ∙ subset_sum_cong hs (λ s. pos (orders (total h.others.counts) (counts_of s))) (λ s. pos (factorial (length s) * factorial (length hs - length s))) (λ s. ap pos (orders_of s))
      ∙ orders_add_up hs ∙ ap (λ (n : ℕ). pos (factorial n)) (sym as_many_homes)

  -- what the home adds in all of them
  pub all_added : over h.others.counts nobody (added_by h.table h.of (total h.others.counts)) ≡ shapley_sum (λ s. cost_in h.table (counts_of s)) h.of hs
  all_added =
      over_all (added_by h.table h.of (total h.others.counts))
      ∙ subset_sum_cong hs (λ s. pos (orders (total h.others.counts) (counts_of s)) *ℤ marginal (cost_in h.table) (position h.of) (counts_of s))
      (λ s. pos (factorial (length s) * factorial (length hs - length s)) *ℤ marginal (cost_in h.table) (position h.of) (counts_of s))
      (λ s. ap (λ (n : ℕ). pos n *ℤ marginal (cost_in h.table) (position h.of) (counts_of s)) (orders_of s))

  pub added_is_share : pos (factorial (total h.table.homes.counts)) *ℤ share_in h.table h.of ≡ pos (lcm_to (total h.table.homes.counts)) *ℤ over h.others.counts nobody (added_by h.table h.of (total h.others.counts))
  added_is_share =
      let n = suc (length hs) in
      let homes = h.table.homes in
      let few : n ≤ 24 = omega (arith, as_many_homes, homes.few) in
      let by_subsets : pos (factorial n) *ℤ share_in h.table h.of ≡ pos (lcm_to n) *ℤ shapley_sum (λ s. cost_in h.table (counts_of s)) h.of hs =
      subst (λ counts. pos (factorial n) *ℤ share counts (position h.of) (cost_in h.table) ≡ pos (lcm_to n) *ℤ shapley_sum (λ s. cost_in h.table (counts_of s)) h.of hs) are
      (share_is_shapley (cost_in h.table) h.of hs few) in
      subst (λ (n : ℕ). pos (factorial n) *ℤ share_in h.table h.of ≡ pos (lcm_to n) *ℤ over h.others.counts nobody (added_by h.table h.of (total h.others.counts))) (sym as_many_homes)
      (by_subsets ∙ ap (λ (x : ℤ). pos (lcm_to n) *ℤ x) (sym all_added))

-- what all groups of a home's others come to
pub orders_are : (h : Newcomer) (members : List ℕ) (s : Sums) → members ≡ nobody → GoneThrough h.table h.of h.others.counts h.others.counts members s
    → s.orders ≡ factorial (total h.table.homes.counts)
orders_are h members s none gone =
    let (hs, are) = homes_list h.table.homes.counts h.table.homes.four h.of h.some in
    let all : pos s.orders ≡ pos (factorial (total h.table.homes.counts)) =
    gone.orders_are ∙ ap (λ m. over h.others.counts m (λ n. pos (orders (total h.others.counts) n))) none ∙ all_orders h hs are in
    omega (arith, ints, all)

pub added_makes_share : (h : Newcomer) (members : List ℕ) (s : Sums) → members ≡ nobody → GoneThrough h.table h.of h.others.counts h.others.counts members s
    → pos (factorial (total h.table.homes.counts)) *ℤ share_in h.table h.of ≡ pos (lcm_to (total h.table.homes.counts)) *ℤ s.added
added_makes_share h members s none gone =
    let (hs, are) = homes_list h.table.homes.counts h.table.homes.four h.of h.some in
    added_is_share h hs are
    ∙ ap (λ (x : ℤ). pos (lcm_to (total h.table.homes.counts)) *ℤ x)
    (ap (λ m. over h.others.counts m (added_by h.table h.of (total h.others.counts))) (sym none) ∙ sym gone.added_is)

-- at first all others are left
pub parted_at_first : (h : Newcomer) (members : List ℕ) (out : ℕ) → members ≡ nobody → out ≡ 0 → Parted h.others.counts h.others.counts members out
parted_at_first h members out none no_one =
    let (hs, are) = homes_list h.table.homes.counts h.table.homes.four h.of h.some in
    rw (none, no_one)
    (record {
      all = omega arith;
      inside = subst (λ n. Inside n h.others.counts) (sym (of_nobody h.others.counts h.others.four)) (inside_self h.others.counts);
      room = subst (λ (x : ℤ). x ≤ℤ pos (factorial most)) (sym (all_orders h hs are)) (naturals (factorial_mono (total h.table.homes.counts) most h.table.homes.few));
    })
  where
    naturals : {a b : ℕ} → a ≤ b → pos a ≤ℤ pos b
    naturals h = omega (arith, ints, h)
