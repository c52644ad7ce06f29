-- Going through the others: one home more, and what it comes to.
use Rattle.std.proofs.Common.{le_refl, ◌≡◌, ℕ, suc, ◌+◌, ◌*◌, ◌^◌, ◌<◌, ◌≤◌, List, length, ℤ, pos, ◌+ℤ◌, ◌*ℤ◌, neg_ℤ, ◌≤ℤ◌, sym, ap, ◌∙◌, subst, ap₂, subst₂, mul-le-mul, arith, pow_mono}
use native.Mathlib.Nat.{two-pow-succ}
use Rattle.std.proofs.lemmas.Int.{ints}
use Rattle.composition.proofs.Changes.{length_raised, position_below, total_lowered, total_raised}
use Rattle.composition.proofs.Places.{inside_lowered, place_below, raised_inside}
use Rattle.composition.specs.Amounts.{Between}
use Rattle.composition.specs.Counts.{most, total, count, raised, lowered, place, Inside}
use Rattle.composition.specs.Types.{position}
use Rattle.composition.specs.declared.demand_type.DemandType.{DemandType}
use Rattle.cost_rules.specs.Limits.{limit, Within}
use Rattle.shapley.specs.Combinations.{factorial}
use Rattle.shapley.specs.CostTables.{cost_in, added_in}
use Rattle.shapley.specs.Shares.{marginal}
use Rattle.shapley.specs.declared.cost_table.CostTable.{CostTable}
use Rattle.every_group.specs.Going.{together, orders, added_by, over, Parted, GoneThrough, Small}
use Rattle.every_group.specs.declared.newcomer.Newcomer.{Newcomer}
use Rattle.every_group.specs.declared.split.Split.{Split}
use Rattle.every_group.specs.declared.sums.Sums.{Sums}
use Rattle.every_group.proofs.Together.{over_bounded, over_more, over_natural, raised_around, together_inside, together_raised}

-- ---- one home more

module _ (i : ℕ) (others rest m : List ℕ) (out : ℕ) (below : i < 4) (four : length rest ≡ 4) (four_m : length m ≡ 4) (p : Parted others (raised i rest) m out) where
  one_fewer : total (raised i rest) ≡ total rest + 1
  one_fewer = total_raised i rest (omega (arith, below, four))

  in_two : (over rest m (λ n. pos (orders (total others) n)) +ℤ over rest (raised i m) (λ n. pos (orders (total others) n))) ≤ℤ pos (factorial most)
  in_two = subst (λ (x : ℤ). x ≤ℤ pos (factorial most)) (over_more i rest m (λ n. pos (orders (total others) n)) below four four_m) p.room

  pub parted_without : Parted others rest m (out + 1)
  parted_without = record {
    all = omega (arith, one_fewer, p.all);
    inside = together_inside m rest (raised i rest) others (raised_around i rest) p.inside (omega (arith, four_m, length_raised i rest, four));
    room = omega (arith, ints, in_two, over_natural rest (raised i m) (orders (total others)));
  }

  pub parted_with : Parted others rest (raised i m) out
  parted_with = record {
    all = omega (arith, one_fewer, p.all, total_raised i m (omega (arith, below, four_m)));
    inside = subst (λ n. Inside n others) (together_raised i m rest (omega (arith, four_m, four))) p.inside;
    room = omega (arith, ints, in_two, over_natural rest m (orders (total others)));
  }

-- the same of the splits that the others are gone through by, where those left are one of a type and the rest
module _ (others left rest : List ℕ) (next : DemandType) (split : Split) (is : left ≡ raised (position next) rest) (four : length rest ≡ 4) where
  pub one_fewer_left : total left ≡ total rest + 1
  one_fewer_left = ap total is ∙ total_raised (position next) rest (omega (arith, position_below next, four))

  parted : Parted others left split.members.counts split.out → Parted others (raised (position next) rest) split.members.counts split.out
  parted p = subst (λ l. Parted others l split.members.counts split.out) is p

  pub parted_out : (without : Split) → without.members ≡ split.members → without.out ≡ split.out + 1
      → Parted others left split.members.counts split.out → Parted others rest without.members.counts without.out
  parted_out without members out p =
      rw (members, out) (parted_without (position next) others rest split.members.counts split.out (position_below next) four split.members.four (parted p))

  pub parted_in : (with : Split) → with.members.counts ≡ raised (position next) split.members.counts → with.out ≡ split.out
      → Parted others left split.members.counts split.out → Parted others rest with.members.counts with.out
  parted_in with members out p =
      rw (members, out) (parted_with (position next) others rest split.members.counts split.out (position_below next) four split.members.four (parted p))

pub gone_more :
    (t : CostTable) (k : DemandType) (others rest m : List ℕ) (i : ℕ) (without with all : Sums)
    → i < 4
    → length rest ≡ 4
    → length m ≡ 4
    → GoneThrough t k others rest m without
    → GoneThrough t k others rest (raised i m) with
    → all.groups ≡ without.groups + with.groups
    → all.orders ≡ without.orders + with.orders
    → all.added ≡ without.added +ℤ with.added
    → GoneThrough t k others (raised i rest) m all
gone_more t k others rest m i without with all below four four_m g h groups orders_add adds = record {
  groups_are =
      let fewer : total (raised i rest) ≡ suc (total rest) = omega (arith, total_raised i rest (omega (arith, below, four))) in
      rw fewer (omega (arith, groups, g.groups_are, h.groups_are, two-pow-succ (total rest)));
  orders_are =
      ap pos orders_add ∙ ap₂ (λ (x y : ℤ). x +ℤ y) g.orders_are h.orders_are
      ∙ sym (over_more i rest m (λ n. pos (orders (total others) n)) below four four_m);
  added_is =
      adds ∙ ap₂ (λ (x y : ℤ). x +ℤ y) g.added_is h.added_is ∙ sym (over_more i rest m (added_by t k (total others)) below four four_m);
}

-- ---- a newcomer's others

-- they are one home fewer than the table has
pub others_few : (h : Newcomer) → total h.others.counts < most
others_few h = omega (arith, total_lowered (position h.of) h.table.homes.counts h.some, ap total h.fewer, h.table.homes.few)

-- ---- bounds

-- a home that a table has adds little to a group of the others
pub added_between : (t : CostTable) (k : DemandType) (n : List ℕ) → 0 < count (position k) t.homes.counts → Inside n (lowered (position k) t.homes.counts)
    → Between (2 * limit) (added_in t k n)
added_between t k n some inside =
    let homes = t.homes.counts in
    let i = position k in
    let cost : (m : List ℕ) → Inside m homes → Within (cost_in t m) = λ m h. t.limits (place homes m) (place_below homes m h) in
    let a : Within (cost_in t (raised i n)) = cost (raised i n) (raised_inside i n homes some inside) in
    let b : Within (cost_in t n) = cost n (inside_lowered i n homes inside) in
    (omega (arith, ints, a.0, a.1, b.0, b.1), omega (arith, ints, a.0, a.1, b.0, b.1))

pub gone_small :
    (t : CostTable) (k : DemandType) (others left m : List ℕ) (out : ℕ) (s : Sums)
    → 0 < count (position k) t.homes.counts
    → others ≡ lowered (position k) t.homes.counts
    → total others < most
    → length left ≡ length m
    → Parted others left m out
    → GoneThrough t k others left m s
    → Small s
gone_small t k others left m out s some fewer few four p g =
    let room : pos s.orders ≤ℤ pos (factorial most) = subst (λ (x : ℤ). x ≤ℤ pos (factorial most)) (sym g.orders_are) p.room in
    let between = over_bounded (2 * limit) left m (orders (total others)) (marginal (cost_in t) (position k))
    (λ n i. added_between t k (together m n) some (subst (λ l. Inside (together m n) l) fewer (together_inside m n left others i p.inside (sym four)))) in
    record {
      groups_small = subst (λ (x : ℕ). x ≤ 2 ^ 23) (sym g.groups_are) (power (total left) (omega (arith, p.all, few)));
      orders_small = of_naturals s.orders room;
      added_small =
          let most_added = mul-le-mul (le_refl (2 * limit)) (of_naturals s.orders room) in
          let (low, high) = subst₂ (λ (a x : ℤ). (neg_ℤ (pos (2 * limit) *ℤ x) ≤ℤ a) × (a ≤ℤ (pos (2 * limit) *ℤ x))) (sym g.added_is) (sym g.orders_are) between in
          (omega (arith, ints, low, most_added), omega (arith, ints, high, most_added));
    }
  where
    power : (n : ℕ) → n ≤ 23 → 2 ^ n ≤ 2 ^ 23
    power n h = pow_mono h

    of_naturals : (n : ℕ) → pos n ≤ℤ pos (factorial most) → n ≤ factorial most
    of_naturals n h = omega (arith, ints, h)
