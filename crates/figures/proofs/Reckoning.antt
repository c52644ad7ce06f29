-- What a draft's bills come to, worked out of the counts of its homes, what they cost and the purse before it.
use Rattle.std.proofs.Common.{◌≡◌, ℕ, zero, suc, ◌*◌, ◌<◌, List, [], ◌∷◌, length, get_or, ℤ, pos, negsuc, ◌+ℤ◌, ◌-ℤ◌, ◌*ℤ◌, neg_ℤ, ◌≤ℤ◌, ◌<ℤ◌, Some, None, Option, refl, sym, ap, ◌∙◌, subst, arith}
use lib.IntN.{zero-*ℤ}
use Rattle.std.proofs.lemmas.Int.{ints}
use Rattle.std.specs.Int.{int_div_euclid}
use Rattle.billing.specs.Billing.{Settled, surplus}
use Rattle.composition.proofs.Four.{split4}
use Rattle.composition.specs.Amounts.{weighted}
use Rattle.composition.specs.Counts.{total, count}
use Rattle.composition.specs.Types.{position}
use Rattle.composition.specs.declared.demand_type.DemandType.{DemandType}
use Rattle.composition.specs.declared.demand_type.DemandType.TheVariants.{One, Two, Three, Four}
use Rattle.rounding.proofs.Euclid.{floor_is}
use Rattle.rounding.proofs.Integers.{*ℤ_negℤ}
use Rattle.rounding.proofs.RoundingLaws.{up_unique, down_unique}
use Rattle.rounding.specs.Rounding.{RoundedUp, RoundedDown}
use Rattle.shapley.proofs.CommonMultiples.{lcm_to_pos}
use Rattle.shapley.specs.CommonMultiple.{lcm_to}
use Rattle.shapley.specs.Shares.{share}
use Rattle.account.specs.Bills.{Line, line_of, MadeOfShares, Billed}
use Rattle.account.specs.declared.account.Account.{Account}
use Rattle.account.specs.declared.draft.Draft.{Draft}
use Rattle.figures.specs.Bills.{bills_in}
use Rattle.figures.specs.declared.bills.Bills.{Bills}

-- ---- how bills are worked out

-- a quotient rounded up
abbrev up : ℤ → ℕ → ℤ
up a d = neg_ℤ (int_div_euclid (neg_ℤ a) (pos d))

up_is : (a : ℤ) (d : ℕ) → 0 < d → RoundedUp a d (up a d)
up_is a d p = turned (int_div_euclid (neg_ℤ a) (pos d)) (floor_is (neg_ℤ a) d p)
  where
    turned : (q : ℤ) → RoundedDown (neg_ℤ a) d q → RoundedUp a d (neg_ℤ q)
    turned q down =
        let next : neg_ℤ q -ℤ pos 1 ≡ neg_ℤ (q +ℤ pos 1) = omega (arith, ints) in
        record {
          below = rw (next, *ℤ_negℤ (pos d) (q +ℤ pos 1)) (flipped_< (pos d *ℤ (q +ℤ pos 1)) down.beyond);
          reaches = rw (*ℤ_negℤ (pos d) q) (flipped_≤ (pos d *ℤ q) down.within);
        }
      where
        flipped_< : (x : ℤ) → neg_ℤ a <ℤ x → neg_ℤ x <ℤ a
        flipped_< x h = omega (arith, ints)

        flipped_≤ : (x : ℤ) → x ≤ℤ neg_ℤ a → a ≤ℤ neg_ℤ x
        flipped_≤ x h = omega (arith, ints)

-- an amount that is not below 0
abbrev natural : ℤ → ℕ
natural (pos n) = n
natural (negsuc n) = 0

-- the share of a type in pence, before the rebate
abbrev pence_for : List ℕ → (List ℕ → ℤ) → DemandType → ℤ
pence_for counts c k = up (share counts (position k) c) (100 * lcm_to (total counts))

abbrev all_pence : List ℕ → (List ℕ → ℤ) → List ℤ
all_pence counts c = pence_for counts c One ∷ pence_for counts c Two ∷ pence_for counts c Three ∷ pence_for counts c Four ∷ []

-- the purse before, and what the pence bring in above the cost
abbrev pot : List ℕ → (List ℕ → ℤ) → ℕ → ℤ
pot counts c purse = pos purse +ℤ surplus counts (all_pence counts c) (c counts)

abbrev rebate_for : List ℕ → (List ℕ → ℤ) → ℕ → ℤ
rebate_for counts c purse = int_div_euclid (pot counts c purse) (pos (100 * total counts))

abbrev purse_for : List ℕ → (List ℕ → ℤ) → ℕ → ℕ
purse_for counts c purse = natural (pot counts c purse -ℤ pos (100 * total counts) *ℤ rebate_for counts c purse)

-- a line, if there are homes
abbrev line_with : ℕ → ℤ → ℤ → ℤ → Option (ℤ × ℤ)
line_with zero share pence rebate = None
line_with (suc n) share pence rebate = Some (share, pence -ℤ rebate)

abbrev line_for : List ℕ → (List ℕ → ℤ) → ℕ → DemandType → Option (ℤ × ℤ)
line_for counts c purse k = line_with (count (position k) counts) (share counts (position k) c) (pence_for counts c k) (rebate_for counts c purse)

abbrev pub reckoned : List ℕ → (List ℕ → ℤ) → ℕ → Bills
reckoned counts c purse =
    record {
      lcm = lcm_to (total counts);
      cost = c counts;
      lines = line_for counts c purse One ∷ line_for counts c purse Two ∷ line_for counts c purse Three ∷ line_for counts c purse Four ∷ [];
      rebate = rebate_for counts c purse;
      purse = purse_for counts c purse;
    }

-- ---- and that they are what a draft tells

-- a line that is there, or not, has the share rounded up to pence, less the rebate
line_is :
    (homes : ℕ) (h : ℤ) (penny : ℕ) (line : Option (ℤ × ℤ)) (pence rebate : ℤ)
    → 0 < penny
    → Line homes h line
    → ((l : ℤ × ℤ) → line ≡ Some l → RoundedUp l.0 penny pence)
    → ((l : ℤ × ℤ) → line ≡ Some l → l.1 ≡ pence -ℤ rebate)
    → (line ≡ line_with homes h (up h penny) rebate) × (0 < homes → pence ≡ up h penny)
line_is zero h penny None pence rebate p l rounded rebated = (refl, λ some. absurd (omega arith))
line_is (suc n) h penny None pence rebate p l rounded rebated = absurd (omega (arith, l))
line_is zero h penny (Some line) pence rebate p l rounded rebated = absurd (omega (arith, l.0))
line_is (suc n) h penny (Some (s, b)) pence rebate p l rounded rebated =
    let same : s ≡ h = l.1 in
    let is : pence ≡ up h penny = up_unique h penny pence (up h penny) (subst (λ (x : ℤ). RoundedUp x penny pence) same (rounded (s, b) refl)) (up_is h penny p) in
    let bill : b ≡ pence -ℤ rebate = rebated (s, b) refl in
    (rw (same, bill, is) refl, λ some. is)

-- without homes the pence do not matter
times_same : (n : ℕ) (x y : ℤ) → (0 < n → x ≡ y) → pos n *ℤ x ≡ pos n *ℤ y
times_same zero x y same = zero-*ℤ x ∙ sym (zero-*ℤ y)
times_same (suc n) x y same = ap (λ (z : ℤ). pos (suc n) *ℤ z) (same (omega arith))

weighted_same :
    (ns : List ℕ) (xs ys : List ℤ)
    → length ns ≡ 4
    → length xs ≡ 4
    → length ys ≡ 4
    → ((k : DemandType) → 0 < count (position k) ns → get_or xs (position k) (pos 0) ≡ get_or ys (position k) (pos 0))
    → weighted ns xs ≡ weighted ns ys
weighted_same ns xs ys e f g same =
    rw (split4 0 ns e, split4 (pos 0) xs f, split4 (pos 0) ys g, times_same (get_or ns 0 0) _ _ (same One), times_same (get_or ns 1 0) _ _ (same Two), times_same (get_or ns 2 0) _ _ (same Three), times_same (get_or ns 3 0) _ _ (same Four))
    refl

penny_pos : (n : ℕ) → 0 < 100 * lcm_to n
penny_pos n = omega (arith, lcm_to_pos n)

-- a draft whose bills are made of shares
made_is :
    (c : List ℕ → ℤ) (d : Draft)
    → 0 < total d.account.homes.counts
    → Billed c d.account d
    → bills_in d ≡ reckoned d.account.homes.counts c d.account.purse
made_is c d some billed =
    rw (over, cost, rebate, purse, line One, line Two, line Three, line Four) refl
  where
    counts : List ℕ
    counts = d.account.homes.counts

    made : MadeOfShares c d
    made = billed.made

    over : d.lcm ≡ lcm_to (total counts)
    over = billed.over

    cost : d.cost ≡ c counts
    cost = billed.cost_is

    each : (k : DemandType) → (line_of d k ≡ line_with (count (position k) counts) (share counts (position k) c) (pence_for counts c k) d.rebate) × (0 < count (position k) counts → get_or made.pence (position k) (pos 0) ≡ pence_for counts c k)
    each k =
        line_is (count (position k) counts) (share counts (position k) c) (100 * lcm_to (total counts)) (line_of d k) (get_or made.pence (position k) (pos 0)) d.rebate
        (penny_pos (total counts))
        (billed.lines k)
        (λ l e. subst (λ n. RoundedUp l.0 (100 * n) (get_or made.pence (position k) (pos 0))) over (made.rounded k l e))
        (made.rebated k)

    same_pence : (k : DemandType) → 0 < count (position k) counts → get_or made.pence (position k) (pos 0) ≡ get_or (all_pence counts c) (position k) (pos 0)
    same_pence One = (each One).1
    same_pence Two = (each Two).1
    same_pence Three = (each Three).1
    same_pence Four = (each Four).1

    weighted_is : weighted counts made.pence ≡ weighted counts (all_pence counts c)
    weighted_is = weighted_same counts made.pence (all_pence counts c) d.account.homes.four made.four refl same_pence

    settled : Settled counts (all_pence counts c) (c counts) d.account.purse d.rebate d.purse
    settled =
        let s = made.settled in
        let same : surplus counts made.pence (c counts) ≡ surplus counts (all_pence counts c) (c counts) = ap (λ (w : ℤ). pos 100 *ℤ w -ℤ c counts) weighted_is in
        record {
          rebate_is = subst (λ (x : ℤ). RoundedDown (pos d.account.purse +ℤ x) (100 * total counts) d.rebate) same s.rebate_is;
          purse_is = s.purse_is ∙ ap (λ (x : ℤ). (pos d.account.purse +ℤ x) -ℤ pos (100 * total counts) *ℤ d.rebate) same;
        }

    rebate : d.rebate ≡ rebate_for counts c d.account.purse
    rebate =
        down_unique (pot counts c d.account.purse) (100 * total counts) d.rebate (rebate_for counts c d.account.purse) settled.rebate_is
        (floor_is (pot counts c d.account.purse) (100 * total counts) (omega (arith, some)))

    purse : d.purse ≡ purse_for counts c d.account.purse
    purse = ap natural (settled.purse_is ∙ ap (λ (r : ℤ). pot counts c d.account.purse -ℤ pos (100 * total counts) *ℤ r) rebate)

    line : (k : DemandType) → line_of d k ≡ line_for counts c d.account.purse k
    line k = (each k).0 ∙ ap (line_with (count (position k) counts) (share counts (position k) c) (pence_for counts c k)) rebate

pub bills_are_reckoned :
    (c : List ℕ → ℤ) (a : Account) (d : Draft)
    → 0 < total a.homes.counts
    → Billed c a d
    → bills_in d ≡ reckoned a.homes.counts c a.purse
bills_are_reckoned c a d some billed =
    let holds = billed.holds in
    subst (λ (b : Account). bills_in d ≡ reckoned b.homes.counts c b.purse) holds
    (made_is c d (subst (λ (b : Account). 0 < total b.homes.counts) (sym holds) some) (subst (λ (b : Account). Billed c b d) (sym holds) billed))
