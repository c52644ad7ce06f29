-- From a table of costs to what a home is charged.
use Rattle.std.proofs.Common.{◌≡◌, ℕ, ◌*◌, ◌<◌, ◌≤◌, List, length, get_or, ℤ, pos, ◌-ℤ◌, Some, None, Option, sym, refl, ap, ◌∙◌, subst, arith}
use Rattle.std.proofs.lemmas.Int.{ints}
use Rattle.billing.specs.Billing.{Settled}
use Rattle.composition.proofs.Places.{place_below}
use Rattle.composition.specs.Amounts.{Between}
use Rattle.composition.specs.Counts.{total, count, size}
use Rattle.composition.specs.Types.{position}
use Rattle.composition.specs.declared.demand_type.DemandType.{DemandType}
use Rattle.cost_rules.specs.Limits.{limit, Within}
use Rattle.rounding.proofs.RoundingLaws.{up_bounds}
use Rattle.rounding.specs.Rounding.{RoundedUp}
use Rattle.shapley.proofs.CommonMultiples.{lcm_to_pos}
use Rattle.shapley.proofs.Shapley.{share_bounded_by_counts}
use Rattle.shapley.specs.CommonMultiple.{lcm_to}
use Rattle.shapley.specs.CostTables.{costs_by}
use Rattle.shapley.specs.Shares.{share}
use Rattle.account.specs.Bills.{Line, line_of, Billed}
use Rattle.account.specs.Charges.{Charged, ChargedByType, lined}
use Rattle.account.specs.declared.draft.billing_homes.Charge.{Charge}
use Rattle.account.specs.declared.account.Account.{Account}
use Rattle.account.specs.declared.draft.Draft.{Draft}

-- a home never adds more than twice what a group may cost, so it is charged at most 10,000,000 pence, or paid as much
pub charge_small :
    (counts : List ℕ) (costs : List ℤ) (k : DemandType) (penny : ℕ) (q : ℤ)
    → length counts ≡ 4
    → total counts ≤ 24
    → ((p : ℕ) → p < size counts → Within (get_or costs p (pos 0)))
    → 0 < count (position k) counts
    → penny ≡ 100 * lcm_to (total counts)
    → RoundedUp (share counts (position k) (costs_by counts costs)) penny q
    → Between 10000000 q
charge_small counts costs k penny q four few limits some is rounded =
    let l = lcm_to (total counts) in
    let bound = share_bounded_by_counts limit (costs_by counts costs) counts k four few some (λ n inside. limits _ (place_below counts n inside)) in
    up_bounds (share counts (position k) (costs_by counts costs)) q penny 10000000
    (omega (arith, is, lcm_to_pos (total counts)))
    (omega (arith, ints, bound.0, is))
    (omega (arith, ints, bound.1, is))
    rounded

-- a charge has its line, which is absent where there are no homes
line_of_charge : (homes : ℕ) (h : ℤ) (penny : ℕ) (charge : Option Charge) (rebate : ℤ) → Charged homes h penny charge → Line homes h (lined charge rebate)
line_of_charge homes h penny None rebate charged = charged
line_of_charge homes h penny (Some charge) rebate charged = (charged.0, charged.1)

-- a line that is present comes of a share rounded up, less the rebate
bill_of_charge :
    (homes : ℕ) (h : ℤ) (penny : ℕ) (charge : Option Charge) (pence rebate : ℤ) (line : ℤ × ℤ)
    → Charged homes h penny charge
    → ((c : Charge) → charge ≡ Some c → pence ≡ c.pence)
    → lined charge rebate ≡ Some line
    → RoundedUp line.0 penny pence × (line.1 ≡ pence -ℤ rebate)
bill_of_charge homes h penny None pence rebate line charged is e = cc
bill_of_charge homes h penny (Some charge) pence rebate line charged is e =
    let same : (charge.share, charge.pence -ℤ rebate) ≡ line = cc in
    rw (is charge refl) (subst (λ (y : ℤ × ℤ). RoundedUp y.0 penny charge.pence) same charged.2, sym (ap (λ (y : ℤ × ℤ). y.1) same))

-- charges, their pence, the settlement and the lines make the bills of an account
pub billed_by :
    (a : Account) (table : List ℤ) (d : Draft) (charges : List (Option Charge)) (pence : List ℤ)
    → (let counts = a.homes.counts in
    let c = costs_by counts table in
    let at : DemandType → Option Charge = λ k. get_or charges (position k) None in
    d.account ≡ a
    → d.lcm ≡ lcm_to (total counts)
    → d.cost ≡ c counts
    → ChargedByType counts c (100 * d.lcm) charges
    → length pence ≡ 4
    → ((k : DemandType) (charge : Charge) → at k ≡ Some charge → get_or pence (position k) (pos 0) ≡ charge.pence)
    → Settled counts pence (c counts) a.purse d.rebate d.purse
    → ((k : DemandType) → line_of d k ≡ lined (at k) d.rebate)
    → Billed c a d)
billed_by a table d charges pence holds over cost_is charged four pence_at settled line_at =
    record {
      holds = holds;
      over = over;
      cost_is = cost_is;
      lines = λ k. rw (line_at k) (line_of_charge _ _ _ (at k) d.rebate (charged k));
      made =
          record {
            pence = pence;
            four = four;
            rounded = λ k line e. (bill k line e).0;
            rebated = λ k line e. (bill k line e).1;
            settled =
                subst (λ (b : Account). Settled b.homes.counts pence (costs_by a.homes.counts table b.homes.counts) b.purse d.rebate d.purse) (sym holds) settled;
          };
    }
  where
    at : DemandType → Option Charge
    at k = get_or charges (position k) None

    bill :
        (k : DemandType) (line : ℤ × ℤ)
        → line_of d k ≡ Some line
        → RoundedUp line.0 (100 * d.lcm) (get_or pence (position k) (pos 0)) × (line.1 ≡ get_or pence (position k) (pos 0) -ℤ d.rebate)
    bill k line e = bill_of_charge _ _ (100 * d.lcm) (at k) _ d.rebate line (charged k) (pence_at k) (sym (line_at k) ∙ e)

-- the same, where the counts were asked of the account
pub billed_at :
    (a : Account) (table : List ℤ) (d : Draft) (counts : List ℕ) (charges : List (Option Charge)) (pence : List ℤ)
    → counts ≡ a.homes.counts
    → d.account ≡ a
    → d.lcm ≡ lcm_to (total counts)
    → d.cost ≡ costs_by counts table counts
    → ChargedByType counts (costs_by counts table) (100 * d.lcm) charges
    → length pence ≡ 4
    → ((k : DemandType) (charge : Charge) → get_or charges (position k) None ≡ Some charge → get_or pence (position k) (pos 0) ≡ charge.pence)
    → Settled counts pence (costs_by counts table counts) a.purse d.rebate d.purse
    → ((k : DemandType) → line_of d k ≡ lined (get_or charges (position k) None) d.rebate)
    → Billed (costs_by a.homes.counts table) a d
billed_at a table d counts charges pence e holds over cost_is charged four pence_at settled line_at =
    billed_by a table d charges pence holds
    (subst (λ (ns : List ℕ). d.lcm ≡ lcm_to (total ns)) e over)
    (subst (λ (ns : List ℕ). d.cost ≡ costs_by ns table ns) e cost_is)
    (subst (λ (ns : List ℕ). ChargedByType ns (costs_by ns table) (100 * d.lcm) charges) e charged)
    four pence_at
    (subst (λ (ns : List ℕ). Settled ns pence (costs_by ns table ns) a.purse d.rebate d.purse) e settled)
    line_at

-- a settlement of numbers as they are read again
pub settled_read :
    (counts : List ℕ) (pence : List ℤ) (cost cost' : ℤ) (purse purse' : ℕ) (rebate rebate' : ℤ) (new : ℕ)
    → Settled counts pence cost purse rebate new
    → cost ≡ cost'
    → purse ≡ purse'
    → rebate ≡ rebate'
    → Settled counts pence cost' purse' rebate' new
settled_read counts pence cost cost' purse purse' rebate rebate' new s c q r = rw (← c, ← q, ← r) s
