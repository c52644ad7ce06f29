use Rattle.std.proofs.Common.{◌≡◌, ℕ, get_or, pos, Some, None, ap, refl, sym, ◌∙◌, subst, arith, to_z-of_z, w32, w64, SFits, rules}
use Rattle.composition.specs.Counts.{total}
use Rattle.rounding.proofs.Integers.{read_back}
use Rattle.composition.specs.Types.{position}
use Rattle.composition.specs.declared.composition.Composition.{Composition}
use Rattle.composition.specs.declared.demand_type.DemandType.{DemandType}
use Rattle.shapley.proofs.CommonMultiples.{lcm_to_pos, lcm_to_small}
use Rattle.shapley.specs.CostTables.{costs_by}
use Rattle.account.specs.declared.draft.billing_homes.Charge.{Charge}
use Rattle.account.specs.Charges.{ChargedByType, pence_of, lined}
use Rattle.account.proofs.ChargesMade.{billed_at, settled_read}
use Rattle.account.proofs.draft.Draft.bill.Goals as goal

pub penny_over-penny-requires : goal.penny_over-penny-requires
penny_over-penny-requires c =
    let homes = c.homes-homes.result in
    let is = c.lcm_to-lcm.ensures.value in
    let n = total homes.counts in
    record { some = omega (arith, is, lcm_to_pos n); small = omega (arith, is, lcm_to_small n homes.few) }

pub returns : goal.returns
returns c =
    let charges = c.map-charges.result in
    let pence = c.map.result in
    let rebate = c.settle-settled.result.rebate in
    let counts = c.homes-homes.result.counts in
    let table = c.args.table.now in
    let charged : ChargedByType counts (costs_by counts table) c.penny_over-penny.result.value charges = search rules in
    let same : counts ≡ c.args.account.homes.counts = ap (λ (h : Composition). h.counts) c.homes-homes.ensures in
    let each : (k : DemandType) → get_or pence (position k) (pos 0) ≡ pence_of (get_or charges (position k) None) = search rules in
    let pence_at : (k : DemandType) (charge : Charge) → get_or charges (position k) None ≡ Some charge → get_or pence (position k) (pos 0) ≡ charge.pence =
    λ k charge e. each k ∙ ap pence_of e in
    let small = c.settle-settled.ensures.small in
    let fits : SFits w64 rebate = search rules in
    let read = to_z-of_z fits in
    let line_at : (k : DemandType) → get_or c.map-2.result (position k) None ≡ lined (get_or charges (position k) None) rebate = search rules in
    let cost = read_back w32 c.cost_of_all-cost.type_inv ∙ c.cost_of_all-cost.ensures in
    billed_at c.args.account table _ counts charges pence same refl c.lcm_to-lcm.ensures.value
    (read_back w64 c.from.type_inv ∙ c.from.ensures ∙ cost)
    (subst (λ (p : ℕ). ChargedByType counts (costs_by counts table) p charges) c.penny_over-penny.ensures charged)
    c.map.ensures.items.long pence_at
    (settled_read counts pence _ _ _ _ _ _ _ c.settle-settled.ensures.settled cost c.purse-purse.ensures (sym read))
    (λ k. line_at k ∙ ap (lined (get_or charges (position k) None)) (sym read))
