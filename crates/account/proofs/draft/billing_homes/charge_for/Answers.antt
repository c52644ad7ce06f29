use Rattle.std.proofs.Common.{◌≡◌, ℤ, sym, ◌∙◌, subst, arith, to_z-of_z, w32, w64, SFits, to_z, of_z, rules}
use Rattle.std.proofs.lemmas.Int.{ints}
use Rattle.composition.specs.Amounts.{Between}
use Rattle.composition.specs.Types.{position}
use Rattle.rounding.specs.Rounding.{RoundedUp}
use Rattle.shapley.specs.CostTables.{cost_in}
use Rattle.shapley.specs.Shares.{share}
use Rattle.account.proofs.ChargesMade.{charge_small}
use Rattle.account.proofs.draft.billing_homes.charge_for.Goals as goal

-- the share as it is read from its bits is the share by the table
share_read :
    (c : goal.After-round_up-pence)
    → to_z w64 (of_z w64 c.in_ok-share.share) ≡ share c.args.costs.now.homes.counts (position c.args.of) (cost_in c.args.costs.now)
share_read c = let fits : SFits w64 c.in_ok-share.share = search rules in to_z-of_z fits ∙ c.in_ok-share.ensures.1

small : (c : goal.After-round_up-pence) → Between 10000000 c.round_up-pence.result
small c =
    let table = c.args.costs.now in
    let rounded : RoundedUp (share table.homes.counts (position c.args.of) (cost_in table)) c.args.penny.value c.round_up-pence.result =
    subst (λ (h : ℤ). RoundedUp h c.args.penny.value c.round_up-pence.result) (share_read c) c.round_up-pence.ensures in
    charge_small table.homes.counts table.costs.now c.args.of c.args.penny.value c.round_up-pence.result table.homes.four
    table.homes.few table.limits c.in_ok-share.ensures.0 c.requires rounded

pub overflow_cast-pence : goal.overflow_cast-pence
overflow_cast-pence c = let bound = small c in omega (arith, ints, bound.0, bound.1)

pub returns : goal.returns
returns c =
    let bound = small c in
    let q = c.round_up-pence.result in
    let read : to_z w32 (of_z w32 (to_z w64 (of_z w64 q))) ≡ q = omega (arith, ints, bound.0, bound.1) in (
      c.in_ok-share.ensures.0,
      share_read c,
      subst (λ (p : ℤ). RoundedUp (to_z w64 (of_z w64 c.in_ok-share.share)) c.args.penny.value p) (sym read) c.round_up-pence.ensures,
    )
