-- The calls' answers make a settlement, once each number is read as the one that was passed.
use Rattle.std.proofs.Common.{◌^◌, ◌*◌, ◌∙◌, arith, w64}
use Rattle.std.proofs.lemmas.Int.{ints}
use Rattle.rounding.proofs.Integers.{read_back}
use Rattle.billing.proofs.Settlements.{settled_by, down_between}
use Rattle.billing.proofs.charges.Charges.settle.Goals as goal

pub returns : goal.returns
returns c =
    let pot = c.pot-pot in
    let rebate = c.round_down-rebate in
    record {
      settled =
          settled_by _ _ _ _ pot.result _ _ rebate.result _ c.rem_euclid-purse.result _ c.from-penny_each.result
          c.args.self.now.some (c.from-penny_each.ensures ∙ c.homes.ensures) pot.ensures.value
          (read_back w64 pot.type_inv)
          (read_back w64 rebate.type_inv)
          (read_back w64 c.rem_euclid-purse.type_inv)
          rebate.ensures c.rem_euclid-purse.ensures.value (omega (arith, ints));
      small =
          down_between (2 ^ 48) (100 * c.from-penny_each.result) pot.result _ rebate.result _
          (omega (arith, c.args.self.now.some, c.homes.ensures)) pot.ensures.small
          (read_back w64 pot.type_inv)
          (read_back w64 rebate.type_inv)
          rebate.ensures;
    }
