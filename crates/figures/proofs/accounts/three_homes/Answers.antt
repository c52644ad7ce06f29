use Rattle.std.proofs.Common.{arith, ◌∷◌, []}
use Rattle.composition.specs.declared.demand_type.DemandType.TheVariants.{One, Two}
use Rattle.figures.proofs.Workings.{home_joins}
use Rattle.figures.specs.WorkedCases.{one_home}
use Rattle.figures.proofs.accounts.three_homes.Goals as goal

pub unwrap-requires : goal.unwrap-requires
unwrap-requires c = (home_joins One one_home _ _ _ (omega arith) c.one_home-account.ensures c.join.ensures).0

pub unwrap-requires-2 : goal.unwrap-requires-2
unwrap-requires-2 c =
    let second = home_joins One one_home _ _ _ (omega arith) c.one_home-account.ensures c.join.ensures in
    (home_joins Two (2 ∷ 0 ∷ 0 ∷ 0 ∷ []) _ _ _ (omega arith) second.1 c.join-2.ensures).0

pub returns : goal.returns
returns c =
    let second = home_joins One one_home _ _ _ (omega arith) c.one_home-account.ensures c.join.ensures in
    (home_joins Two (2 ∷ 0 ∷ 0 ∷ 0 ∷ []) _ _ _ (omega arith) second.1 c.join-2.ensures).1
