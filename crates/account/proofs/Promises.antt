-- The promise over everything that an account can go through holds.
use Rattle.std.proofs.Common.{ℕ}
use Rattle.cost_rules.specs.Owed.{sum_lawful}
use Rattle.account.specs.Promise.{Promise}
use Rattle.account.specs.Terms.{Terms}
use Rattle.account.proofs.AcceptedDrafts.{drafted_by, inside_has_cost, over_the_least, fair_share}
use Rattle.account.proofs.HomesCounted.{joins_less_leaves}
use Rattle.account.proofs.Purses.{bills_are_costs_and_purse, purse_stays_small}
use Rattle.account.proofs.SharesAdded.{shares_add}

pub promise : (terms : Terms) (last : ℕ) → Promise terms last
promise terms last =
    record {
      homes_are_joins_less_leaves = joins_less_leaves;
      shares_are_shapley_values = fair_share;
      shares_are_over_the_least_common_multiple = λ h. over_the_least (drafted_by h);
      no_cost_is_a_fault = λ h. inside_has_cost (drafted_by h);
      bills_are_made_of_shares = λ h. (drafted_by h).accepted.billed.made;
      posted_bills_are_costs_and_purse = bills_are_costs_and_purse;
      the_purse_stays_small = purse_stays_small;
      shares_by_a_sum_are_shares_added = shares_add;
      sums_of_rules_are_rules = sum_lawful;
    }
