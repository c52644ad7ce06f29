-- Accounts that are billed.
use Rattle.std.specs.Prelude.{◌≡◌, ℕ, List}
use Rattle.account.specs.declared.account.Account.{Account}

-- a new account that homes with these counts have joined
pub record NewlyJoined (counts : List ℕ) (a : Account) : Type 0 where
  pub homes_are : a.homes.counts ≡ counts
  pub purse_is : a.purse ≡ 0
  pub last_is : a.last ≡ 0
