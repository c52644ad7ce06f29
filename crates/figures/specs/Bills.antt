-- What bills tell, and the bills that an account will have one after the other.
use Rattle.std.specs.Prelude.{◌≡◌, ℕ, ◌<◌, ◌≤◌, List, [], ◌∷◌, length, ℤ, Ok, Result}
use Rattle.composition.specs.Counts.{size}
use Rattle.composition.specs.declared.demand_type.DemandType.TheVariants.{One, Two, Three, Four}
use Rattle.cost_rules.specs.Meanings.{Meaning}
use Rattle.account.specs.Bills.{line_of}
use Rattle.account.specs.Calls.{Drafted, Posted}
use Rattle.account.specs.Terms.{today}
use Rattle.account.specs.declared.account.Account.{Account}
use Rattle.account.specs.declared.draft.Draft.{Draft}
use Rattle.account.specs.declared.draft.Refused.{Refused}
use Rattle.figures.specs.declared.bills.Bills.{Bills}

-- what a draft tells
abbrev pub bills_in : Draft → Bills
bills_in d = record { lcm = d.lcm; cost = d.cost; lines = line_of d One ∷ line_of d Two ∷ line_of d Three ∷ line_of d Four ∷ []; rebate = d.rebate; purse = d.purse }

-- an account's bills, one after the other, by a rule that means f. While there are bill numbers left, each draft with a table that is long enough is accepted and
-- tells the first of these; and the account that posting it leaves has the others after it.
abbrev pub BilledInTurn : Meaning → Account → List Bills → Type 0
BilledInTurn f a [] = Unit {0}
BilledInTurn f a (bills ∷ more) =
    (table after : List ℤ) (answer : Result Draft Refused)
    → a.last < today.highest
    → size a.homes.counts ≤ length table
    → Drafted today f a table answer after
    → (d : Draft) × (answer ≡ Ok d) × (bills_in d ≡ bills) × ((b : Account) → Posted d b → BilledInTurn f b more)

-- and so every account that has homes with these counts and this in its purse
abbrev pub HomesBilled : List ℕ → ℕ → Meaning → List Bills → Type 0
HomesBilled counts purse f bills = (a : Account) → a.homes.counts ≡ counts → a.purse ≡ purse → BilledInTurn f a bills
