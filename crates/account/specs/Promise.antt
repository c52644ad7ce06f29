-- The promise over everything that an account can go through.
use Rattle.std.specs.Prelude.{◌≡◌, ℕ, ◌+◌, ◌*◌, ◌<◌, ◌≤◌, List, ◌∷◌, length, ℤ, pos, ◌+ℤ◌, ◌*ℤ◌, Some, None, Ok, Option}
use Rattle.composition.specs.Counts.{most, total, count, Inside}
use Rattle.composition.specs.Types.{position}
use Rattle.composition.specs.declared.demand_type.DemandType.{DemandType}
use Rattle.cost_rules.specs.Meanings.{Meaning, Lawful}
use Rattle.cost_rules.specs.Sums.{sum_of}
use Rattle.shapley.specs.CommonMultiple.{LeastCommonMultiple}
use Rattle.shapley.specs.Subsets.{counts_of, IsShapleyShare}
use Rattle.account.specs.Bills.{cost_by, homes_in, line_of, MadeOfShares}
use Rattle.account.specs.Runs.{Standing, pending, account_of, Run, AreHomes, joins_taken, leaves_taken, posted_bills, posted_costs, last_billed}
use Rattle.account.specs.Terms.{Terms}
use Rattle.account.specs.declared.draft.Draft.{Draft}

-- the line of a home's type is present, and its share is the home's Shapley value over all subsets of the others, each of which costs what its counts cost
pub record FairShare (c : List ℕ → ℤ) (d : Draft) (home : DemandType) (others : List DemandType) : Type 0 where
  pub line : ℤ × ℤ
  pub present : line_of d home ≡ Some line
  pub shapley : IsShapleyShare c home others d.lcm line.0

-- the lines of a home's type in three drafts are present, and the third share is the first two added
pub record SharesAdd (d e sum : Draft) (home : DemandType) : Type 0 where
  pub first : ℤ × ℤ
  pub second : ℤ × ℤ
  pub third : ℤ × ℤ
  pub first_present : line_of d home ≡ Some first
  pub second_present : line_of e home ≡ Some second
  pub third_present : line_of sum home ≡ Some third
  pub adds : third.0 ≡ first.0 +ℤ second.0

-- a purse is empty until a draft is posted, and stays under a penny for each home last billed after that
abbrev pub Small : ℕ → Option ℕ → Type 0
Small purse None = purse ≡ 0
Small purse (Some homes) = purse < 100 * homes

-- what holds of an account opened with any last bill number, whatever calls it has been through
pub record Promise (terms : Terms) (last : ℕ) : Type 0 where
  -- of each type there are as many homes as joins were taken, less the leaves taken
  pub homes_are_joins_less_leaves :
      {s : Standing} (h : Run terms last s) (k : DemandType)
      → count (position k) (account_of s).homes.counts + leaves_taken h k ≡ joins_taken h k
  -- while a draft stands: for any home, and the list of all the others, its line is there and its share is its Shapley value
  pub shares_are_shapley_values :
      {d : Draft} {f : Meaning} (h : Run terms last (pending d f)) (home : DemandType) (others : List DemandType)
      → AreHomes h (home ∷ others)
      → FairShare (cost_by f) d home others
  -- L is the least common multiple of 1 to the number of homes
  pub shares_are_over_the_least_common_multiple :
      {d : Draft} {f : Meaning} → Run terms last (pending d f) → LeastCommonMultiple (total (homes_in d)) d.lcm
  -- no cost above is read off a fault: every composition inside the homes has one by the rule
  pub no_cost_is_a_fault :
      {d : Draft} {f : Meaning} → Run terms last (pending d f) → (n : List ℕ) → Inside n (homes_in d) → f n ≡ Ok (cost_by f n)
  -- rounding, rebate and purse of the draft
  pub bills_are_made_of_shares : {d : Draft} {f : Meaning} → Run terms last (pending d f) → MadeOfShares (cost_by f) d
  -- after any calls, all posted bills in hundredths of a penny are all posted costs and the purse
  pub posted_bills_are_costs_and_purse :
      {s : Standing} (h : Run terms last s) → pos 100 *ℤ posted_bills h ≡ posted_costs h +ℤ pos (account_of s).purse
  -- and the purse is less than a penny for each home last billed
  pub the_purse_stays_small : {s : Standing} (h : Run terms last s) → Small (account_of s).purse (last_billed h)
  -- three drafts for the same homes, in any accounts, by f, by g and by any rule that means the sum of the two
  pub shares_by_a_sum_are_shares_added :
      (l₁ l₂ l₃ : ℕ) {first second third : Draft} {f g sum : Meaning}
      (h : Run terms l₁ (pending first f)) (i : Run terms l₂ (pending second g)) (j : Run terms l₃ (pending third sum))
      → ((n : List ℕ) → length n ≡ 4 → total n ≤ most → sum n ≡ sum_of f g n)
      → (home : DemandType) (others : List DemandType)
      → AreHomes h (home ∷ others)
      → AreHomes i (home ∷ others)
      → AreHomes j (home ∷ others)
      → SharesAdd first second third home
  -- what is said of every rule is said of sums, and of sums of sums
  pub sums_of_rules_are_rules : (f g : Meaning) → Lawful f → Lawful g → Lawful (sum_of f g)
