-- What is listed for an input.
use Rattle.std.specs.Prelude.{◌≡◌, ℕ, ◌<◌, List, ◌∷◌, ℤ, None, Ok, Err, Result}
use Rattle.composition.specs.Counts.{total, count, Inside, place}
use Rattle.composition.specs.Types.{position}
use Rattle.composition.specs.declared.demand_type.DemandType.{DemandType}
use Rattle.cost_rules.specs.Meanings.{Meaning}
use Rattle.shapley.specs.CommonMultiple.{LeastCommonMultiple}
use Rattle.shapley.specs.Subsets.{counts_of}
use Rattle.account.specs.Bills.{cost_by, homes_in, line_of, MadeOfShares}
use Rattle.account.specs.Filling.{FaultAt}
use Rattle.account.specs.Promise.{FairShare}
use Rattle.account.specs.Runs.{pending, Run}
use Rattle.account.specs.Terms.{today}
use Rattle.account.specs.declared.draft.Draft.{Draft}
use Rattle.account.specs.declared.refusals.DraftRefusal.{DraftRefusal}
use Rattle.account.specs.declared.refusals.DraftRefusal.TheVariants.{NoHomes, TableTooShort, NumbersUsedUp, Faulty}
use Rattle.metering.specs.Promise.{GridPromise}
use Rattle.period.specs.Pages.{Page, Writes}
use Rattle.listing.specs.Inputs.{Asks}
use Rattle.listing.specs.Requests.{NotRead}
use Rattle.listing.specs.declared.listing.Listing.{Listing}
use Rattle.listing.specs.declared.refusals.InputRefusal.{InputRefusal}
use Rattle.listing.specs.declared.refusals.InputRefusal.TheVariants.{Unreadable, Period, Draft as NoDraft}

-- the draft of an account that was opened after the number 0, has homes with these counts, and has had no bills posted, by what the grid charges over the period
-- in these words
pub record FirstDraft (counts words : List ℕ) (d : Draft) : Type 0 where
  pub grid : Meaning
  pub charges : GridPromise words grid
  pub been : Run today 0 (pending d grid)
  pub homes_are : homes_in d ≡ counts
  pub some_homes : 0 < total counts
  pub purse_before : d.account.purse ≡ 0
  pub number_before : d.account.last ≡ 0
  -- the cost is that of all homes, and no composition inside them has a fault
  pub cost_is : grid counts ≡ Ok d.cost
  pub no_cost_is_a_fault : (n : List ℕ) → Inside n counts → grid n ≡ Ok (cost_by grid n)
  -- L is the least common multiple of 1 to the number of homes
  pub over : LeastCommonMultiple (total counts) d.lcm
  -- each home's line is there, and its share is its Shapley value over all subsets of the others
  pub fair : (home : DemandType) (others : List DemandType) → counts_of (home ∷ others) ≡ counts → FairShare (cost_by grid) d home others
  -- a type without homes has no line
  pub absent : (k : DemandType) → count (position k) counts ≡ 0 → line_of d k ≡ None
  -- bills, rebate and purse are made of the shares
  pub made : MadeOfShares (cost_by grid) d

-- why there is no draft for homes with these counts over the period in these words
abbrev pub NotDrafted : List ℕ → List ℕ → DraftRefusal → Type 0
NotDrafted counts words NoHomes = ((p : Page) × Writes p words) × (total counts ≡ 0)
NotDrafted counts words TableTooShort = ⊥
NotDrafted counts words NumbersUsedUp = ⊥
NotDrafted counts words (Faulty p fault) =
    (grid : Meaning) × GridPromise words grid × (0 < total counts) × FaultAt grid counts p fault
    × ((n : List ℕ) → Inside n counts → place counts n < p → (c : ℤ) × (grid n ≡ Ok c))

-- what is listed for an input is the draft for the homes and the period that it asks for; else it has no request, or its request has no such draft
abbrev pub Listed : List ℕ → Result Listing InputRefusal → Type 0
Listed input (Ok l) = Asks input (λ counts words. FirstDraft counts words l.draft)
Listed input (Err Unreadable) = NotRead input Unreadable
Listed input (Err (Period e)) = NotRead input (Period e)
Listed input (Err (NoDraft e)) = Asks input (λ counts words. NotDrafted counts words e)
