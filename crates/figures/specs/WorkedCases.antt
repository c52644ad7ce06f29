-- The worked cases: figures that a person can follow by hand, as one list and one statement, by the definitions that contracts cite. Money is in hundredths of a
-- penny, but bills and rebates are in pence; energy is in watt-hours.
use Rattle.std.specs.Prelude.{◌≡◌, ℕ, List, [], ◌∷◌, ℤ, pos, neg_ℤ, Some, None, Ok}
use Rattle.battery.specs.Steps.{after, imported, exported}
use Rattle.battery.specs.declared.rating.Rating.{Rating}
use Rattle.cost_rules.specs.Heads.{headed}
use Rattle.cost_rules.specs.Listed.{listed}
use Rattle.cost_rules.specs.Meanings.{Meaning}
use Rattle.cost_rules.specs.Sums.{sum_of}
use Rattle.metering.specs.Promise.{GridPromise, PeakPromise}
use Rattle.period.specs.Pages.{Page, written, Writes}
use Rattle.shapley.specs.CommonMultiple.{lcm_to}
use Rattle.shapley.specs.Weights.{weight}
use Rattle.figures.specs.Bills.{HomesBilled}
use Rattle.figures.specs.declared.bills.Bills.{Bills}
use Rattle.figures.specs.declared.figures.Figures.{Figures}

-- ---- who is billed, and what they cost

-- one home of type 1
abbrev pub one_home : List ℕ
one_home = 1 ∷ 0 ∷ 0 ∷ 0 ∷ []

-- two homes of type 1 and one of type 2
abbrev pub three_homes : List ℕ
three_homes = 2 ∷ 1 ∷ 0 ∷ 0 ∷ []

-- what groups of the three cost, the count of type 1 running fastest; and a fee for each home of a type
abbrev pub costs : List ℤ
costs = pos 0 ∷ pos 600 ∷ pos 1000 ∷ pos 900 ∷ pos 1100 ∷ pos 1600 ∷ []

abbrev pub fees : List ℤ
fees = pos 10 ∷ pos 20 ∷ pos 0 ∷ pos 0 ∷ []

-- the three are billed by these costs, and by costs and fees
abbrev pub by_list : Meaning
by_list = listed three_homes costs

abbrev pub by_list_and_fees : Meaning
by_list_and_fees = sum_of by_list (headed fees)

-- what the one home costs, where it earns something
abbrev pub by_earning : ℕ → Meaning
by_earning earned = listed one_home (pos 0 ∷ neg_ℤ (pos earned) ∷ [])

-- ---- their bills: a line for each type, which has a share over the lcm and a bill, or is absent without homes

-- the shares come to 5, 5 and 7 pence, which are 100 more than the cost
abbrev pub first_bills : Bills
first_bills = record { lcm = 6; cost = pos 1600; lines = Some (pos 2800, pos 5) ∷ Some (pos 4000, pos 7) ∷ None ∷ None ∷ []; rebate = pos 0; purse = 100 }

-- so do the next, and the purse has 200
abbrev pub second_bills : Bills
second_bills = record { lcm = 6; cost = pos 1600; lines = Some (pos 2800, pos 5) ∷ Some (pos 4000, pos 7) ∷ None ∷ None ∷ []; rebate = pos 0; purse = 200 }

-- and then there are 300: a penny goes back to each
abbrev pub third_bills : Bills
third_bills = record { lcm = 6; cost = pos 1600; lines = Some (pos 2800, pos 4) ∷ Some (pos 4000, pos 6) ∷ None ∷ None ∷ []; rebate = pos 1; purse = 0 }

-- with fees each share is higher by 6 times the fee
abbrev pub bills_with_fees : Bills
bills_with_fees = record { lcm = 6; cost = pos 1640; lines = Some (pos 2860, pos 5) ∷ Some (pos 4120, pos 7) ∷ None ∷ None ∷ []; rebate = pos 0; purse = 60 }

-- a share below 0 is rounded up too: half a penny earned comes to no pence
abbrev pub bills_earning_50 : Bills
bills_earning_50 = record { lcm = 1; cost = neg_ℤ (pos 50); lines = Some (neg_ℤ (pos 50), pos 0) ∷ None ∷ None ∷ None ∷ []; rebate = pos 0; purse = 50 }

-- and a penny and a half to one penny
abbrev pub bills_earning_150 : Bills
bills_earning_150 = record { lcm = 1; cost = neg_ℤ (pos 150); lines = Some (neg_ℤ (pos 150), neg_ℤ (pos 1)) ∷ None ∷ None ∷ None ∷ []; rebate = pos 0; purse = 50 }

-- ---- one home's two half-hours

-- its battery
abbrev pub battery : Rating
battery = record { lowest = 0; highest = 1000; most = 500; charging = 90; discharging = 90 }

-- a half-hour with this charge at its beginning, this demand and this generation: the charge at its end, the import and the export
pub record Step (charge demand generation ends import export : ℕ) : Type 0 where
  pub charge_is : after battery 1 charge demand generation ≡ ends
  pub import_is : imported battery 1 charge demand generation ≡ import
  pub export_is : exported battery 1 charge demand generation ≡ export

-- the two as a page: readings for one type, that battery, and tariffs of 3,000 and 500 that hold for both
abbrev pub page : Page
page =
    record {
      types = 1;
      rating = battery;
      entries =
          record { import = Some 3000; export = Some 500; demands = 200 ∷ []; generation = 1000 }
          ∷ record { import = None; export = None; demands = 900 ∷ []; generation = 0 }
          ∷ [];
    }

-- the words that are to write it down
abbrev pub words : List ℕ
words = written page

-- ---- all together

-- each case follows from the definitions that the contracts of the calls cite
pub record WorkedCases : Type 0 where
  -- shares among 24 homes are fractions over this
  pub multiple_for_24 : lcm_to 24 ≡ 5354228880
  -- of these parts, what a home adds to 11 others counts 165
  pub weight_among_24 : weight 24 11 ≡ 165
  -- shares among 4 homes are fractions over 12
  pub multiple_for_4 : lcm_to 4 ≡ 12
  -- of these parts, what a home adds to none, one, two and three others counts 3, 1, 1 and 3
  pub weights_among_4 : weight 4 0 ∷ weight 4 1 ∷ weight 4 2 ∷ weight 4 3 ∷ [] ≡ 3 ∷ 1 ∷ 1 ∷ 3 ∷ []
  -- three homes are billed three times by the list; the third time the purse is given back
  pub billed_by_list : HomesBilled three_homes 0 by_list (first_bills ∷ second_bills ∷ third_bills ∷ [])
  -- once by the list and fees
  pub billed_with_fees : HomesBilled three_homes 0 by_list_and_fees (bills_with_fees ∷ [])
  -- a home that earns 50 is billed nothing, and one that earns 150 is paid a penny
  pub earning_50 : HomesBilled one_home 0 (by_earning 50) (bills_earning_50 ∷ [])
  pub earning_150 : HomesBilled one_home 0 (by_earning 150) (bills_earning_150 ∷ [])
  -- what is left over in one half-hour is stored and exported; what is lacking in the next comes out of the battery and from the grid
  pub stored : Step 0 200 1000 450 0 300
  pub given_back : Step 450 900 0 0 495 0
  -- the two are a period; what they cost by the grid, and by their peak
  pub a_period : Writes page words
  pub grid_charges : (f : Meaning) → GridPromise words f → f one_home ≡ Ok (pos 1335)
  pub peak_costs : (f : Meaning) → PeakPromise words 100 f → f one_home ≡ Ok (pos 180)

-- the figures of the worked cases, as they are worked out and told
abbrev pub figures : Figures
figures =
    record {
      multiple_for_24 = 5354228880;
      weight_among_24 = 165;
      multiple_for_4 = 12;
      weights_among_4 = 3 ∷ 1 ∷ 1 ∷ 3 ∷ [];
      billed_by_list = first_bills ∷ second_bills ∷ third_bills ∷ [];
      billed_with_fees = bills_with_fees;
      earning = bills_earning_50 ∷ bills_earning_150 ∷ [];
      half_hours = (450, 0, 300) ∷ (0, 495, 0) ∷ [];
      grid_charges = pos 1335;
      peak_costs = pos 180;
    }
