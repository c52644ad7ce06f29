-- The worked cases hold.
use Rattle.std.proofs.Common.{◌≡◌, ℕ, zero, suc, ◌<◌, ◌≤◌, Bool, true, false, List, [], ◌∷◌, length, ℤ, pos, Ok, Err, Result, is_ok, refl, sym, ap, ◌∙◌, ap₂, subst, arith}
use Rattle.composition.proofs.Places.{at_place_place, place_below}
use Rattle.composition.specs.Counts.{total, count, size, place, at_place, Inside}
use Rattle.composition.specs.declared.composition.Composition.{Composition}
use Rattle.cost_rules.specs.Meanings.{Meaning}
use Rattle.metering.specs.Promise.{GridPromise, PeakPromise}
use Rattle.period.proofs.AcceptedPages.{accepted_writes}
use Rattle.period.specs.Reader.{page_of}
use Rattle.shapley.proofs.Tests.{each_below, at}
use Rattle.account.specs.Bills.{cost_by, Billed}
use Rattle.account.specs.Calls.{Drafted, DraftGround}
use Rattle.account.specs.Terms.{today}
use Rattle.account.specs.declared.account.Account.{Account}
use Rattle.account.specs.declared.draft.Draft.{Draft}
use Rattle.account.specs.declared.draft.Refused.{Refused}
use Rattle.account.specs.declared.refusals.DraftRefusal.{DraftRefusal}
use Rattle.account.specs.declared.refusals.DraftRefusal.TheVariants.{NoHomes, TableTooShort, NumbersUsedUp, Faulty}
use Rattle.figures.proofs.Reckoning.{reckoned, bills_are_reckoned}
use Rattle.figures.specs.Bills.{bills_in, BilledInTurn, HomesBilled}
use Rattle.figures.specs.WorkedCases.{one_home, three_homes, by_list, by_list_and_fees, by_earning, words, WorkedCases}
use Rattle.figures.specs.declared.bills.Bills.{Bills}

-- ---- no fault, by a computed test of every place

-- the rule has a cost for each group inside the counts
abbrev pub all_have_costs : Meaning → List ℕ → Bool
all_have_costs f counts = each_below (size counts) (λ p. is_ok (f (at_place counts p)))

pub has_cost : (f : Meaning) (counts : List ℕ) → all_have_costs f counts ≡ true → (n : List ℕ) → Inside n counts → is_ok (f n) ≡ true
has_cost f counts tested n inside =
    subst (λ (m : List ℕ). is_ok (f m) ≡ true) (at_place_place counts n inside)
    (at (size counts) (λ p. is_ok (f (at_place counts p))) tested (place counts n) (place_below counts n inside))

-- ---- bills in turn

-- the bills that follow from a purse, so many of them
abbrev pub in_turn : ℕ → List ℕ → Meaning → ℕ → List Bills
in_turn zero counts f purse = []
in_turn (suc n) counts f purse = reckoned counts (cost_by f) purse ∷ in_turn n counts f (reckoned counts (cost_by f) purse).purse

-- what a draft by a rule without faults answers
pub accepted :
    (f : Meaning) (a : Account) (table after : List ℤ) (answer : Result Draft Refused)
    → 0 < total a.homes.counts
    → ((n : List ℕ) → Inside n a.homes.counts → is_ok (f n) ≡ true)
    → a.last < today.highest
    → size a.homes.counts ≤ length table
    → Drafted today f a table answer after
    → (d : Draft) × (answer ≡ Ok d) × Billed (cost_by f) a d
accepted f a table after (Ok d) some costed left long drafted = (d, refl, drafted.billed)
accepted f a table after (Err e) some costed left long drafted = absurd (none e.refusal drafted.1)
  where
    none : (refusal : DraftRefusal) → DraftGround today f a table refusal after → ⊥
    none NoHomes ground = omega (arith, some, ground.0)
    none TableTooShort ground = omega (arith, long, ground.1)
    none NumbersUsedUp ground = omega (arith, left, ground.2)
    none (Faulty p fault) ground =
        let found = ground.1 in
        let has : is_ok (f found.at) ≡ true = costed found.at found.inside in
        let failed : is_ok (f found.at) ≡ false = ap is_ok found.faulty in
        cc

pub billed_in_turn :
    (n : ℕ) (f : Meaning) (a : Account)
    → 0 < total a.homes.counts
    → all_have_costs f a.homes.counts ≡ true
    → BilledInTurn f a (in_turn n a.homes.counts f a.purse)
billed_in_turn zero f a some tested = tt
billed_in_turn (suc n) f a some tested =
    λ table after answer left long drafted.
    let (d, is, billed) = accepted f a table after answer some (has_cost f a.homes.counts tested) left long drafted in
    let told : bills_in d ≡ reckoned a.homes.counts (cost_by f) a.purse = bills_are_reckoned (cost_by f) a d some billed in (
      d,
      is,
      told,
      λ b posted.
          let homes : b.homes.counts ≡ a.homes.counts = ap (λ (h : Composition). h.counts) posted.homes_stay ∙ ap (λ (e : Account). e.homes.counts) billed.holds in
          let purse : b.purse ≡ (reckoned a.homes.counts (cost_by f) a.purse).purse = posted.purse_is ∙ ap (λ (t : Bills). t.purse) told in
          subst (BilledInTurn f b) (ap₂ (λ (ns : List ℕ) (m : ℕ). in_turn n ns f m) homes purse)
          (billed_in_turn n f b (subst (λ ns. 0 < total ns) (sym homes) some) (subst (λ ns. all_have_costs f ns ≡ true) (sym homes) tested)),
    )

-- what is computed for counts and a purse is told of any account that has them
homes_billed :
    (n : ℕ) (counts : List ℕ) (purse : ℕ) (f : Meaning) (bills : List Bills)
    → 0 < total counts
    → all_have_costs f counts ≡ true
    → in_turn n counts f purse ≡ bills
    → HomesBilled counts purse f bills
homes_billed n counts purse f bills some tested are a homes in_purse =
    subst (BilledInTurn f a) (ap₂ (λ (ns : List ℕ) (m : ℕ). in_turn n ns f m) homes in_purse ∙ are)
    (billed_in_turn n f a (subst (λ ns. 0 < total ns) (sym homes) some) (subst (λ ns. all_have_costs f ns ≡ true) (sym homes) tested))

-- ---- the period

-- one home is of a type with readings
only_first : (i : ℕ) → 1 ≤ i → count i one_home ≡ 0
only_first zero p = absurd (omega (arith, p))
only_first (suc zero) p = refl
only_first (suc (suc zero)) p = refl
only_first (suc (suc (suc zero))) p = refl
only_first (suc (suc (suc (suc i)))) p = refl

pub grid_charges : (f : Meaning) → GridPromise words f → f one_home ≡ Ok (pos 1335)
grid_charges f promise = (promise.on_words.of_each (page_of words) (accepted_writes words refl)).0.with_readings one_home only_first ∙ refl

pub peak_costs : (f : Meaning) → PeakPromise words 100 f → f one_home ≡ Ok (pos 180)
peak_costs f promise = (promise.on_words.of_each (page_of words) (accepted_writes words refl)).0.with_readings one_home only_first ∙ refl

-- ---- all together

pub worked_cases : WorkedCases
worked_cases =
    record {
      multiple_for_24 = refl;
      weight_among_24 = refl;
      multiple_for_4 = refl;
      weights_among_4 = refl;
      billed_by_list = homes_billed 3 three_homes 0 by_list _ (omega arith) refl refl;
      billed_with_fees = homes_billed 1 three_homes 0 by_list_and_fees _ (omega arith) refl refl;
      earning_50 = homes_billed 1 one_home 0 (by_earning 50) _ (omega arith) refl refl;
      earning_150 = homes_billed 1 one_home 0 (by_earning 150) _ (omega arith) refl refl;
      stored = record { charge_is = refl; import_is = refl; export_is = refl };
      given_back = record { charge_is = refl; import_is = refl; export_is = refl };
      a_period = accepted_writes words refl;
      grid_charges = grid_charges;
      peak_costs = peak_costs;
    }
