-- No call by which the figures are worked out is refused, and each answers what it should.
use Rattle.std.proofs.Common.{◌≡◌, ℕ, ◌+◌, ◌<◌, ◌≤◌, List, length, ℤ, Ok, Err, Result, is_ok, true, refl, sym, ap, ap₂, ◌∙◌, subst, arith}
use Rattle.composition.specs.Counts.{nobody, total, size, raised, Inside}
use Rattle.composition.specs.Types.{position, number_of}
use Rattle.composition.specs.declared.composition.Composition.{Composition}
use Rattle.composition.specs.declared.demand_type.DemandType.{DemandType}
use Rattle.cost_rules.specs.Filled.{Filled, Holds}
use Rattle.cost_rules.specs.Heads.{HeadMade}
use Rattle.cost_rules.specs.Meanings.{Meaning}
use Rattle.cost_rules.specs.declared.head.HeadRule.{HeadRule}
use Rattle.cost_rules.specs.declared.listed.ListedRule.{ListedRule}
use Rattle.cost_rules.specs.declared.refusals.FeeOutside.{FeeOutside}
use Rattle.cost_rules.specs.declared.refusals.ListedRefusal.{ListedRefusal}
use Rattle.account.specs.Bills.{cost_by}
use Rattle.account.specs.Calls.{Opened, Joined, WithHomes, Drafted, Posted}
use Rattle.account.specs.Terms.{today}
use Rattle.account.specs.declared.account.Account.{Account}
use Rattle.account.specs.declared.draft.Draft.{Draft}
use Rattle.account.specs.declared.draft.Refused.{Refused}
use Rattle.account.specs.declared.refusals.JoinRefusal.{JoinRefusal}
use Rattle.account.specs.declared.refusals.JoinRefusal.TheVariants.{NoSuchType, Full}
use Rattle.period.proofs.AcceptedPages.{accepted_writes}
use Rattle.period.specs.Filled.{Filled as PeriodFilled}
use Rattle.period.specs.Reader.{page_of}
use Rattle.period.specs.declared.period.Period.{Period}
use Rattle.period.specs.declared.refusals.PeriodRefusal.{PeriodRefusal}
use Rattle.figures.proofs.Cases.{all_have_costs, has_cost, accepted}
use Rattle.figures.proofs.Reckoning.{reckoned, bills_are_reckoned}
use Rattle.figures.specs.Accounts.{NewlyJoined}
use Rattle.figures.specs.Workings.{BillsEnded}
use Rattle.figures.specs.WorkedCases.{words}
use Rattle.figures.specs.Workings.{IsList, Billable}
use Rattle.figures.specs.declared.bills.Bills.{Bills}

-- ---- accounts

-- a home joins where there is room
joined :
    (k : DemandType) (a b : Account) (r : Result (Unit {0}) JoinRefusal)
    → total a.homes.counts < 24
    → Joined a (number_of k) r b
    → (r ≡ Ok tt) × WithHomes (raised (position k) a.homes.counts) a b
joined k a b (Ok done) room (of, same, with) =
    let place : position of ≡ position k = omega (arith, same) in (refl, subst (λ i. WithHomes (raised i a.homes.counts) a b) place with)
joined k a b (Err NoSuchType) room (none, stays) = absurd (none k refl)
joined k a b (Err Full) room (of, same, full, stays) = absurd (omega (arith, room, full))

-- nobody has joined an account that was opened
pub opened : {a : Account} → Opened 0 a → NewlyJoined nobody a
opened new = record { homes_are = new.homes_are; purse_is = new.purse_is; last_is = new.last_is }

pub home_joins :
    (k : DemandType) (counts : List ℕ) (a b : Account) (r : Result (Unit {0}) JoinRefusal)
    → total counts < 24
    → NewlyJoined counts a
    → Joined a (number_of k) r b
    → (is_ok r ≡ true) × NewlyJoined (raised (position k) counts) b
home_joins k counts a b r room new joins =
    let (done, with) = joined k a b r (subst (λ ns. total ns < 24) (sym new.homes_are) room) joins in (
      ap is_ok done,
      record { homes_are = with.homes_are ∙ ap (raised (position k)) new.homes_are; purse_is = with.purse_stays ∙ new.purse_is; last_is = with.last_stays ∙ new.last_is },
    )

-- ---- rules

pub lists :
    (box : List ℕ) (table : List ℤ) (old new : ListedRule) (r : Result (Unit {0}) ListedRefusal)
    → IsList box table
    → Filled box table old r new
    → (is_ok r ≡ true) × Holds new box table
lists box table old new (Ok done) is filled = (refl, filled)
lists box table old new (Err e) is filled = absurd (is e filled.0)

-- the fees of a rule that was made of these
pub fees_made : (fees : List ℤ) (made : Result HeadRule FeeOutside) (rule : HeadRule) → HeadMade fees made → made ≡ Ok rule → rule.fees ≡ fees
fees_made fees made rule are is = subst (HeadMade fees) is are

-- ---- the period

pub words_taken : (old new : Period) (r : Result (Unit {0}) PeriodRefusal) → PeriodFilled words old r new → (is_ok r ≡ true) × (new.words.now ≡ words)
words_taken old new (Ok done) filled = (refl, filled.0)
words_taken old new (Err e) filled = absurd (filled.1.no_period (page_of words) (accepted_writes words refl))

-- ---- bills

-- an account with these homes, this in its purse, and this last bill number
pub record Stands (counts : List ℕ) (purse last : ℕ) (a : Account) : Type 0 where
  pub homes_are : a.homes.counts ≡ counts
  pub purse_is : a.purse ≡ purse
  pub last_is : a.last ≡ last

pub newly : (counts : List ℕ) (a : Account) → NewlyJoined counts a → Stands counts 0 0 a
newly counts a new = record { homes_are = new.homes_are; purse_is = new.purse_is; last_is = new.last_is }

-- it can be billed by a rule that means f, if that has a cost for each group of these homes
pub billable :
    (f g : Meaning) (counts : List ℕ) (purse last : ℕ) (a : Account)
    → g ≡ f
    → Stands counts purse last a
    → 0 < total counts
    → size counts ≤ 6
    → all_have_costs f counts ≡ true
    → last < 65535
    → Billable g a
billable f g counts purse last a means stands some small tested left =
    record {
      some_homes = subst (λ ns. 0 < total ns) (sym stands.homes_are) some;
      long_enough = subst (λ ns. size ns ≤ 6) (sym stands.homes_are) small;
      costed =
          subst (λ (m : Meaning). (n : List ℕ) → Inside n a.homes.counts → is_ok (m n) ≡ true) (sym means)
          (has_cost f a.homes.counts (subst (λ ns. all_have_costs f ns ≡ true) (sym stands.homes_are) tested));
      numbers_left = omega (arith, stands.last_is, left);
    }

-- its draft is accepted
pub drafts :
    (f : Meaning) (a : Account) (table after : List ℤ) (answer : Result Draft Refused)
    → Billable f a
    → length table ≡ 6
    → Drafted today f a table answer after
    → is_ok answer ≡ true
drafts f a table after answer able long drafted =
    let (d, is, billed) = accepted f a table after answer able.some_homes able.costed able.numbers_left (omega (arith, able.long_enough, long)) drafted in
    ap is_ok is

pub accepted_draft :
    (f : Meaning) (a : Account) (table after : List ℤ) (answer : Result Draft Refused) (d : Draft)
    → Drafted today f a table answer after
    → answer ≡ Ok d
    → Drafted today f a table (Ok d) after
accepted_draft f a table after answer d drafted is = subst (λ r. Drafted today f a table r after) is drafted

-- and tells what is worked out of the homes, their costs and the purse
pub bills_are :
    {End : Draft → Account → Type 0} (f g : Meaning) (counts : List ℕ) (purse last : ℕ) (a b : Account) (told bills : Bills)
    → g ≡ f
    → Stands counts purse last a
    → BillsEnded End g a told b
    → reckoned counts (cost_by f) purse ≡ bills
    → (told ≡ bills) × BillsEnded End f a bills b
bills_are {End = End} f g counts purse last a b told bills means stands ended are =
    let by_f : BillsEnded End f a told b = subst (λ (m : Meaning). BillsEnded End m a told b) means ended in
    let accepted = by_f.drafted in
    let same : told ≡ bills =
    sym by_f.told ∙ bills_are_reckoned (cost_by f) a by_f.draft accepted.ready.some_homes accepted.billed ∙ ap₂ (λ (ns : List ℕ) (m : ℕ). reckoned ns (cost_by f) m) stands.homes_are stands.purse_is ∙ are in
    (same, subst (λ (t : Bills). BillsEnded End f a t b) same by_f)

-- so the account stands once they are posted
pub stands_after :
    (f : Meaning) (counts : List ℕ) (purse last : ℕ) (a b : Account) (bills : Bills)
    → Stands counts purse last a
    → BillsEnded Posted f a bills b
    → Stands counts bills.purse (last + 1) b
stands_after f counts purse last a b bills stands ended =
    let posted = ended.ended in
    let holds = ended.drafted.billed.holds in
    record {
      homes_are = ap (λ (h : Composition). h.counts) posted.homes_stay ∙ ap (λ (a : Account). a.homes.counts) holds ∙ stands.homes_are;
      purse_is = posted.purse_is ∙ ap (λ (t : Bills). t.purse) ended.told;
      last_is = posted.last_is ∙ ap (λ (a : Account). a.last + 1) holds ∙ ap (λ n. n + 1) stands.last_is;
    }
