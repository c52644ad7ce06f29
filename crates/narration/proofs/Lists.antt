-- The story by lists and fees: who joins, and what each draft tells.
use Rattle.std.proofs.Common.{◌≡◌, ℕ, zero, suc, ◌+◌, ◌<◌, List, [], ◌∷◌, get_or, ℤ, Ok, Err, Result, IfOk, sym, ◌∙◌, refl, subst, arith}
use Rattle.composition.specs.Counts.{nobody}
use Rattle.composition.specs.Types.{number_of}
use Rattle.composition.specs.declared.demand_type.DemandType.{DemandType}
use Rattle.composition.specs.declared.demand_type.DemandType.TheVariants.{One, Two, Three, Four}
use Rattle.cost_rules.specs.Meanings.{Meaning}
use Rattle.account.specs.Bills.{cost_by}
use Rattle.account.specs.Calls.{Joined, Withdrawn}
use Rattle.account.specs.declared.account.Account.{Account}
use Rattle.account.specs.declared.draft.Draft.{Draft}
use Rattle.account.specs.declared.refusals.JoinRefusal.{JoinRefusal}
use Rattle.account.specs.declared.refusals.JoinRefusal.TheVariants.{NoSuchType, Full}
use Rattle.figures.proofs.Reckoning.{reckoned}
use Rattle.figures.proofs.Workings.{home_joins, bills_are, Stands}
use Rattle.figures.specs.Accounts.{NewlyJoined}
use Rattle.figures.specs.Bills.{bills_in}
use Rattle.figures.specs.Workings.{BillsEnded}
use Rattle.figures.specs.WorkedCases.{three_homes}
use Rattle.figures.specs.declared.bills.Bills.{Bills}
use Rattle.narration.specs.Story.{DraftEnded}

-- what holds of an answer's value, if there is one
pub at_ok : {T E : Type 0} {r : Result T E} {x : T} (P : T → Type 0) → r ≡ Ok x → IfOk r P → P x
at_ok P is holds = subst (λ r. IfOk r P) is holds

-- ---- who joins

-- the numbers that join
abbrev pub numbers : List ℕ
numbers = 1 ∷ 1 ∷ 2 ∷ 5 ∷ []

-- the homes once so many of them have asked to join
abbrev pub joined_by : ℕ → List ℕ
joined_by zero = nobody
joined_by (suc zero) = 1 ∷ 0 ∷ 0 ∷ 0 ∷ []
joined_by (suc (suc zero)) = 2 ∷ 0 ∷ 0 ∷ 0 ∷ []
joined_by (suc (suc (suc n))) = three_homes

-- no type has the number 5
stays : (counts : List ℕ) (a b : Account) (r : Result (Unit {0}) JoinRefusal) → NewlyJoined counts a → Joined a 5 r b → NewlyJoined counts b
stays counts a b (Ok done) new (k, is, with) = absurd (none k is)
  where
    none : (k : DemandType) → 5 ≡ number_of k → ⊥
    none One e = omega (arith, e)
    none Two e = omega (arith, e)
    none Three e = omega (arith, e)
    none Four e = omega (arith, e)
stays counts a b (Err NoSuchType) new (none, same) = subst (NewlyJoined counts) (sym same) new
stays counts a b (Err Full) new (k, is, full, same) = subst (NewlyJoined counts) (sym same) new

pub one_more :
    (i : ℕ) (a b : Account) (r : Result (Unit {0}) JoinRefusal)
    → i < 4
    → NewlyJoined (joined_by i) a
    → Joined a (get_or numbers i 0) r b
    → NewlyJoined (joined_by (i + 1)) b
one_more zero a b r p new joined = (home_joins One nobody a b r (omega arith) new joined).1
one_more (suc zero) a b r p new joined = (home_joins One (joined_by 1) a b r (omega arith) new joined).1
one_more (suc (suc zero)) a b r p new joined = (home_joins Two (joined_by 2) a b r (omega arith) new joined).1
one_more (suc (suc (suc zero))) a b r p new joined = stays three_homes a b r new joined
one_more (suc (suc (suc (suc i)))) a b r p new joined = absurd (omega (arith, p))

-- ---- the drafts

-- a draft that was ended told the bills that are worked out of the homes, their costs and the purse
pub bills_told :
    {End : Draft → Account → Type 0} (f g : Meaning) (counts : List ℕ) (purse last : ℕ) (a b : Account) (table after : List ℤ) (bills : Bills)
    → g ≡ f
    → Stands counts purse last a
    → DraftEnded End g a table after b
    → reckoned counts (cost_by f) purse ≡ bills
    → BillsEnded End f a bills b
bills_told f g counts purse last a b table after bills means stands (d, drafted, ended) are =
    (bills_are f g counts purse last a b (bills_in d) bills means stands (record { draft = d; table = table; after = after; drafted = drafted; told = refl; ended = ended }) are).1

-- the account is as it was once they are withdrawn
pub stands_again :
    (f : Meaning) (counts : List ℕ) (purse last : ℕ) (a b : Account) (bills : Bills)
    → Stands counts purse last a
    → BillsEnded Withdrawn f a bills b
    → Stands counts purse last b
stands_again f counts purse last a b bills stands ended =
    let same : b ≡ a = ended.ended ∙ ended.drafted.billed.holds in
    subst (Stands counts purse last) (sym same) stands
