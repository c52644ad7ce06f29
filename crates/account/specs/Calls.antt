-- What each call on an account answers, and what it leaves.
use Rattle.std.specs.Prelude.{◌≡◌, ℕ, ◌+◌, ◌<◌, ◌≤◌, List, length, ℤ, Ok, Err, Option, Result}
use Rattle.composition.specs.Counts.{most, nobody, total, size, count, raised, lowered}
use Rattle.composition.specs.Types.{position, number_of, NoType}
use Rattle.composition.specs.declared.demand_type.DemandType.{DemandType}
use Rattle.composition.specs.declared.refusals.NoSuchType.{NoSuchType}
use Rattle.cost_rules.specs.Meanings.{Meaning}
use Rattle.account.specs.Bills.{cost_by, line_of, Billed}
use Rattle.account.specs.Filling.{FilledTo, FaultAt}
use Rattle.account.specs.Terms.{Terms}
use Rattle.account.specs.declared.account.Account.{Account}
use Rattle.account.specs.declared.draft.Draft.{Draft}
use Rattle.account.specs.declared.draft.Refused.{Refused}
use Rattle.account.specs.declared.refusals.JoinRefusal.{JoinRefusal}
use Rattle.account.specs.declared.refusals.JoinRefusal.TheVariants.{NoSuchType as NoTypeToJoin, Full}
use Rattle.account.specs.declared.refusals.LeaveRefusal.{LeaveRefusal}
use Rattle.account.specs.declared.refusals.LeaveRefusal.TheVariants.{NoSuchType as NoTypeToLeave, NoneThere}
use Rattle.account.specs.declared.refusals.DraftRefusal.{DraftRefusal}
use Rattle.account.specs.declared.refusals.DraftRefusal.TheVariants.{NoHomes, TableTooShort, NumbersUsedUp, Faulty}

-- a new account: no homes, nothing in the purse, and the last bill number that was asked for
pub record Opened (last : ℕ) (a : Account) : Type 0 where
  pub homes_are : a.homes.counts ≡ nobody
  pub purse_is : a.purse ≡ 0
  pub last_is : a.last ≡ last

-- the account a with other homes
pub record WithHomes (counts : List ℕ) (a b : Account) : Type 0 where
  pub homes_are : b.homes.counts ≡ counts
  pub purse_stays : b.purse ≡ a.purse
  pub last_stays : b.last ≡ a.last

-- joining adds one home of the type with the number; it refuses a number of no type, and then a 25th home
abbrev pub Joined : Account → ℕ → Result (Unit {0}) JoinRefusal → Account → Type 0
Joined a number (Ok done) b = (k : DemandType) × (number ≡ number_of k) × WithHomes (raised (position k) a.homes.counts) a b
Joined a number (Err NoTypeToJoin) b = NoType number × (b ≡ a)
Joined a number (Err Full) b = (k : DemandType) × (number ≡ number_of k) × (total a.homes.counts ≡ most) × (b ≡ a)

-- leaving takes one home of the type away; it refuses a number of no type, and then a type without homes
abbrev pub Departed : Account → ℕ → Result (Unit {0}) LeaveRefusal → Account → Type 0
Departed a number (Ok done) b =
    (k : DemandType) × (number ≡ number_of k) × (0 < count (position k) a.homes.counts) × WithHomes (lowered (position k) a.homes.counts) a b
Departed a number (Err NoTypeToLeave) b = NoType number × (b ≡ a)
Departed a number (Err NoneThere) b = (k : DemandType) × (number ≡ number_of k) × (count (position k) a.homes.counts ≡ 0) × (b ≡ a)

-- a draft may be made: there are homes, the table is long enough, and there is a bill number left
pub record Ready (terms : Terms) (a : Account) (table : List ℤ) : Type 0 where
  pub some_homes : 0 < total a.homes.counts
  pub long_enough : size a.homes.counts ≤ length table
  pub numbers_left : a.last < terms.highest

-- the grounds on which a draft is refused, in their order, and what each leaves in the table
abbrev pub DraftGround : Terms → Meaning → Account → List ℤ → DraftRefusal → List ℤ → Type 0
DraftGround terms f a table NoHomes after = (total a.homes.counts ≡ 0) × (after ≡ table)
DraftGround terms f a table TableTooShort after = (0 < total a.homes.counts) × (length table < size a.homes.counts) × (after ≡ table)
DraftGround terms f a table NumbersUsedUp after =
    (0 < total a.homes.counts) × (size a.homes.counts ≤ length table) × (a.last ≡ terms.highest) × (after ≡ table)
DraftGround terms f a table (Faulty p fault) after =
    Ready terms a table × FaultAt f a.homes.counts p fault × FilledTo f a.homes.counts p table after

-- what the test for a draft and the filling of its table come to
abbrev pub Prepared : Terms → Meaning → Account → List ℤ → Result (Unit {0}) DraftRefusal → List ℤ → Type 0
Prepared terms f a table (Ok done) after = Ready terms a table × FilledTo f a.homes.counts (size a.homes.counts) table after
Prepared terms f a table (Err e) after = DraftGround terms f a table e after

-- a draft that is accepted: no composition inside has a fault, the table holds their costs, and the bills are made of them
pub record Accepted (terms : Terms) (f : Meaning) (a : Account) (table : List ℤ) (d : Draft) (after : List ℤ) : Type 0 where
  pub ready : Ready terms a table
  pub filled : FilledTo f a.homes.counts (size a.homes.counts) table after
  pub billed : Billed (cost_by f) a d

-- drafting by a rule that means f, with a table before and after; refused, it gives the account back as it was
abbrev pub Drafted : Terms → Meaning → Account → List ℤ → Result Draft Refused → List ℤ → Type 0
Drafted terms f a table (Ok d) after = Accepted terms f a table d after
Drafted terms f a table (Err e) after = (e.account ≡ a) × DraftGround terms f a table e.refusal after

-- the account a after bills were posted: another purse, and the last bill number has gone up by one
pub record AfterPosting (a : Account) (purse : ℕ) (b : Account) : Type 0 where
  pub homes_stay : b.homes ≡ a.homes
  pub purse_is : b.purse ≡ purse
  pub last_is : b.last ≡ a.last + 1

-- posting: the draft's purse becomes that of the account which it holds
abbrev pub Posted : Draft → Account → Type 0
Posted d b = AfterPosting d.account d.purse b

-- withdrawing: the account as it was before the draft
abbrev pub Withdrawn : Draft → Account → Type 0
Withdrawn d b = b ≡ d.account

-- reading a line: the line of the type with the number, or a refusal of a number of no type
abbrev pub LineRead : Draft → ℕ → Result (Option (ℤ × ℤ)) NoSuchType → Type 0
LineRead d number (Ok line) = (k : DemandType) × (number ≡ number_of k) × (line ≡ line_of d k)
LineRead d number (Err e) = NoType number
