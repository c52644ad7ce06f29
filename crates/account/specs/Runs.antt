-- Everything that an account can have been through, and what is counted along the way.
use Rattle.std.specs.Prelude.{◌≡◌, ℕ, ◌+◌, cond, List, [], ◌∷◌, ◌++◌, replicate, ℤ, pos, ◌+ℤ◌, Some, None, Ok, Err, Option, Result, ◌==◌}
use Rattle.composition.specs.Counts.{total, count}
use Rattle.composition.specs.Types.{position, number_of}
use Rattle.composition.specs.declared.demand_type.DemandType.{DemandType}
use Rattle.composition.specs.declared.demand_type.DemandType.TheVariants.{One, Two, Three, Four}
use Rattle.cost_rules.specs.Meanings.{Meaning, Lawful}
use Rattle.shapley.specs.Subsets.{counts_of}
use Rattle.account.specs.Bills.{cost_by, homes_in, line_of}
use Rattle.account.specs.Calls.{Opened, Joined, Departed, Drafted, Posted, Withdrawn}
use Rattle.account.specs.Terms.{Terms, today}
use Rattle.account.specs.declared.account.Account.{Account}
use Rattle.account.specs.declared.draft.Draft.{Draft}
use Rattle.account.specs.declared.draft.Refused.{Refused}
use Rattle.account.specs.declared.refusals.JoinRefusal.{JoinRefusal}
use Rattle.account.specs.declared.refusals.LeaveRefusal.{LeaveRefusal}

-- an open account, or a draft that stands, with the meaning of the rule it was drafted by
pub data Standing : Type 0 where
  account_open : Account → Standing
  pending : Draft → Meaning → Standing

-- the account as it stands; while a draft stands, the one that it holds
abbrev pub account_of : Standing → Account
account_of (account_open a) = a
account_of (pending d f) = d.account

-- what an account opened with a last bill number can have been through: any calls that its state permits, refused ones too,
-- each of which begins with the account that the one before it left; drafts by any meaning that owes what a rule owes
pub data Run (terms : Terms) (last : ℕ) : Standing → Type 0 where
  opens : {a : Account} → Opened last a → Run terms last (account_open a)
  joins : {a b : Account} → Run terms last (account_open a) → (number : ℕ) (r : Result (Unit {0}) JoinRefusal) → Joined a number r b → Run terms last (account_open b)
  leaves : {a b : Account} → Run terms last (account_open a) → (number : ℕ) (r : Result (Unit {0}) LeaveRefusal) → Departed a number r b → Run terms last (account_open b)
  drafts :
      {a : Account} {d : Draft}
      → Run terms last (account_open a)
      → (f : Meaning)
      → Lawful f
      → (table after : List ℤ)
      → Drafted terms f a table (Ok d) after
      → Run terms last (pending d f)
  refused :
      {a : Account}
      → Run terms last (account_open a)
      → (f : Meaning)
      → Lawful f
      → (table after : List ℤ) (e : Refused)
      → Drafted terms f a table (Err e) after
      → Run terms last (account_open e.account)
  posts : {a : Account} {d : Draft} {f : Meaning} → Run terms last (pending d f) → Posted d a → Run terms last (account_open a)
  withdraws : {a : Account} {d : Draft} {f : Meaning} → Run terms last (pending d f) → Withdrawn d a → Run terms last (account_open a)

-- this is what an account opened after a last bill number can have been through, so that all holds of it that is promised of accounts
abbrev pub Been : ℕ → Account → Type 0
Been last a = Run today last (account_open a)

-- an account goes on: whatever it has been through, it has been through by calls, and now by some more
abbrev pub GoesOn : Account → Account → Type 0
GoesOn a b = (last : ℕ) → Been last a → Been last b

-- one for a call with the number of a type that was taken, else none
abbrev pub taken : {E : Type 0} → ℕ → Result (Unit {0}) E → DemandType → ℕ
taken number (Ok done) k = cond (number == number_of k) 1 0
taken number (Err e) k = 0

-- how many joins of a type were taken
abbrev pub joins_taken : {terms : Terms} {last : ℕ} {s : Standing} → Run terms last s → DemandType → ℕ
joins_taken (opens o) k = 0
joins_taken (joins h number r j) k = joins_taken h k + taken number r k
joins_taken (leaves h number r l) k = joins_taken h k
joins_taken (drafts h f l t u accepted) k = joins_taken h k
joins_taken (refused h f l t u e why) k = joins_taken h k
joins_taken (posts h p) k = joins_taken h k
joins_taken (withdraws h w) k = joins_taken h k

-- how many leaves of a type were taken
abbrev pub leaves_taken : {terms : Terms} {last : ℕ} {s : Standing} → Run terms last s → DemandType → ℕ
leaves_taken (opens o) k = 0
leaves_taken (joins h number r j) k = leaves_taken h k
leaves_taken (leaves h number r l) k = leaves_taken h k + taken number r k
leaves_taken (drafts h f l t u accepted) k = leaves_taken h k
leaves_taken (refused h f l t u e why) k = leaves_taken h k
leaves_taken (posts h p) k = leaves_taken h k
leaves_taken (withdraws h w) k = leaves_taken h k

-- a list of homes, one entry a home, its type, is that of the account: of each type, joins taken less leaves taken
abbrev pub AreHomes : {terms : Terms} {last : ℕ} {s : Standing} → Run terms last s → List DemandType → Type 0
AreHomes h hs = (k : DemandType) → count (position k) (counts_of hs) + leaves_taken h k ≡ joins_taken h k

-- homes one by one, for four counts
abbrev pub one_by_one : (DemandType → ℕ) → List DemandType
one_by_one n = replicate (n One) One ++ (replicate (n Two) Two ++ (replicate (n Three) Three ++ replicate (n Four) Four))

-- an amount for each home, added up
abbrev pub sum_over : List DemandType → (DemandType → ℤ) → ℤ
sum_over [] f = pos 0
sum_over (k ∷ ks) f = f k +ℤ sum_over ks f

-- the bill in a line, in pence; 0 where there is none
abbrev pub bill_in : Option (ℤ × ℤ) → ℤ
bill_in None = pos 0
bill_in (Some line) = line.1

-- all bills of a draft together, home by home, in pence
abbrev pub bills_of : Draft → ℤ
bills_of d = sum_over (one_by_one (λ k. count (position k) (homes_in d))) (λ k. bill_in (line_of d k))

-- all bills that were posted, in pence
abbrev pub posted_bills : {terms : Terms} {last : ℕ} {s : Standing} → Run terms last s → ℤ
posted_bills (opens o) = pos 0
posted_bills (joins h number r j) = posted_bills h
posted_bills (leaves h number r l) = posted_bills h
posted_bills (drafts h f l t u accepted) = posted_bills h
posted_bills (refused h f l t u e why) = posted_bills h
posted_bills (posts {d = d} h p) = posted_bills h +ℤ bills_of d
posted_bills (withdraws h w) = posted_bills h

-- what all homes cost, by the rule of each draft that was posted, in hundredths of a penny
abbrev pub posted_costs : {terms : Terms} {last : ℕ} {s : Standing} → Run terms last s → ℤ
posted_costs (opens o) = pos 0
posted_costs (joins h number r j) = posted_costs h
posted_costs (leaves h number r l) = posted_costs h
posted_costs (drafts h f l t u accepted) = posted_costs h
posted_costs (refused h f l t u e why) = posted_costs h
posted_costs (posts {d = d} {f = f} h p) = posted_costs h +ℤ cost_by f (homes_in d)
posted_costs (withdraws h w) = posted_costs h

-- how many homes were billed when a draft was last posted, if one was
abbrev pub last_billed : {terms : Terms} {last : ℕ} {s : Standing} → Run terms last s → Option ℕ
last_billed (opens o) = None
last_billed (joins h number r j) = last_billed h
last_billed (leaves h number r l) = last_billed h
last_billed (drafts h f l t u accepted) = last_billed h
last_billed (refused h f l t u e why) = last_billed h
last_billed (posts {d = d} h p) = Some (total (homes_in d))
last_billed (withdraws h w) = last_billed h
