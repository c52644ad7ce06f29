-- A list of calls is a run of its account, so that all holds of it that is promised of accounts.
use Rattle.std.specs.Prelude.{◌≡◌, ℕ, List, ℤ, Some}
use Rattle.cost_rules.specs.Meanings.{Meaning}
use Rattle.account.specs.Runs.{Run, Been, pending}
use Rattle.account.specs.Terms.{today}
use Rattle.account.specs.declared.account.Account.{Account}
use Rattle.account.specs.declared.draft.Draft.{Draft}
use Rattle.answers.specs.declared.outcome.Outcome.{Outcome}
use Rattle.call_list.specs.Accounts.{DraftTaken}
use Rattle.replaying.specs.Ledgers.{Told}
use Rattle.call_list.specs.declared.session.Session.{Session}
use Rattle.call_list.specs.declared.standing.Standing.{Standing}
use Rattle.call_list.specs.declared.standing.Standing.TheVariants.{Open, Drafted}

-- what an account opened after a last bill number can have come to by calls: an open account, or a draft by some rule
abbrev pub Went : ℕ → Standing → Type 0
Went last (Open a) = Been last a
Went last (Drafted d) = (f : Meaning) × Run today last (pending d f)

-- wherever a ledger stands in a list, its account can have come there
abbrev pub ListsAreRuns : Type 0
ListsAreRuns = (lines : List (List ℕ)) (s : Session) (out : List ℕ) → Told lines (Some s) out → (last : ℕ) × Went last s.standing

-- a draft that a line leads to, by a rule that means f, is a draft by f in a run of that account: so it is by the very rule that the line names that its shares
-- are Shapley values and its bills are made
abbrev pub DraftsAreByTheirRules : Type 0
DraftsAreByTheirRules =
    (lines : List (List ℕ)) (s : Session) (out : List ℕ)
    → Told lines (Some s) out
    → (a : Account)
    → s.standing ≡ Open a
    → (f : Meaning) (table : List ℤ) (o : Outcome) (d : Draft)
    → DraftTaken f table a o (Drafted d)
    → (last : ℕ) × Run today last (pending d f)
