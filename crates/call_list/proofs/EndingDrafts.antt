-- Calls on an account.
use Rattle.account.specs.declared.account.Account.{Account}
use Rattle.account.specs.declared.draft.Draft.{Draft}
use Rattle.answers.specs.declared.outcome.Outcome.{Outcome}
use Rattle.call_list.specs.Accounts.{OnDraft, EndTaken}
use Rattle.call_list.specs.declared.standing.Standing.{Standing}
use Rattle.call_list.specs.declared.standing.Standing.TheVariants.{Open, Drafted}

-- what ends a draft may be said in other words
pub on_draft :
    {P Q : Draft → Account → Type 0} (s : Standing) (o : Outcome) (t : Standing)
    → ((d : Draft) (a : Account) → P d a → Q d a)
    → OnDraft (EndTaken P) s o t
    → OnDraft (EndTaken Q) s o t
on_draft (Open a) o t weaker h = h
on_draft (Drafted d) o t weaker h = record { left = h.left; ends = weaker d h.left h.ends; told = h.told }
