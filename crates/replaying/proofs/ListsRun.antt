-- A list of calls is a run of its account.
use Rattle.std.proofs.Common.{◌≡◌, ℕ, ◌<◌, ◌≤◌, List, ℤ, Option, Some, None, Ok, Err, Result, length, ap, sym, subst, inl, inr, ◌⊎◌}
use Rattle.std.proofs.lemmas.Bool.{cases_lt}
use Rattle.rule_book.specs.Meanings.{means}
use Rattle.answers.specs.declared.outcome.Outcome.TheVariants.{Unreadable}
use Rattle.cost_rules.specs.Meanings.{Meaning}
use Rattle.account.specs.Calls.{Posted, Withdrawn, Drafted as Drafted_by}
use Rattle.account.specs.Runs.{Run, pending, opens, joins, leaves, drafts, refused, posts, withdraws}
use Rattle.account.specs.Terms.{today}
use Rattle.account.specs.declared.account.Account.{Account}
use Rattle.account.specs.declared.draft.Draft.{Draft}
use Rattle.account.specs.declared.draft.Refused.{Refused}
use Rattle.answers.specs.declared.outcome.Outcome.{Outcome}
use Rattle.ledger_lines.specs.declared.line.Line.{Line}
use Rattle.ledger_lines.specs.declared.line.Line.TheVariants.{List as Begin, End, Period, Rule, Join, Leave, Draft as DraftBy, Line as ReadLine, Post, Withdraw, Compose, Make, Ask, Cost}
use Rattle.call_list.specs.Accounts.{OnOpen, OnDraft, JoinTaken, LeaveTaken, DraftTaken, DraftShown, EndTaken}
use Rattle.replaying.specs.Ledgers.{ComesOf, Outside, Told, nothing_yet, and_then}
use Rattle.call_list.specs.Lists.{GoesOnWith, Inside, IfRule}
use Rattle.replaying.specs.Runs.{Went, ListsAreRuns, DraftsAreByTheirRules}
use Rattle.call_list.specs.declared.session.Session.{Session}
use Rattle.call_list.specs.declared.standing.Standing.{Standing}
use Rattle.call_list.specs.declared.standing.Standing.TheVariants.{Open, Drafted}

-- a call goes on from an account, or from a draft
abbrev GoesOn : Standing → Standing → Type 0
GoesOn s t = (last : ℕ) → Went last s → Went last t

stays : {s t : Standing} → t ≡ s → GoesOn s t
stays same last went = subst (Went last) (sym same) went

on_open :
    (call : Account → Outcome → Standing → Type 0) (s : Standing) (o : Outcome) (t : Standing)
    → ((a : Account) → call a o t → GoesOn (Open a) t)
    → OnOpen call s o t
    → GoesOn s t
on_open call (Open a) o t by h = by a h
on_open call (Drafted d) o t by h = stays h.1

on_draft :
    (call : Draft → Outcome → Standing → Type 0) (s : Standing) (o : Outcome) (t : Standing)
    → ((d : Draft) → call d o t → GoesOn (Drafted d) t)
    → OnDraft call s o t
    → GoesOn s t
on_draft call (Open a) o t by h = stays h.1
on_draft call (Drafted d) o t by h = by d h

joined : (number : ℕ) (o : Outcome) (t : Standing) (a : Account) → JoinTaken number a o t → GoesOn (Open a) t
joined number o t a j last been = subst (Went last) (sym j.told.1) (joins been number j.result j.joined)

departed : (number : ℕ) (o : Outcome) (t : Standing) (a : Account) → LeaveTaken number a o t → GoesOn (Open a) t
departed number o t a l last been = subst (Went last) (sym l.told.1) (leaves been number l.result l.departed)

posted : (o : Outcome) (t : Standing) (d : Draft) → EndTaken Posted d o t → GoesOn (Drafted d) t
posted o t d e last went = subst (Went last) (sym e.told.1) (posts went.1 e.ends)

withdrawn : (o : Outcome) (t : Standing) (d : Draft) → EndTaken Withdrawn d o t → GoesOn (Drafted d) t
withdrawn o t d e last went = subst (Went last) (sym e.told.1) (withdraws went.1 e.ends)

drafted : (f : Meaning) (table : List ℤ) (o : Outcome) (t : Standing) (a : Account) → DraftTaken f table a o t → GoesOn (Open a) t
drafted f table o t a d last been = go d.result d.drafted d.told
  where
    go : (r : Result Draft Refused) → Drafted_by today f a table r d.after → DraftShown r d.after o t → Went last t
    go (Ok draft) by told = subst (Went last) (sym told.1) (f, drafts been f d.lawful table d.after by)
    go (Err e) by told = subst (Went last) (sym told.1) (refused been f d.lawful table d.after e by)

by_rule :
    (s : Session) (number : ℕ) (table : List ℤ) (o : Outcome) (t : Session)
    → IfRule s.notes.book number (λ f. OnOpen (DraftTaken f table) s.standing o t.standing) ((o ≡ Unreadable) × (t.standing ≡ s.standing))
    → GoesOn s.standing t.standing
by_rule s number table o t h = go (cases_lt number (length s.notes.book.definitions.items))
  where
    go : (number < length s.notes.book.definitions.items) ⊎ (length s.notes.book.definitions.items ≤ number) → GoesOn s.standing t.standing
    go (inl there) = let f = means s.notes.book.definitions.items number in on_open (DraftTaken f table) s.standing o t.standing (drafted f table o t.standing) (h.there there)
    go (inr none) = stays ((h.none none).1)

inside : (line : Line) (s : Session) (o : Outcome) (t : Session) → Inside line s o t → GoesOn s.standing t.standing
inside (Join number) s o t h = on_open (JoinTaken number) s.standing o t.standing (joined number o t.standing) h.0
inside (Leave number) s o t h = on_open (LeaveTaken number) s.standing o t.standing (departed number o t.standing) h.0
inside (DraftBy rule table) s o t h = by_rule s rule table.items o t h.0
inside (ReadLine number) s o t h = stays (ap (λ s. s.standing) h.1)
inside Post s o t h = on_draft (EndTaken Posted) s.standing o t.standing (posted o t.standing) h.0
inside Withdraw s o t h = on_draft (EndTaken Withdrawn) s.standing o t.standing (withdrawn o t.standing) h.0
inside (Period number words) s o t h = stays h.1
inside (Rule number rule) s o t h = stays h.1
inside (Compose n) s o t h = stays (ap (λ s. s.standing) h.1)
inside (Make making) s o t h = stays h.1
inside (Ask kind n) s o t h = stays (ap (λ s. s.standing) h.1)
inside (Cost rule n) s o t h = stays (ap (λ s. s.standing) h.1)
inside (Begin name last) s o t h = stays (ap (λ s. s.standing) h.1)
inside End s o t h = elim h [ ]

-- a list, if there is one, has an account that can have come where it stands
abbrev ListWent : Option Session → Type 0
ListWent None = Unit {0}
ListWent (Some s) = (last : ℕ) × Went last s.standing

outside : (line : Line) (o : Outcome) (after : Option Session) → Outside line o after → ListWent after
outside (Begin name last) o after h =
    let s = h.0 in
    rw (h.1) (last, subst (Went last) (sym h.2.stands) (opens h.2.opened))
outside _ o after h = rw (h.1) tt

goes_on : (line : Line) (s : Session) (o : Outcome) (after : Option Session) → GoesOnWith line s o after → ListWent (Some s) → ListWent after
goes_on End s o after h went = rw (h.1) tt
goes_on line s o after h went = rw (h.1) (went.0, inside line s o h.0 h.2 went.0 went.1)

comes : (before : Option Session) (line : Option Line) (o : Outcome) (after : Option Session) → ComesOf before line o after → ListWent before → ListWent after
comes before None o after h went = subst ListWent (sym h.1) went
comes None (Some line) o after h went = outside line o after h
comes (Some s) (Some line) o after h went = goes_on line s o after h went

told_went : {lines : List (List ℕ)} {after : Option Session} {out : List ℕ} → Told lines after out → ListWent after
told_went nothing_yet = tt
told_went (and_then {before = before} {after = after} told text line read o c) = comes before line o after c (told_went told)

pub lists_are_runs : ListsAreRuns
lists_are_runs lines s out told = told_went told

-- a draft by f goes on as one by f
drafted_by :
    (last : ℕ) (f : Meaning) (table : List ℤ) (a : Account) (o : Outcome) (d : Draft)
    → DraftTaken f table a o (Drafted d)
    → Went last (Open a)
    → Run today last (pending d f)
drafted_by last f table a o d taken been = go taken.result taken.drafted taken.told
  where
    go : (r : Result Draft Refused) → Drafted_by today f a table r taken.after → DraftShown r taken.after o (Drafted d) → Run today last (pending d f)
    go (Ok draft) by told = let same : draft ≡ d = cc in subst (λ d. Run today last (pending d f)) same (drafts been f taken.lawful table taken.after by)
    go (Err e) by told = let no_draft : Drafted d ≡ Open e.account = told.1 in cc

pub drafts_are_by_their_rules : DraftsAreByTheirRules
drafts_are_by_their_rules lines s out told a stands f table o d taken =
    let went = lists_are_runs lines s out told in
    (went.0, drafted_by went.0 f table a o d taken (subst (Went went.0) stands went.1))
