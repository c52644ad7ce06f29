-- The purse over a whole run: it holds what the bills brought in beyond the costs, and never a penny for each home.
use Rattle.std.proofs.Common.{◌≡◌, ℕ, ◌*◌, ◌<◌, ℤ, pos, ◌+ℤ◌, ◌*ℤ◌, Ok, Err, Result, ap, ◌∙◌, arith}
use Rattle.std.proofs.lemmas.Int.{ints}
use Rattle.composition.specs.Counts.{total}
use Rattle.cost_rules.specs.Meanings.{Meaning}
use Rattle.rounding.proofs.Integers.{*ℤ_+ℤ}
use Rattle.billing.proofs.BillingLaws.{purse_below}
use Rattle.account.specs.Bills.{cost_by, homes_in}
use Rattle.account.specs.Calls.{Joined, Departed}
use Rattle.account.specs.Promise.{Small}
use Rattle.account.specs.Runs.{Standing, account_of, Run, opens, joins, leaves, drafts, refused, posts, withdraws, bills_of, posted_bills, posted_costs, last_billed}
use Rattle.account.specs.Terms.{Terms}
use Rattle.account.specs.declared.account.Account.{Account}
use Rattle.account.specs.declared.draft.Draft.{Draft}
use Rattle.account.specs.declared.refusals.JoinRefusal.{JoinRefusal}
use Rattle.account.specs.declared.refusals.JoinRefusal.TheVariants.{NoSuchType as NoTypeToJoin, Full}
use Rattle.account.specs.declared.refusals.LeaveRefusal.{LeaveRefusal}
use Rattle.account.specs.declared.refusals.LeaveRefusal.TheVariants.{NoSuchType as NoTypeToLeave, NoneThere}
use Rattle.account.proofs.AcceptedDrafts.{DraftedBy, drafted_by}
use Rattle.account.proofs.PostedBills.{draft_balances}

-- ---- only posting changes the purse

joined_purse : (a b : Account) (number : ℕ) (r : Result (Unit {0}) JoinRefusal) → Joined a number r b → b.purse ≡ a.purse
joined_purse a b number (Ok done) (k, e, w) = w.purse_stays
joined_purse a b number (Err NoTypeToJoin) (n, e) = ap (λ (c : Account). c.purse) e
joined_purse a b number (Err Full) (k, n, t, e) = ap (λ (c : Account). c.purse) e

left_purse : (a b : Account) (number : ℕ) (r : Result (Unit {0}) LeaveRefusal) → Departed a number r b → b.purse ≡ a.purse
left_purse a b number (Ok done) (k, e, p, w) = w.purse_stays
left_purse a b number (Err NoTypeToLeave) (n, e) = ap (λ (c : Account). c.purse) e
left_purse a b number (Err NoneThere) (k, n, z, e) = ap (λ (c : Account). c.purse) e

-- ---- what is in it

-- bills x and costs c before, with the purse p; then bills y, costs e and the purse q
one_more : (x y c e p q : ℤ) → x ≡ c +ℤ p → y +ℤ p ≡ e +ℤ q → x +ℤ y ≡ (c +ℤ e) +ℤ q
one_more x y c e p q h k = omega (arith, ints)

pub bills_are_costs_and_purse : {terms : Terms} {last : ℕ} {s : Standing} (h : Run terms last s) → pos 100 *ℤ posted_bills h ≡ posted_costs h +ℤ pos (account_of s).purse
bills_are_costs_and_purse (opens o) = rw o.purse_is
bills_are_costs_and_purse (joins {a = a} {b = b} h number r j) = rw (joined_purse a b number r j) (bills_are_costs_and_purse h)
bills_are_costs_and_purse (leaves {a = a} {b = b} h number r l) = rw (left_purse a b number r l) (bills_are_costs_and_purse h)
bills_are_costs_and_purse (drafts h f l t u d) = rw d.billed.holds (bills_are_costs_and_purse h)
bills_are_costs_and_purse (refused h f l t u e d) = rw d.0 (bills_are_costs_and_purse h)
bills_are_costs_and_purse (posts {d = d} {f = f} h p) =
    rw p.purse_is
    (*ℤ_+ℤ (pos 100) (posted_bills h) (bills_of d)
    ∙ one_more (pos 100 *ℤ posted_bills h) (pos 100 *ℤ bills_of d) (posted_costs h) (cost_by f (homes_in d)) (pos d.account.purse) (pos d.purse)
    (bills_are_costs_and_purse h) (draft_balances (drafted_by h)))
bills_are_costs_and_purse (withdraws h w) = rw w (bills_are_costs_and_purse h)

-- ---- how much that can be

-- the new purse would not pay for a penny more to every home
drafted_small : {terms : Terms} {d : Draft} {f : Meaning} → DraftedBy terms d f → d.purse < 100 * total (homes_in d)
drafted_small {d = d} {f = f} w =
    purse_below (homes_in d) w.accepted.billed.made.pence (cost_by f (homes_in d)) d.account.purse d.rebate d.purse w.accepted.billed.made.settled

pub purse_stays_small : {terms : Terms} {last : ℕ} {s : Standing} (h : Run terms last s) → Small (account_of s).purse (last_billed h)
purse_stays_small (opens o) = o.purse_is
purse_stays_small (joins {a = a} {b = b} h number r j) = rw (joined_purse a b number r j) (purse_stays_small h)
purse_stays_small (leaves {a = a} {b = b} h number r l) = rw (left_purse a b number r l) (purse_stays_small h)
purse_stays_small (drafts h f l t u d) = rw d.billed.holds (purse_stays_small h)
purse_stays_small (refused h f l t u e d) = rw d.0 (purse_stays_small h)
purse_stays_small (posts h p) = rw p.purse_is (drafted_small (drafted_by h))
purse_stays_small (withdraws h w) = rw w (purse_stays_small h)
