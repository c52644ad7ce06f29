use Rattle.std.proofs.Common.{◌≡◌, List, ℤ, refl, ap₂}
use Rattle.std.proofs.lemmas.Result.{IfOk-weaker}
use Rattle.cost_rules.specs.Filled.{Holds}
use Rattle.cost_rules.specs.Heads.{headed}
use Rattle.cost_rules.specs.Listed.{listed}
use Rattle.cost_rules.specs.Meanings.{Meaning}
use Rattle.cost_rules.specs.Sums.{sum_of}
use Rattle.account.specs.Calls.{Posted, Withdrawn}
use Rattle.figures.proofs.Workings.{newly, stands_after}
use Rattle.figures.specs.Accounts.{NewlyJoined}
use Rattle.figures.specs.WorkedCases.{three_homes, costs, fees, by_list, by_list_and_fees, first_bills, second_bills, third_bills, bills_with_fees}
use Rattle.narration.proofs.Lists.{at_ok, bills_told, stands_again}
use Rattle.narration.specs.Story.{DraftEnded, EndOfLists}
use Rattle.narration.proofs.story.by_lists_and_fees.Goals as goal

pub returns-clause-ends : goal.returns-clause-ends
returns-clause-ends g c =
    let rule = c.in_ok-listed.listed in
    let f = listed rule.largest.counts rule.table.now in
    let holds = at_ok (λ rule. Holds rule three_homes costs) c.in_ok-listed.was c.list_costs.ensures in
    let means : f ≡ by_list = ap₂ listed holds.box_is holds.table_is in
    let a = c.in_ok-account.account in
    let b = c.in_ok-account-2.account in
    let d = c.in_ok-account-3.account in
    let e = c.in_ok-account-4.account in
    let h = c.in_ok-account-5.account in
    let new = at_ok (NewlyJoined three_homes) c.in_ok-account.was c.open_and_join.ensures.joined in
    let first = bills_told by_list f three_homes 0 0 a b _ _ first_bills means (newly three_homes a new) (at_ok (DraftEnded Posted f a _ _) c.in_ok-account-2.was c.draft_and_post.ensures.posted) refl in
    let stands_b = stands_after by_list three_homes 0 0 a b first_bills (newly three_homes a new) first in
    let second = bills_told by_list f three_homes 100 1 b d _ _ second_bills means stands_b (at_ok (DraftEnded Posted f b _ _) c.in_ok-account-3.was c.draft_and_post-2.ensures.posted) refl in
    let stands_d = stands_after by_list three_homes 100 1 b d second_bills stands_b second in
    let third = bills_told by_list f three_homes 200 2 d e _ _ third_bills means stands_d (at_ok (DraftEnded Posted f d _ _) c.in_ok-account-4.was c.draft_and_post-3.ensures.posted) refl in
    let stands_e = stands_after by_list three_homes 200 2 d e third_bills stands_d third in
    let fourth = bills_told by_list f three_homes 0 3 e h _ _ first_bills means stands_e (at_ok (DraftEnded Withdrawn f e _ _) c.in_ok-account-5.was c.draft_and_withdraw.ensures.withdrawn) refl in
    let stands_h = stands_again by_list three_homes 0 3 e h first_bills stands_e fourth in
    let head = c.in_ok-fees.field-0 in
    let means_both : sum_of f (headed head.fees) ≡ by_list_and_fees =
    ap₂ (λ (f : Meaning) (fs : List ℤ). sum_of f (headed fs)) means (at_ok (λ rule. rule.fees ≡ fees) c.in_ok-fees.was c.fees.ensures) in
    IfOk-weaker c.draft_and_post-4.result (DraftEnded Posted (sum_of f (headed head.fees)) h _ _) EndOfLists
    (λ last posted.
    let fifth = bills_told by_list_and_fees (sum_of f (headed head.fees)) three_homes 0 3 h last _ _ bills_with_fees means_both stands_h posted refl in
    let stands_last = stands_after by_list_and_fees three_homes 0 3 h last bills_with_fees stands_h fifth in
    record { homes_are = stands_last.homes_are; purse_is = stands_last.purse_is; last_is = stands_last.last_is }) c.draft_and_post-4.ensures.posted
