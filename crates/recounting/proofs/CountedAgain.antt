-- The table that a draft leaves is taken as it is, and what is counted out of it again are the draft's shares.
use Rattle.std.proofs.Common.{◌≡◌, ℕ, suc, ◌-◌, ◌^◌, ◌<◌, ◌≤◌, List, ◌∷◌, length, slice_index_or, ℤ, pos, Some, None, Option, Ok, Err, Result, refl, sym, ap, ◌∙◌, subst, arith}
use Rattle.std.proofs.lemmas.List.{get_or-take, length-take}
use Rattle.std.specs.Result.{IsOk}
use Rattle.composition.proofs.Places.{at_place_inside, inside_length, inside_total, place_at_place}
use Rattle.composition.specs.Counts.{most, total, size, place, at_place, Inside}
use Rattle.composition.specs.Types.{position}
use Rattle.composition.specs.declared.composition.Composition.{Composition}
use Rattle.composition.specs.declared.demand_type.DemandType.{DemandType}
use Rattle.cost_rules.specs.Limits.{Within}
use Rattle.cost_rules.specs.Meanings.{Meaning, Lawful}
use Rattle.shapley.proofs.SubsetsToCounts.{length_is_total}
use Rattle.shapley.specs.Subsets.{counts_of}
use Rattle.shapley.specs.TablesMade.{TableMade}
use Rattle.shapley.specs.declared.cost_table.CostTable.{CostTable}
use Rattle.shapley.specs.declared.refusals.TableRefusal.{TableRefusal}
use Rattle.shapley.specs.declared.refusals.TableRefusal.TheVariants.{TooShort, OutsideLimits}
use Rattle.account.specs.Calls.{Accepted}
use Rattle.account.specs.Terms.{today}
use Rattle.account.specs.declared.account.Account.{Account}
use Rattle.account.specs.declared.draft.Draft.{Draft}
use Rattle.account.specs.declared.refusals.DraftRefusal.{DraftRefusal}
use Rattle.every_group.specs.ByGroups.{SharedByGroups}
use Rattle.every_group.specs.declared.by_groups.ByGroups.{ByGroups}
use Rattle.listing.proofs.FirstDrafts.{asks_weaker, listed}
use Rattle.listing.specs.Inputs.{Asks}
use Rattle.listing.specs.Listings.{FirstDraft}
use Rattle.listing.specs.Requests.{Answered, IsFor, RequestDrafted}
use Rattle.listing.specs.declared.request.Request.{Request}
use Rattle.recounting.specs.Counting.{AllCounted}
use Rattle.recounting.specs.Recounting.{by_groups_of, BothShares, Through}
use Rattle.recounting.specs.declared.recount.Recount.{Recount}

-- every entry that a draft fills is a cost by its rule, within the limits
entry_within : (f : Meaning) (a : Account) (table after : List ℤ) (d : Draft) → Lawful f → Accepted today f a table d after → (p : ℕ) → p < size a.homes.counts → Within (slice_index_or after p (pos 0))
entry_within f a table after d lawful accepted p below =
    let counts = a.homes.counts in
    let n = at_place counts p in
    let inside = at_place_inside counts p in
    let here : place counts n ≡ p = place_at_place counts p below in
    subst (λ q. Within (slice_index_or after q (pos 0))) here
    (lawful.limited n (inside_length n counts inside ∙ a.homes.four) (omega (arith, inside_total n counts inside, a.homes.few)) _ (accepted.filled.costs n inside (omega (arith, here, below))))

-- so the table is taken
pub table_taken : (f : Meaning) (a : Account) (table after : List ℤ) (d : Draft) (homes : Composition) (r : Result CostTable TableRefusal)
    → Lawful f → Accepted today f a table d after → homes.counts ≡ a.homes.counts → TableMade homes.counts after r → IsOk r
table_taken f a table after d homes r lawful accepted same made = go r (subst (λ counts. TableMade counts after r) same made)
  where
    go : (r : Result CostTable TableRefusal) → TableMade a.homes.counts after r → IsOk r
    go (Ok t) made = refl
    go (Err TooShort) short = absurd (omega (arith, short, accepted.ready.long_enough, accepted.filled.same_length))
    go (Err (OutsideLimits p)) outside =
        let n = size a.homes.counts in
        let (below, past, before) = outside.1 in
        let within : p < n = omega (arith, below, outside.0, length-take n after) in
        absurd (past (subst Within (sym (get_or-take n after p (pos 0) within)) (entry_within f a table after d lawful accepted p within)))

-- the homes of a draft for a request
pub homes_are : (request : Request) (table after : List ℤ) (r : Result Draft DraftRefusal) (d : Draft) → RequestDrafted request table r after → r ≡ Ok d
    → d.account.homes.counts ≡ request.account.homes.counts
homes_are request table after r d drafted is =
    let accepted = subst (λ r. Answered drafted.grid request.account table r after) is drafted.answered in
    ap (λ (a : Account). a.homes.counts) accepted.billed.holds

pub taken : (request : Request) (table after : List ℤ) (r : Result Draft DraftRefusal) (d : Draft) (homes : Composition) (t : Result CostTable TableRefusal)
    → RequestDrafted request table r after → r ≡ Ok d → homes ≡ d.account.homes → TableMade homes.counts after t → IsOk t
taken request table after r d homes t drafted is of_draft made =
    table_taken drafted.grid request.account table after d homes t drafted.lawful (subst (λ r. Answered drafted.grid request.account table r after) is drafted.answered)
    (ap (λ (c : Composition). c.counts) of_draft ∙ homes_are request table after r d drafted is) made

-- all groups were gone through
through : (t : CostTable) (k : DemandType) (r : Option ByGroups) (counts : List ℕ) → t.homes.counts ≡ counts → SharedByGroups t k r → Through (2 ^ (total counts - 1)) r
through t k None counts same by = tt
through t k (Some r) counts same by =
    let (others, are) = by.a_list in
    let all : total counts ≡ suc (length others) = ap total (sym same ∙ sym are) ∙ length_is_total (k ∷ others) in
    (by.of_each others are).every_group ∙ ap (λ (n : ℕ). 2 ^ n) (omega (arith, all))

pub counted_again : (input : List ℕ) (request : Request) (table after : List ℤ) (r : Result Draft DraftRefusal) (d : Draft) (t : CostTable) (recount : Recount)
    → Asks input (IsFor request)
    → RequestDrafted request table r after
    → r ≡ Ok d
    → t.homes.counts ≡ d.account.homes.counts
    → t.costs.now ≡ after
    → AllCounted t recount.by_groups
    → recount.draft ≡ d
    → Asks input (λ counts words. BothShares counts words recount)
counted_again input request table after r d t recount read drafted is homes costs all of_draft =
    let accepted = subst (λ r. Answered drafted.grid request.account table r after) is drafted.answered in
    let same : request.account.homes.counts ≡ t.homes.counts = sym (homes ∙ homes_are request table after r d drafted is) in
    asks_weaker input (λ counts words. FirstDraft counts words d) _
    (λ counts words first.
    record {
      drafted = subst (FirstDraft counts words) (sym of_draft) first;
      same = λ k.
          rw of_draft
          ((all k).as_drafted today drafted.grid request.account table after d same accepted (λ p below. ap (λ xs. slice_index_or xs p (pos 0)) (sym costs)));
      through_all = λ k. through t k (by_groups_of recount k) counts (homes ∙ first.homes_are) ((all k).from_subsets);
    })
    (listed input request table after r d read drafted is)
