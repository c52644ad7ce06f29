-- What the first draft of an account is, and why there may be none.
use Rattle.std.proofs.Common.{◌≡◌, ℕ, ◌+◌, ◌<◌, List, ◌∷◌, length, slice_index_or, ℤ, pos, Some, None, Option, Ok, Err, Result, refl, sym, ap, ◌∙◌, subst, arith}
use Rattle.std.specs.Result.{MatchResult}
use Rattle.composition.proofs.Places.{inside_self}
use Rattle.composition.proofs.Sizes.{size_at_most}
use Rattle.composition.specs.Counts.{total, count, Inside, place}
use Rattle.composition.specs.Types.{position}
use Rattle.composition.specs.declared.demand_type.DemandType.{DemandType}
use Rattle.cost_rules.specs.Meanings.{Meaning, Lawful}
use Rattle.shapley.specs.CommonMultiple.{LeastCommonMultiple}
use Rattle.shapley.specs.Subsets.{counts_of}
use Rattle.account.proofs.Promises.{promise}
use Rattle.account.specs.Bills.{cost_by, homes_in, line_of, Line}
use Rattle.account.specs.Calls.{Drafted, DraftGround}
use Rattle.account.specs.Filling.{FaultAt}
use Rattle.account.specs.Runs.{drafts, pending, Run, AreHomes, leaves_taken}
use Rattle.account.specs.Terms.{today}
use Rattle.account.specs.declared.account.Account.{Account}
use Rattle.account.specs.declared.draft.Draft.{Draft}
use Rattle.account.specs.declared.draft.Refused.{Refused}
use Rattle.account.specs.declared.refusals.DraftRefusal.{DraftRefusal}
use Rattle.account.specs.declared.refusals.DraftRefusal.TheVariants.{NoHomes, TableTooShort, NumbersUsedUp, Faulty}
use Rattle.metering.specs.Promise.{GridPromise}
use Rattle.listing.specs.Inputs.{Asks}
use Rattle.listing.specs.Listings.{FirstDraft, NotDrafted}
use Rattle.listing.specs.Requests.{Answered, IsFor, JoinedBy, RequestDrafted}
use Rattle.listing.specs.declared.request.Request.{Request}

pub drafted_first :
    (counts words : List ℕ) (grid : Meaning) (a : Account) (d : Draft) (table after : List ℤ)
    → JoinedBy counts a
    → GridPromise words grid
    → Lawful grid
    → Drafted today grid a table (Ok d) after
    → FirstDraft counts words d
drafted_first counts words grid a d table after joined charges lawful drafted =
    let run : Run today 0 (pending d grid) = drafts joined.been grid lawful table after drafted in
    let all = promise today 0 in
    let holds = drafted.billed.holds in
    let homes : homes_in d ≡ counts = ap (λ (b : Account). b.homes.counts) holds ∙ joined.homes_are in
    let costs : (n : List ℕ) → Inside n counts → grid n ≡ Ok (cost_by grid n) =
    λ n inside. all.no_cost_is_a_fault run n (subst (Inside n) (sym homes) inside) in
    record {
      grid = grid;
      charges = charges;
      been = run;
      homes_are = homes;
      some_homes = subst (λ n. 0 < total n) joined.homes_are drafted.ready.some_homes;
      purse_before = ap (λ (b : Account). b.purse) holds ∙ joined.purse_is;
      number_before = ap (λ (b : Account). b.last) holds ∙ joined.last_is;
      cost_is = costs counts (inside_self counts) ∙ ap Ok (ap (cost_by grid) (sym joined.homes_are) ∙ sym drafted.billed.cost_is);
      no_cost_is_a_fault = costs;
      over = subst (λ n. LeastCommonMultiple (total n) d.lcm) homes (all.shares_are_over_the_least_common_multiple run);
      fair = λ home others are. all.shares_are_shapley_values run home others (of_run run homes home others are);
      absent = λ k none. no_line (count (position k) a.homes.counts) _ (line_of d k) (drafted.billed.lines k) (ap (count (position k)) joined.homes_are ∙ none);
      made = all.bills_are_made_of_shares run;
    }
  where
    no_line : (homes : ℕ) (h : ℤ) (line : Option (ℤ × ℤ)) → Line homes h line → homes ≡ 0 → line ≡ None
    no_line homes h None has none = refl
    no_line homes h (Some line) has none = absurd (omega (arith, has.0, none))

    of_run : (run : Run today 0 (pending d grid)) → homes_in d ≡ counts → (home : DemandType) (others : List DemandType) → counts_of (home ∷ others) ≡ counts → AreHomes run (home ∷ others)
    of_run run homes home others are k =
        ap (λ n. count (position k) n + leaves_taken run k) (are ∙ sym homes) ∙ (promise today 0).homes_are_joins_less_leaves run k

pub not_drafted :
    (counts words : List ℕ) (grid : Meaning) (a : Account) (e : DraftRefusal) (table after : List ℤ)
    → JoinedBy counts a
    → GridPromise words grid
    → Answered grid a table (Err e) after
    → NotDrafted counts words e
not_drafted counts words grid a NoHomes table after joined charges ground = (charges.on_words.a_page, sym (ap total joined.homes_are) ∙ ground.0)
not_drafted counts words grid a TableTooShort table after joined charges ground = ground
not_drafted counts words grid a NumbersUsedUp table after joined charges ground = ground
not_drafted counts words grid a (Faulty p fault) table after joined charges ground =
    let homes = joined.homes_are in (
      grid,
      charges,
      subst (λ n. 0 < total n) homes ground.0.some_homes,
      subst (λ n. FaultAt grid n p fault) homes ground.1,
      λ n inside before.
          let same = ap (λ m. place m n) homes in
          (slice_index_or after (place a.homes.counts n) (pos 0), ground.2.costs n (subst (Inside n) (sym homes) inside) (omega (arith, same, before))),
    )

-- what is answered for an account that has had no bills, with a table that has room for all costs
pub answered :
    (f : Meaning) (a : Account) (table after : List ℤ) (r : Result Draft Refused) (s : Result Draft DraftRefusal)
    → a.last ≡ 0
    → length table ≡ 2401
    → MatchResult r (λ d. s ≡ Ok d) (λ e. s ≡ Err e.refusal)
    → Drafted today f a table r after
    → Answered f a table s after
answered f a table after (Ok d) s first long is drafted = rw is drafted
answered f a table after (Err e) s first long is drafted = rw is (go e.refusal drafted.1)
  where
    go : (e : DraftRefusal) → DraftGround today f a table e after → Answered f a table (Err e) after
    go NoHomes ground = ground
    go TableTooShort ground = absurd (omega (arith, long, ground.1, size_at_most a.homes.counts a.homes.four a.homes.few))
    go NumbersUsedUp ground = absurd (omega (arith, first, ground.2))
    go (Faulty p fault) ground = ground

-- what holds of each thing that an input asks for, another may follow from
pub asks_weaker :
    (input : List ℕ) (P Q : List ℕ → List ℕ → Type 0) → ((counts words : List ℕ) → P counts words → Q counts words) → Asks input P → Asks input Q
asks_weaker input P Q weaker asks =
    record { a_request = asks.a_request; of_each = λ counts words written. weaker counts words (asks.of_each counts words written) }

pub listed :
    (input : List ℕ) (request : Request) (table after : List ℤ) (r : Result Draft DraftRefusal) (d : Draft)
    → Asks input (IsFor request)
    → RequestDrafted request table r after
    → r ≡ Ok d
    → Asks input (λ counts words. FirstDraft counts words d)
listed input request table after r d read drafted is =
    let answered = subst (λ r. Answered drafted.grid request.account table r after) is drafted.answered in
    asks_weaker input (IsFor request) _
    (λ counts words of.
    drafted_first counts words drafted.grid request.account d table after of.0 (subst (λ ws. GridPromise ws drafted.grid) of.1 drafted.charges) drafted.lawful answered)
    read

pub not_listed :
    (input : List ℕ) (request : Request) (table after : List ℤ) (r : Result Draft DraftRefusal) (e : DraftRefusal)
    → Asks input (IsFor request)
    → RequestDrafted request table r after
    → r ≡ Err e
    → Asks input (λ counts words. NotDrafted counts words e)
not_listed input request table after r e read drafted is =
    let answered = subst (λ r. Answered drafted.grid request.account table r after) is drafted.answered in
    asks_weaker input (IsFor request) _
    (λ counts words of.
    not_drafted counts words drafted.grid request.account e table after of.0 (subst (λ ws. GridPromise ws drafted.grid) of.1 drafted.charges) answered)
    read
