-- A draft that stands was accepted, for the account that it holds: what follows for its costs and its shares.
use Rattle.std.proofs.Common.{◌≡◌, ℕ, suc, ◌<◌, ◌≤◌, List, ◌∷◌, length, get_or, ℤ, pos, Some, None, Ok, Option, Result, sym, refl, ap, ◌∙◌, subst, arith}
use Rattle.composition.specs.Counts.{total, count, place, Inside}
use Rattle.composition.specs.Types.{position}
use Rattle.composition.specs.declared.demand_type.DemandType.{DemandType}
use Rattle.composition.specs.declared.demand_type.DemandType.TheVariants.{One, Two, Three, Four}
use Rattle.composition.proofs.Four.{split4}
use Rattle.composition.proofs.Places.{place_below}
use Rattle.cost_rules.specs.Meanings.{Meaning}
use Rattle.cost_rules.specs.declared.fault.Fault.{Fault}
use Rattle.shapley.specs.CommonMultiple.{LeastCommonMultiple, lcm_to}
use Rattle.shapley.specs.Shares.{share}
use Rattle.shapley.specs.Subsets.{counts_of}
use Rattle.shapley.proofs.CommonMultiples.{lcm_to_is_least}
use Rattle.shapley.proofs.Shapley.{home_counted, share_is_shapley}
use Rattle.shapley.proofs.SubsetsToCounts.{length_counts, length_is_total}
use Rattle.account.specs.Bills.{cost_of, cost_by, homes_in, line_of, Line}
use Rattle.account.specs.Calls.{Accepted}
use Rattle.account.specs.Promise.{FairShare}
use Rattle.account.specs.Runs.{Standing, account_open, pending, Run, opens, joins, leaves, drafts, refused, posts, withdraws, AreHomes}
use Rattle.account.specs.Terms.{Terms}
use Rattle.account.specs.declared.account.Account.{Account}
use Rattle.account.specs.declared.draft.Draft.{Draft}
use Rattle.account.proofs.HomesCounted.{joins_less_leaves}

-- ---- every draft that stands was accepted

-- the draft was accepted for the account that it holds, with some table
pub record DraftedBy (terms : Terms) (d : Draft) (f : Meaning) : Type 0 where
  pub table : List ℤ
  pub after : List ℤ
  pub accepted : Accepted terms f d.account table d after

abbrev Stands : Terms → Standing → Type 0
Stands terms (account_open a) = Unit {0}
Stands terms (pending d f) = DraftedBy terms d f

stands : {terms : Terms} {last : ℕ} {s : Standing} → Run terms last s → Stands terms s
stands (opens o) = tt
stands (joins h number r j) = tt
stands (leaves h number r l) = tt
stands {terms = terms} (drafts {d = d} h f l t u w) =
    record { table = t; after = u; accepted = subst (λ (a : Account). Accepted terms f a t d u) (sym w.billed.holds) w }
stands (refused h f l t u e d) = tt
stands (posts h p) = tt
stands (withdraws h w) = tt

pub drafted_by : {terms : Terms} {last : ℕ} {d : Draft} {f : Meaning} → Run terms last (pending d f) → DraftedBy terms d f
drafted_by h = stands h

-- ---- its costs

-- an answer with a cost is the answer with its own cost
own_cost : (r : Result ℤ Fault) (c : ℤ) → r ≡ Ok c → r ≡ Ok (cost_of r)
own_cost r c e = e ∙ ap Ok (sym (ap cost_of e))

-- every composition inside stands somewhere in the table, which is filled to its end with costs
pub inside_has_cost : {terms : Terms} {d : Draft} {f : Meaning} → DraftedBy terms d f → (n : List ℕ) → Inside n (homes_in d) → f n ≡ Ok (cost_by f n)
inside_has_cost {d = d} {f = f} w n i =
    own_cost (f n) (get_or w.after (place (homes_in d) n) (pos 0)) (w.accepted.filled.costs n i (place_below (homes_in d) n i))

-- ---- its shares

pub over_the_least : {terms : Terms} {d : Draft} {f : Meaning} → DraftedBy terms d f → LeastCommonMultiple (total (homes_in d)) d.lcm
over_the_least {d = d} w = rw w.accepted.billed.over (lcm_to_is_least (total (homes_in d)))

-- lists of four counts with as many homes of every type are the same
same_counts : (ms ns : List ℕ) → length ms ≡ 4 → length ns ≡ 4 → ((k : DemandType) → count (position k) ms ≡ count (position k) ns) → ms ≡ ns
same_counts ms ns e f h =
    let one = h One in
    let two = h Two in
    let three = h Three in
    let four = h Four in
    let left = split4 0 ms e in
    let right = split4 0 ns f in
    cc

-- the homes of a run, one by one, have the counts of the draft that stands
pub counts_drafted : {terms : Terms} {last : ℕ} {d : Draft} {f : Meaning} (h : Run terms last (pending d f)) (hs : List DemandType) → AreHomes h hs → counts_of hs ≡ homes_in d
counts_drafted {d = d} h hs are =
    same_counts (counts_of hs) (homes_in d) (length_counts hs) d.account.homes.four
    (λ k. let b = joins_less_leaves h k in let a = are k in omega arith)

-- the line of a type that has homes: it is there, with the share
pub record HasShare (h : ℤ) (o : Option (ℤ × ℤ)) : Type 0 where
  pub line : ℤ × ℤ
  pub present : o ≡ Some line
  pub is : line.0 ≡ h

has_share : (homes : ℕ) (h : ℤ) (o : Option (ℤ × ℤ)) → 0 < homes → Line homes h o → HasShare h o
has_share homes h None p none = absurd (omega arith)
has_share homes h (Some line) p (q, e) = record { line = line; present = refl; is = e }

-- the line of each home, by the counts of all homes
pub home_has_share :
    {terms : Terms} {d : Draft} {f : Meaning} → DraftedBy terms d f → (home : DemandType) (others : List DemandType)
    → counts_of (home ∷ others) ≡ homes_in d
    → HasShare (share (counts_of (home ∷ others)) (position home) (cost_by f)) (line_of d home)
home_has_share {d = d} {f = f} w home others e =
    has_share (count (position home) (counts_of (home ∷ others))) (share (counts_of (home ∷ others)) (position home) (cost_by f)) (line_of d home)
    (home_counted home others)
    (subst (λ (ns : List ℕ). Line (count (position home) ns) (share ns (position home) (cost_by f)) (line_of d home)) (sym e) (w.accepted.billed.lines home))

pub fair_share :
    {terms : Terms} {last : ℕ} {d : Draft} {f : Meaning} (h : Run terms last (pending d f)) (home : DemandType) (others : List DemandType)
    → AreHomes h (home ∷ others)
    → FairShare (cost_by f) d home others
fair_share {d = d} {f = f} h home others are =
    record {
      line = mine.line;
      present = mine.present;
      shapley = rw (mine.is, lcm) (share_is_shapley (cost_by f) home others few);
    }
  where
    counted : counts_of (home ∷ others) ≡ homes_in d
    counted = counts_drafted h (home ∷ others) are

    mine : HasShare (share (counts_of (home ∷ others)) (position home) (cost_by f)) (line_of d home)
    mine = home_has_share (drafted_by h) home others counted

    size : total (homes_in d) ≡ suc (length others)
    size = ap total (sym counted) ∙ length_is_total (home ∷ others)

    few : suc (length others) ≤ 24
    few = omega (arith, size, d.account.homes.few)

    lcm : d.lcm ≡ lcm_to (suc (length others))
    lcm = (drafted_by h).accepted.billed.over ∙ ap lcm_to size
