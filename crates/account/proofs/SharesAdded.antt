-- Where a rule means the sum of two, its shares are the shares by the two, added.
use Rattle.std.proofs.Common.{◌≡◌, ℕ, ◌≤◌, Bool, true, false, cond, ◌&&◌, List, ◌∷◌, length, ℤ, pos, ◌+ℤ◌, neg_ℤ, Ok, Err, Result, sym, ◌∙◌, subst, ap₂, arith}
use lib.Signed.{le_z}
use Rattle.composition.specs.Counts.{total, Inside}
use Rattle.composition.specs.Types.{position}
use Rattle.composition.specs.declared.demand_type.DemandType.{DemandType}
use Rattle.composition.proofs.Places.{inside_length, inside_total}
use Rattle.cost_rules.specs.Faults.{outside_limits}
use Rattle.cost_rules.specs.Limits.{limit}
use Rattle.cost_rules.specs.Meanings.{Meaning}
use Rattle.cost_rules.specs.Prices.{priced}
use Rattle.cost_rules.specs.Sums.{both, sum_of}
use Rattle.cost_rules.specs.declared.fault.Fault.{Fault}
use Rattle.shapley.specs.Shares.{share}
use Rattle.shapley.specs.Subsets.{counts_of}
use Rattle.shapley.proofs.Shapley.{home_counted, share_adds, share_cong}
use Rattle.account.specs.Bills.{cost_of, cost_by, homes_in, line_of}
use Rattle.account.specs.Promise.{SharesAdd}
use Rattle.account.specs.Runs.{pending, Run, AreHomes}
use Rattle.account.specs.Terms.{Terms}
use Rattle.account.specs.declared.draft.Draft.{Draft}
use Rattle.account.proofs.AcceptedDrafts.{DraftedBy, drafted_by, inside_has_cost, counts_drafted, HasShare, home_has_share}

-- ---- the cost of a sum

-- what has a price is that price
priced_same : (a c : ℤ) → priced a ≡ Ok c → c ≡ a
priced_same a c = go (le_z (neg_ℤ (pos limit)) a && le_z a (pos limit))
  where
    go : (within : Bool) → cond within (Ok a) (Err outside_limits) ≡ Ok c → c ≡ a
    go true e = cc
    go false e = cc

-- where two answers together have a cost, it is the sum of their costs
both_adds : (x y : Result ℤ Fault) (c : ℤ) → both x y ≡ Ok c → c ≡ cost_of x +ℤ cost_of y
both_adds (Ok a) (Ok b) c e = priced_same (a +ℤ b) c e
both_adds (Ok a) (Err g) c e = cc
both_adds (Err f) y c e = cc

-- where compositions inside a draft cost what a sum of rules gives, they cost the sum
costs_add :
    {terms : Terms} {s : Draft} {k : Meaning} (f g : Meaning)
    → DraftedBy terms s k
    → ((n : List ℕ) → length n ≡ 4 → total n ≤ 24 → k n ≡ sum_of f g n)
    → (n : List ℕ) → Inside n (homes_in s) → cost_by k n ≡ cost_by f n +ℤ cost_by g n
costs_add {s = s} {k = k} f g w means n i =
    both_adds (f n) (g n) (cost_by k n) (sym (means n four few) ∙ inside_has_cost w n i)
  where
    four : length n ≡ 4
    four = inside_length n (homes_in s) i ∙ s.account.homes.four

    few : total n ≤ 24
    few = omega (arith, inside_total n (homes_in s) i, s.account.homes.few)

-- ---- the shares

pub shares_add :
    {terms : Terms} (l₁ l₂ l₃ : ℕ) {d e s : Draft} {f g k : Meaning} (h : Run terms l₁ (pending d f)) (i : Run terms l₂ (pending e g)) (j : Run terms l₃ (pending s k))
    → ((n : List ℕ) → length n ≡ 4 → total n ≤ 24 → k n ≡ sum_of f g n)
    → (home : DemandType) (others : List DemandType)
    → AreHomes h (home ∷ others)
    → AreHomes i (home ∷ others)
    → AreHomes j (home ∷ others)
    → SharesAdd d e s home
shares_add {terms} l₁ l₂ l₃ {d} {e} {s} {f} {g} {k} h i j means home others are_h are_i are_j =
    record {
      first = one.line;
      second = two.line;
      third = three.line;
      first_present = one.present;
      second_present = two.present;
      third_present = three.present;
      adds = three.is ∙ sum ∙ sym (ap₂ (λ (x y : ℤ). x +ℤ y) one.is two.is);
    }
  where
    counts : List ℕ
    counts = counts_of (home ∷ others)

    shared : (Meaning → ℤ)
    shared m = share counts (position home) (cost_by m)

    one : HasShare (shared f) (line_of d home)
    one = home_has_share (drafted_by h) home others (counts_drafted h (home ∷ others) are_h)

    two : HasShare (shared g) (line_of e home)
    two = home_has_share (drafted_by i) home others (counts_drafted i (home ∷ others) are_i)

    three : HasShare (shared k) (line_of s home)
    three = home_has_share (drafted_by j) home others (counts_drafted j (home ∷ others) are_j)

    inside : (n : List ℕ) → Inside n counts → Inside n (homes_in s)
    inside n p = subst (λ (ns : List ℕ). Inside n ns) (counts_drafted j (home ∷ others) are_j) p

    sum : shared k ≡ shared f +ℤ shared g
    sum =
        share_cong counts (position home) (cost_by k) (λ n. cost_by f n +ℤ cost_by g n) (home_counted home others)
        (λ n p. costs_add f g (drafted_by j) means n (inside n p))
        ∙ share_adds counts (position home) (cost_by f) (cost_by g)
