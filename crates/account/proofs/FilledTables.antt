-- A table that is filled place by place.
use Rattle.std.proofs.Common.{◌≡◌, ℕ, ◌+◌, ◌<◌, ◌≤◌, ◌≢◌, List, length, get_or, set, ℤ, pos, Some, None, Ok, Err, Option, sym, ap, ◌∙◌, subst, arith, length-set, get_or-set_other, get_or-set_same}
use native.Mathlib.Decide.{ℕ_discrete}
use Rattle.composition.proofs.Places.{at_place_inside, place_at_place, at_place_place, place_below, inside_length, inside_total, inside_self}
use Rattle.composition.specs.Counts.{Inside, place, at_place, size, total, count}
use Rattle.composition.specs.Types.{position}
use Rattle.cost_rules.specs.Limits.{Within}
use Rattle.cost_rules.specs.Meanings.{Meaning, Limited}
use Rattle.cost_rules.specs.declared.fault.Fault.{Fault}
use Rattle.billing.specs.Billing.{Settled}
use Rattle.shapley.proofs.Shapley.{share_cong}
use Rattle.shapley.specs.CostTables.{costs_by}
use Rattle.shapley.specs.Shares.{share}
use Rattle.account.specs.Bills.{cost_of, cost_by, homes_in, line_of, Line, Billed}
use Rattle.account.specs.declared.account.Account.{Account}
use Rattle.account.specs.declared.draft.Draft.{Draft}
use Rattle.account.specs.Filling.{FilledTo, FaultAt, FillEnds}
use Rattle.account.specs.declared.refusals.DraftRefusal.TheVariants.{Faulty}

-- one place more: the cost of the composition that stands there is written
pub filled_more :
    (f : Meaning) (counts : List ℕ) (p : ℕ) (before after : List ℤ) (cost : ℤ)
    → p < length after
    → FilledTo f counts p before after
    → f (at_place counts p) ≡ Ok cost
    → FilledTo f counts (p + 1) before (set after p cost)
filled_more f counts p before after cost within filled here =
    record {
      costs = λ n inside below. cost_of n inside below (ℕ_discrete (place counts n) p);
      others = λ q beyond. let apart : q ≢ p = omega arith in rw get_or-set_other (filled.others q (omega arith));
      same_length = length-set after p cost ∙ filled.same_length;
    }
  where
    cost_of :
        (n : List ℕ)
        → Inside n counts
        → place counts n < p + 1
        → Dec (place counts n ≡ p)
        → f n ≡ Ok (get_or (set after p cost) (place counts n) (pos 0))
    cost_of n inside below (yes same) =
        let itself : at_place counts p ≡ n = ap (at_place counts) (sym same) ∙ at_place_place counts n inside in
        rw (same, get_or-set_same) (ap f (sym itself) ∙ here)
    cost_of n inside below (no apart) =
        rw get_or-set_other (filled.costs n inside (omega (arith, apart)))

-- a fault that is met at a place stands there
pub fault_met : (f : Meaning) (counts : List ℕ) (p : ℕ) (fault : Fault) → p < size counts → f (at_place counts p) ≡ Err fault → FaultAt f counts p fault
fault_met f counts p fault within faulty =
    record { at = at_place counts p; inside = at_place_inside counts p; stands = place_at_place counts p within; faulty = faulty }

-- and ends the filling
pub fill_broken :
    (f : Meaning) (counts : List ℕ) (p : ℕ) (before after : List ℤ) (fault : Fault)
    → p < size counts
    → FilledTo f counts p before after
    → f (at_place counts p) ≡ Err fault
    → FillEnds f counts before (Err (Faulty p fault)) after
fill_broken f counts p before after fault within filled faulty = (fault_met f counts p fault within faulty, filled)

-- in a table that is filled, the entry at a place is the cost of the composition there
pub filled_at :
    (f : Meaning) (counts : List ℕ) (before after : List ℤ)
    → FilledTo f counts (size counts) before after
    → (p : ℕ)
    → p < size counts
    → f (at_place counts p) ≡ Ok (get_or after p (pos 0))
filled_at f counts before after filled p within =
    let stands : place counts (at_place counts p) ≡ p = place_at_place counts p within in
    filled.costs (at_place counts p) (at_place_inside counts p) (omega (arith, stands, within))
    ∙ ap (λ (q : ℕ). Ok (get_or after q (pos 0))) stands

-- so every entry lies within the limits
pub filled_within :
    (f : Meaning) (counts : List ℕ) (before after : List ℤ)
    → Limited f
    → length counts ≡ 4
    → total counts ≤ 24
    → FilledTo f counts (size counts) before after
    → (p : ℕ)
    → p < size counts
    → Within (get_or after p (pos 0))
filled_within f counts before after limited four few filled p within =
    let inside = at_place_inside counts p in
    limited (at_place counts p) (inside_length _ counts inside ∙ four) (omega (arith, inside_total (at_place counts p) counts inside, few)) _
    (filled_at f counts before after filled p within)

-- and the table and the rule agree on what compositions inside cost
pub filled_costs :
    (f : Meaning) (counts : List ℕ) (before after : List ℤ)
    → FilledTo f counts (size counts) before after
    → (n : List ℕ)
    → Inside n counts
    → costs_by counts after n ≡ cost_by f n
filled_costs f counts before after filled n inside = sym (ap cost_of (filled.costs n inside (place_below counts n inside)))

-- bills by costs that agree inside the account are the same bills
pub billed_alike :
    (c c' : List ℕ → ℤ) (a : Account) (d : Draft) → ((n : List ℕ) → Inside n a.homes.counts → c n ≡ c' n) → Billed c a d → Billed c' a d
billed_alike c c' a d alike b =
    record {
      holds = b.holds;
      over = b.over;
      cost_is = b.cost_is ∙ alike counts (inside_self counts);
      lines = λ k. line_alike (count (position k) counts) (share counts (position k) c) (share counts (position k) c') (line_of d k) (λ some. share_cong counts (position k) c c' some alike) (b.lines k);
      made =
          record {
            pence = b.made.pence;
            four = b.made.four;
            rounded = b.made.rounded;
            rebated = b.made.rebated;
            settled = subst (λ (x : ℤ). Settled (homes_in d) b.made.pence x d.account.purse d.rebate d.purse) whole b.made.settled;
          };
    }
  where
    counts : List ℕ
    counts = a.homes.counts

    line_alike : (homes : ℕ) (h h' : ℤ) (line : Option (ℤ × ℤ)) → (0 < homes → h ≡ h') → Line homes h line → Line homes h' line
    line_alike homes h h' None same l = l
    line_alike homes h h' (Some x) same l = (l.0, l.1 ∙ same l.0)

    whole : c (homes_in d) ≡ c' (homes_in d)
    whole = subst (λ (e : Account). c e.homes.counts ≡ c' e.homes.counts) (sym b.holds) (alike counts (inside_self counts))
