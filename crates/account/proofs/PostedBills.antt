-- All bills of a draft, home by home, and the old purse together are the cost of all homes and the new purse.
use Rattle.std.proofs.Common.{◌≡◌, ℕ, zero, suc, ◌*◌, List, [], ◌∷◌, ◌++◌, map, length, get_or, replicate, ℤ, pos, ◌+ℤ◌, ◌-ℤ◌, ◌*ℤ◌, Some, None, Option, sym, refl, ap, ◌∙◌, subst, ap₂, add-zero, mul-zero}
use lib.IntN.{+ℤ_assoc, +ℤ_comm, +ℤ_idl, +ℤ_idr, zero-*ℤ, suc_ℤ-*ℤ}
use Rattle.composition.specs.Amounts.{weighted}
use Rattle.composition.specs.Counts.{total, count}
use Rattle.composition.specs.Types.{position}
use Rattle.composition.specs.declared.demand_type.DemandType.{DemandType}
use Rattle.composition.specs.declared.demand_type.DemandType.TheVariants.{One, Two, Three, Four}
use Rattle.composition.proofs.Four.{split4}
use Rattle.cost_rules.specs.Meanings.{Meaning}
use Rattle.rounding.specs.Rounding.{RoundedDown}
use Rattle.billing.specs.Billing.{Settled}
use Rattle.billing.proofs.BillingLaws.{balance}
use Rattle.shapley.specs.Shares.{share}
use Rattle.account.specs.Bills.{cost_by, homes_in, line_of, Line}
use Rattle.account.specs.Runs.{one_by_one, sum_over, bill_in, bills_of}
use Rattle.account.specs.Terms.{Terms}
use Rattle.account.specs.declared.draft.Draft.{Draft}
use Rattle.account.proofs.AcceptedDrafts.{DraftedBy}

-- ---- sums home by home, and type by type

sum_over_append : (hs ks : List DemandType) (f : DemandType → ℤ) → sum_over (hs ++ ks) f ≡ sum_over hs f +ℤ sum_over ks f
sum_over_append [] ks f = sym (+ℤ_idl (sum_over ks f))
sum_over_append (h ∷ hs) ks f = ap (λ (x : ℤ). f h +ℤ x) (sum_over_append hs ks f) ∙ sym (+ℤ_assoc (f h) (sum_over hs f) (sum_over ks f))

sum_over_same : (n : ℕ) (k : DemandType) (f : DemandType → ℤ) → sum_over (replicate n k) f ≡ pos n *ℤ f k
sum_over_same zero k f = sym (zero-*ℤ (f k))
sum_over_same (suc n) k f =
    ap (λ (x : ℤ). f k +ℤ x) (sum_over_same n k f) ∙ +ℤ_comm (f k) (pos n *ℤ f k) ∙ sym (suc_ℤ-*ℤ (pos n) (f k))

-- for each type its homes times its amount, added up
abbrev by_type : (DemandType → ℕ) → (DemandType → ℤ) → ℤ
by_type n f = pos (n One) *ℤ f One +ℤ (pos (n Two) *ℤ f Two +ℤ (pos (n Three) *ℤ f Three +ℤ pos (n Four) *ℤ f Four))

by_type_cong : (n : DemandType → ℕ) (f g : DemandType → ℤ) → ((k : DemandType) → pos (n k) *ℤ f k ≡ pos (n k) *ℤ g k) → by_type n f ≡ by_type n g
by_type_cong n f g h =
    ap₂ (λ (x y : ℤ). x +ℤ y) (h One) (ap₂ (λ (x y : ℤ). x +ℤ y) (h Two) (ap₂ (λ (x y : ℤ). x +ℤ y) (h Three) (h Four)))

sum_one_by_one : (n : DemandType → ℕ) (f : DemandType → ℤ) → sum_over (one_by_one n) f ≡ by_type n f
sum_one_by_one n f =
    joined One (replicate (n Two) Two ++ (replicate (n Three) Three ++ replicate (n Four) Four))
    (joined Two (replicate (n Three) Three ++ replicate (n Four) Four) (joined Three (replicate (n Four) Four) (sum_over_same (n Four) Four f)))
  where
    joined : (k : DemandType) (hs : List DemandType) {x : ℤ} → sum_over hs f ≡ x → sum_over (replicate (n k) k ++ hs) f ≡ pos (n k) *ℤ f k +ℤ x
    joined k hs e = sum_over_append (replicate (n k) k) hs f ∙ ap₂ (λ (x y : ℤ). x +ℤ y) (sum_over_same (n k) k f) e

-- an amount that a list lacks reads as 0, as it counts in the sum
weighted_reads :
    (a b c d : ℕ) (xs : List ℤ)
    → weighted (a ∷ b ∷ c ∷ d ∷ []) xs
    ≡ pos a *ℤ get_or xs 0 (pos 0) +ℤ (pos b *ℤ get_or xs 1 (pos 0) +ℤ (pos c *ℤ get_or xs 2 (pos 0) +ℤ pos d *ℤ get_or xs 3 (pos 0)))
weighted_reads a b c d [] = simp (mul-zero, add-zero)
weighted_reads a b c d (w ∷ []) = simp (mul-zero, add-zero, +ℤ_idr)
weighted_reads a b c d (w ∷ (x ∷ [])) = simp (mul-zero, add-zero, +ℤ_idr)
weighted_reads a b c d (w ∷ (x ∷ (y ∷ []))) = simp (mul-zero, +ℤ_idr)
weighted_reads a b c d (w ∷ (x ∷ (y ∷ (z ∷ zs)))) = simp +ℤ_idr

weighted_by_type :
    (ns : List ℕ) (xs : List ℤ)
    → length ns ≡ 4
    → weighted ns xs ≡ by_type (λ k. count (position k) ns) (λ k. get_or xs (position k) (pos 0))
weighted_by_type ns xs e =
    ap (λ (ms : List ℕ). weighted ms xs) (split4 0 ns e) ∙ weighted_reads (count 0 ns) (count 1 ns) (count 2 ns) (count 3 ns) xs

-- ---- the bills of a draft

-- the first four of a list of pence
abbrev four_of : List ℤ → List ℤ
four_of xs = get_or xs 0 (pos 0) ∷ get_or xs 1 (pos 0) ∷ get_or xs 2 (pos 0) ∷ get_or xs 3 (pos 0) ∷ []

-- the four that are read are all that a settlement of four counts goes by
settled_by_four :
    (ns : List ℕ) (pence : List ℤ) (cost : ℤ) (purse : ℕ) (rebate : ℤ) (new_purse : ℕ)
    → length ns ≡ 4
    → Settled ns pence cost purse rebate new_purse
    → Settled ns (four_of pence) cost purse rebate new_purse
settled_by_four ns pence cost purse rebate new_purse e s =
    record {
      rebate_is = subst (λ (w : ℤ). RoundedDown (pos purse +ℤ (pos 100 *ℤ w -ℤ cost)) (100 * total ns) rebate) same s.rebate_is;
      purse_is = subst (λ (w : ℤ). pos new_purse ≡ (pos purse +ℤ (pos 100 *ℤ w -ℤ cost)) -ℤ pos (100 * total ns) *ℤ rebate) same s.purse_is;
    }
  where
    same : weighted ns pence ≡ weighted ns (four_of pence)
    same = weighted_by_type ns pence e ∙ sym (weighted_by_type ns (four_of pence) e)

-- the bills of all homes of a type: there are none where there is no line
bills_of_type :
    (homes : ℕ) (h b : ℤ) (o : Option (ℤ × ℤ))
    → Line homes h o
    → ((line : ℤ × ℤ) → o ≡ Some line → line.1 ≡ b)
    → pos homes *ℤ bill_in o ≡ pos homes *ℤ b
bills_of_type homes h b None none e = rw none (zero-*ℤ (pos 0) ∙ sym (zero-*ℤ b))
bills_of_type homes h b (Some line) some e = ap (λ (x : ℤ). pos homes *ℤ x) (e line refl)

-- all bills are the pence less the rebate, for all homes
bills_are_rebated :
    {terms : Terms} {d : Draft} {f : Meaning} (w : DraftedBy terms d f)
    → bills_of d ≡ weighted (homes_in d) (map (λ u. u -ℤ d.rebate) (four_of w.accepted.billed.made.pence))
bills_are_rebated {d = d} {f = f} w =
    sum_one_by_one homes (λ k. bill_in (line_of d k))
    ∙ by_type_cong homes (λ k. bill_in (line_of d k)) (λ k. get_or pence (position k) (pos 0) -ℤ d.rebate)
    (λ k. bills_of_type (homes k) (share (homes_in d) (position k) (cost_by f)) (get_or pence (position k) (pos 0) -ℤ d.rebate) (line_of d k) (w.accepted.billed.lines k) (w.accepted.billed.made.rebated k))
    ∙ sym (weighted_by_type (homes_in d) (map (λ u. u -ℤ d.rebate) (four_of pence)) d.account.homes.four)
  where
    homes : DemandType → ℕ
    homes k = count (position k) (homes_in d)

    pence : List ℤ
    pence = w.accepted.billed.made.pence

pub draft_balances :
    {terms : Terms} {d : Draft} {f : Meaning}
    → DraftedBy terms d f
    → pos 100 *ℤ bills_of d +ℤ pos d.account.purse ≡ cost_by f (homes_in d) +ℤ pos d.purse
draft_balances {d = d} {f = f} w =
    ap (λ (x : ℤ). pos 100 *ℤ x +ℤ pos d.account.purse) (bills_are_rebated w)
    ∙ balance (homes_in d) (four_of pence) (cost_by f (homes_in d)) d.account.purse d.rebate d.purse four
    (settled_by_four (homes_in d) pence (cost_by f (homes_in d)) d.account.purse d.rebate d.purse four w.accepted.billed.made.settled)
  where
    pence : List ℤ
    pence = w.accepted.billed.made.pence

    four : length (homes_in d) ≡ 4
    four = d.account.homes.four
