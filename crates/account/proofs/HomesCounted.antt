-- The homes of an account, type by type, are the joins taken less the leaves taken.
use Rattle.std.proofs.Common.{◌≡◌, ℕ, zero, suc, ◌+◌, ◌<◌, Bool, cond, eqb, List, [], ◌∷◌, length, Ok, Err, Result, sym, refl, ap, ◌∙◌, ap₂, add-one, arith}
use lib.Dec.{eqb-zero-suc, eqb-suc-zero, eqb-suc-suc}
use Rattle.composition.specs.Counts.{nobody, count, raised, lowered}
use Rattle.composition.specs.Types.{position, number_of}
use Rattle.composition.specs.declared.demand_type.DemandType.{DemandType}
use Rattle.composition.specs.declared.demand_type.DemandType.TheVariants.{One, Two, Three, Four}
use Rattle.composition.proofs.Changes.{type_counted}
use Rattle.account.specs.Calls.{Joined, Departed}
use Rattle.account.specs.Runs.{Standing, account_of, Run, opens, joins, leaves, drafts, refused, posts, withdraws, taken, joins_taken, leaves_taken}
use Rattle.account.specs.Terms.{Terms}
use Rattle.account.specs.declared.account.Account.{Account}
use Rattle.account.specs.declared.refusals.JoinRefusal.{JoinRefusal}
use Rattle.account.specs.declared.refusals.JoinRefusal.TheVariants.{NoSuchType as NoTypeToJoin, Full}
use Rattle.account.specs.declared.refusals.LeaveRefusal.{LeaveRefusal}
use Rattle.account.specs.declared.refusals.LeaveRefusal.TheVariants.{NoSuchType as NoTypeToLeave, NoneThere}

-- ---- one home more or fewer, as each position sees it

count_raised : (i j : ℕ) (ns : List ℕ) → i < length ns → count j (raised i ns) ≡ count j ns + cond (eqb i j) 1 0
count_raised i j [] h = absurd (omega arith)
count_raised zero zero (n ∷ ns) h = refl
count_raised zero (suc j) (n ∷ ns) h = rw (eqb-zero-suc j) (omega arith)
count_raised (suc i) zero (n ∷ ns) h = rw (eqb-suc-zero i) (omega arith)
count_raised (suc i) (suc j) (n ∷ ns) h = rw (eqb-suc-suc i j) (count_raised i j ns (omega arith))

count_lowered : (i j : ℕ) (ns : List ℕ) → 0 < count i ns → count j (lowered i ns) + cond (eqb i j) 1 0 ≡ count j ns
count_lowered i j [] h = absurd (omega arith)
count_lowered zero zero (n ∷ ns) h = omega arith
count_lowered zero (suc j) (n ∷ ns) h = rw (eqb-zero-suc j) (omega arith)
count_lowered (suc i) zero (n ∷ ns) h = rw (eqb-suc-zero i) (omega arith)
count_lowered (suc i) (suc j) (n ∷ ns) h = rw (eqb-suc-suc i j) (count_lowered i j ns h)

-- a call with the number of a type is one for another type where both stand at the same position
by_number : (number : ℕ) (k₀ k : DemandType) → number ≡ number_of k₀ → eqb (position k₀) (position k) ≡ eqb number (number_of k)
by_number number k₀ k e =
    sym (ap₂ eqb (e ∙ add-one (position k₀)) (add-one (position k)) ∙ eqb-suc-suc (position k₀) (position k))

-- ---- one call

-- how many homes of a type an account has
abbrev homes_of_type : Account → DemandType → ℕ
homes_of_type a k = count (position k) a.homes.counts

joined_homes : (a b : Account) (number : ℕ) (r : Result (Unit {0}) JoinRefusal) → Joined a number r b → (k : DemandType) → homes_of_type b k ≡ homes_of_type a k + taken number r k
joined_homes a b number (Ok done) (k₀, e, w) k =
    ap (count (position k)) w.homes_are
    ∙ count_raised (position k₀) (position k) a.homes.counts (type_counted k₀ a.homes)
    ∙ ap (λ (same : Bool). homes_of_type a k + cond same 1 0) (by_number number k₀ k e)
joined_homes a b number (Err NoTypeToJoin) (n, e) k = rw e (omega arith)
joined_homes a b number (Err Full) (k₀, n, t, e) k = rw e (omega arith)

left_homes : (a b : Account) (number : ℕ) (r : Result (Unit {0}) LeaveRefusal) → Departed a number r b → (k : DemandType) → homes_of_type b k + taken number r k ≡ homes_of_type a k
left_homes a b number (Ok done) (k₀, e, p, w) k =
    ap₂ (λ (n : ℕ) (same : Bool). n + cond same 1 0) (ap (count (position k)) w.homes_are) (sym (by_number number k₀ k e))
    ∙ count_lowered (position k₀) (position k) a.homes.counts p
left_homes a b number (Err NoTypeToLeave) (n, e) k = rw e (omega arith)
left_homes a b number (Err NoneThere) (k₀, n, z, e) k = rw e (omega arith)

-- ---- a whole run

nobody_there : (k : DemandType) → count (position k) nobody ≡ 0
nobody_there One = refl
nobody_there Two = refl
nobody_there Three = refl
nobody_there Four = refl

pub joins_less_leaves : {terms : Terms} {last : ℕ} {s : Standing} (h : Run terms last s) (k : DemandType) → homes_of_type (account_of s) k + leaves_taken h k ≡ joins_taken h k
joins_less_leaves (opens o) k = rw (o.homes_are, nobody_there k)
joins_less_leaves (joins {a = a} {b = b} h number r j) k = omega (arith, joins_less_leaves h k, joined_homes a b number r j k)
joins_less_leaves (leaves {a = a} {b = b} h number r l) k = omega (arith, joins_less_leaves h k, left_homes a b number r l k)
joins_less_leaves (drafts h f l t u d) k = rw d.billed.holds (joins_less_leaves h k)
joins_less_leaves (refused h f l t u e d) k = rw d.0 (joins_less_leaves h k)
joins_less_leaves (posts h p) k = rw p.homes_stay (joins_less_leaves h k)
joins_less_leaves (withdraws h w) k = rw w (joins_less_leaves h k)
