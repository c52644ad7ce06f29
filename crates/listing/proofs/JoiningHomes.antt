-- Homes that join an account one after another: those of one type, and those of all types.
use Rattle.std.proofs.Common.{◌≡◌, ℕ, zero, suc, ◌+◌, ◌<◌, ◌≤◌, List, [], ◌∷◌, length, slice_index, slice_index_or, Some, None, Ok, Err, Result, ◌⊎◌, inl, inr, ◌≢◌, refl, sym, ap, ◌∙◌, subst, arith}
use Rattle.std.proofs.lemmas.Bool.{cases_lt}
use Rattle.std.specs.Result.{result_ok}
use Rattle.composition.proofs.Changes.{position_below, type_counted}
use Rattle.composition.proofs.Four.{split4, total_four, each_of_four}
use Rattle.composition.specs.Counts.{most, nobody, total, count, raised}
use Rattle.composition.specs.Types.{position, number_of}
use Rattle.composition.specs.declared.demand_type.DemandType.{DemandType}
use Rattle.composition.specs.declared.demand_type.DemandType.TheVariants.{One, Two, Three, Four}
use Rattle.account.proofs.GoingOn.{after_join}
use Rattle.account.specs.Calls.{Joined, Opened, WithHomes}
use Rattle.account.specs.Runs.{Been, GoesOn, opens}
use Rattle.account.specs.declared.account.Account.{Account}
use Rattle.account.specs.declared.refusals.JoinRefusal.{JoinRefusal}
use Rattle.account.specs.declared.refusals.JoinRefusal.TheVariants.{NoSuchType, Full}
use Rattle.listing.specs.Inputs.{homes_kind, homes_word, homes_words}
use Rattle.listing.specs.Taking.{JoinedAll, OpenedFor, added}
use Rattle.period.specs.Words.{field_values, field_word}

-- so many homes of a type have joined an account, and nothing else has changed
abbrev pub SoFar : Account → DemandType → ℕ → Account → Type 0
SoFar a k i b = WithHomes (added i (position k) a.homes.counts) a b × GoesOn a b

none_added : (i : ℕ) (ns : List ℕ) → added 0 i ns ≡ ns
none_added i [] = refl
none_added zero (m ∷ ms) = let e : m + 0 ≡ m = omega arith in rw e refl
none_added (suc i) (m ∷ ms) = rw (none_added i ms) refl

one_added : (n i : ℕ) (ns : List ℕ) → raised i (added n i ns) ≡ added (n + 1) i ns
one_added n i [] = refl
one_added n zero (m ∷ ms) = let e : m + n + 1 ≡ m + (n + 1) = omega arith in rw e refl
one_added n (suc i) (m ∷ ms) = rw (one_added n i ms) refl

total_added : (n i : ℕ) (ns : List ℕ) → i < length ns → total (added n i ns) ≡ total ns + n
total_added n i [] within = omega (arith, within)
total_added n zero (m ∷ ms) within = omega arith
total_added n (suc i) (m ∷ ms) within = omega (arith, total_added n i ms (omega (arith, within)))

same_number : (k l : DemandType) → number_of k ≡ number_of l → position l ≡ position k
same_number k l e = omega (arith, e)

count_added : (n i : ℕ) (ns : List ℕ) → i < length ns → count i (added n i ns) ≡ count i ns + n
count_added n i [] within = absurd (omega (arith, within))
count_added n zero (m ∷ ms) within = refl
count_added n (suc i) (m ∷ ms) within = count_added n i ms (omega (arith, within))

count_added_other : (n i j : ℕ) (ns : List ℕ) → j ≢ i → count j (added n i ns) ≡ count j ns
count_added_other n i j [] other = refl
count_added_other n zero zero (m ∷ ms) other = absurd (other refl)
count_added_other n zero (suc j) (m ∷ ms) other = refl
count_added_other n (suc i) zero (m ∷ ms) other = refl
count_added_other n (suc i) (suc j) (m ∷ ms) other = count_added_other n i j ms (λ e. other (ap suc e))

pub none_joined : (a : Account) (k : DemandType) → SoFar a k 0 a
none_joined a k = (record { homes_are = sym (none_added (position k) a.homes.counts); purse_stays = refl; last_stays = refl }, λ last been. been)

-- a home that joins is one more
pub one_joined :
    (a b c : Account) (k : DemandType) (i number : ℕ) (r : Result (Unit {0}) JoinRefusal)
    → number ≡ number_of k
    → SoFar a k i b
    → result_ok r ≡ Some tt
    → Joined b number r c
    → SoFar a k (i + 1) c
one_joined a b c k i number (Ok done) is before taken joined =
    let at = same_number k joined.0 (sym is ∙ joined.1) in
    let now = joined.2 in (
      record {
        homes_are =
            now.homes_are ∙ ap (λ p. raised p b.homes.counts) at ∙ ap (raised (position k)) before.0.homes_are ∙ one_added i (position k) a.homes.counts;
        purse_stays = now.purse_stays ∙ before.0.purse_stays;
        last_stays = now.last_stays ∙ before.0.last_stays;
      },
      λ last been. after_join b c number (Ok done) joined last (before.1 last been),
    )
one_joined a b c k i number (Err e) is before taken joined = cc

-- a home that is refused is the 25th
pub one_too_many :
    (a b c : Account) (k : DemandType) (i number : ℕ) (r : Result (Unit {0}) JoinRefusal)
    → number ≡ number_of k
    → SoFar a k i b
    → result_ok r ≡ None
    → Joined b number r c
    → total a.homes.counts + i ≡ most
one_too_many a b c k i number (Ok done) is before none joined = cc
one_too_many a b c k i number (Err NoSuchType) is before none refused = absurd (refused.0 k is)
one_too_many a b c k i number (Err Full) is before none refused =
    sym (total_added i (position k) a.homes.counts (type_counted k a.homes)) ∙ sym (ap total before.0.homes_are) ∙ refused.2

-- a word says one number of homes
pub said_once : (k : DemandType) (m n : ℕ) → homes_word k m ≡ homes_word k n → m ≡ n
said_once k m n e = omega (arith, e)

-- ---- the homes of all types

-- each word is the one for the count of its type
word_of : (ws counts : List ℕ) → ws ≡ homes_words counts → (k : DemandType) → slice_index ws (position k) ≡ homes_word k (count (position k) counts)
word_of ws counts is One = rw is refl
word_of ws counts is Two = rw is refl
word_of ws counts is Three = rw is refl
word_of ws counts is Four = rw is refl

-- the homes of the first i types have joined, as their words say, and no others
pub record NamedTo (ws : List ℕ) (i : ℕ) (a : Account) : Type 0 where
  pub been : Been 0 a
  pub purse_is : a.purse ≡ 0
  pub last_is : a.last ≡ 0
  pub named : (k : DemandType) → position k < i → slice_index ws (position k) ≡ homes_word k (count (position k) a.homes.counts)
  pub none : (k : DemandType) → i ≤ position k → count (position k) a.homes.counts ≡ 0

pub none_named : (ws : List ℕ) (a : Account) → Opened 0 a → NamedTo ws 0 a
none_named ws a opened =
    record {
      been = opens opened;
      purse_is = opened.purse_is;
      last_is = opened.last_is;
      named = λ k early. absurd (omega (arith, early));
      none = λ k late. ap (count (position k)) opened.homes_are ∙ nobody_there k;
    }
  where
    nobody_there : (k : DemandType) → count (position k) nobody ≡ 0
    nobody_there One = refl
    nobody_there Two = refl
    nobody_there Three = refl
    nobody_there Four = refl

pub one_more_named :
    (ws : List ℕ) (i p : ℕ) (a b : Account) (k : DemandType)
    → position k ≡ i
    → p ≡ position k
    → NamedTo ws i a
    → JoinedAll a k (slice_index ws p) (Some tt) b
    → NamedTo ws (i + 1) b
one_more_named ws i p a b k at is before joined =
    let n = joined.0 in
    let now = joined.2 in
    let same : (l : DemandType) → position l ≢ position k → count (position l) b.homes.counts ≡ count (position l) a.homes.counts =
    λ l other. ap (count (position l)) now.homes_are ∙ count_added_other n (position k) (position l) a.homes.counts other in
    let all : count (position k) b.homes.counts ≡ n =
    let added = ap (count (position k)) now.homes_are ∙ count_added n (position k) a.homes.counts (type_counted k a.homes) in
    omega (arith, added, before.none k (omega (arith, at))) in
    record {
      been = joined.3 0 before.been;
      purse_is = now.purse_stays ∙ before.purse_is;
      last_is = now.last_stays ∙ before.last_is;
      named = λ l early. here l (cases_lt (position l) i) early same all;
      none = λ l late. same l (λ e. absurd (omega (arith, at, late, e))) ∙ before.none l (omega (arith, late));
    }
  where
    here :
        (l : DemandType)
        → (position l < i) ⊎ (i ≤ position l)
        → position l < i + 1
        → ((l : DemandType) → position l ≢ position k → count (position l) b.homes.counts ≡ count (position l) a.homes.counts)
        → count (position k) b.homes.counts ≡ joined.0
        → slice_index ws (position l) ≡ homes_word l (count (position l) b.homes.counts)
    here l (inl less) early same all =
        before.named l less ∙ ap (homes_word l) (sym (same l (λ e. absurd (omega (arith, at, less, e)))))
    here l (inr more) early same all =
        let same_type : position k ≡ position l = omega (arith, at, early, more) in
        subst (λ j. slice_index ws j ≡ field_word homes_kind (j + 1) (count j b.homes.counts)) same_type
        (ap (slice_index ws) (sym is) ∙ joined.1 ∙ ap (homes_word k) (sym all))

pub all_named : (ws : List ℕ) (a : Account) → length ws ≡ 4 → NamedTo ws 4 a → OpenedFor ws (Some a)
all_named ws a four named =
    let at : (k : DemandType) → slice_index ws (position k) ≡ homes_word k (count (position k) a.homes.counts) = λ k. named.named k (position_below k) in (
      a.homes.counts,
      a.homes.four,
      split4 0 ws four ∙ rw (at One, at Two, at Three, at Four) refl,
      record { been = named.been; homes_are = refl; purse_is = named.purse_is; last_is = named.last_is },
    )

pub not_named :
    (ws : List ℕ) (i p : ℕ) (a b : Account) (k : DemandType)
    → position k ≡ i
    → p ≡ position k
    → NamedTo ws i a
    → JoinedAll a k (slice_index ws p) None b
    → OpenedFor ws None
not_named ws i p a b k at place before refused counts four few is =
    let ns = a.homes.counts in
    let all = total_four counts four in
    let x = count (position k) counts in
    let x_fits : x < field_values = each k all in
    let more = refused x x_fits (ap (slice_index ws) place ∙ word_of ws counts is k) in
    let few_yet : total ns + x ≤ total counts = still_fits k (total_four ns a.homes.four) all (within One) (within Two) (within Three) (within Four) (before.none k (omega (arith, at))) in
    absurd (omega (arith, few, more, few_yet))
  where
    each : (k : DemandType) → total counts ≡ count 0 counts + count 1 counts + count 2 counts + count 3 counts → count (position k) counts < field_values
    each One all = omega (arith, all, few)
    each Two all = omega (arith, all, few)
    each Three all = omega (arith, all, few)
    each Four all = omega (arith, all, few)

    within : (l : DemandType) → count (position l) a.homes.counts ≤ count (position l) counts
    within l = go (cases_lt (position l) i)
      where
        go : (position l < i) ⊎ (i ≤ position l) → count (position l) a.homes.counts ≤ count (position l) counts
        go (inl less) = let same = said_once l _ _ (sym (before.named l less) ∙ word_of ws counts is l) in omega (arith, same)
        go (inr more) = let none = before.none l more in omega (arith, none)

    still_fits :
        (k : DemandType)
        → total a.homes.counts ≡ count 0 a.homes.counts + count 1 a.homes.counts + count 2 a.homes.counts + count 3 a.homes.counts
        → total counts ≡ count 0 counts + count 1 counts + count 2 counts + count 3 counts
        → count 0 a.homes.counts ≤ count 0 counts
        → count 1 a.homes.counts ≤ count 1 counts
        → count 2 a.homes.counts ≤ count 2 counts
        → count 3 a.homes.counts ≤ count 3 counts
        → count (position k) a.homes.counts ≡ 0
        → total a.homes.counts + count (position k) counts ≤ total counts
    still_fits One x y one two three four none = omega (arith, x, y, one, two, three, four, none)
    still_fits Two x y one two three four none = omega (arith, x, y, one, two, three, four, none)
    still_fits Three x y one two three four none = omega (arith, x, y, one, two, three, four, none)
    still_fits Four x y one two three four none = omega (arith, x, y, one, two, three, four, none)
