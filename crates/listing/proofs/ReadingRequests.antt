-- An input asks for one thing at most: its words can be read in one way only.
use Rattle.std.proofs.Common.{◌≡◌, ℕ, ◌+◌, ◌^◌, ◌<◌, ◌≤◌, List, [], ◌∷◌, ◌++◌, suc, length, take, drop, slice_index, slice_index_or, Some, refl, sym, ap, ◌∙◌, subst, arith}
use Rattle.std.proofs.lemmas.List.{get_or-take, length-take-le, take-append-drop}
use Rattle.std.proofs.lemmas.List.Elements.{All-append, All-drop}
use Rattle.std.proofs.lemmas.Nat.{from_le_bytes-to_le_bytes_4}
use Rattle.std.specs.Int.{to_le_bytes, from_le_bytes, w32}
use Rattle.composition.proofs.Four.{split4, total_four, each_of_four}
use Rattle.composition.specs.Counts.{most, total, count}
use Rattle.composition.specs.Types.{position}
use Rattle.composition.specs.declared.demand_type.DemandType.{DemandType}
use Rattle.composition.specs.declared.demand_type.DemandType.TheVariants.{One, Two, Three, Four}
use Rattle.account.specs.declared.account.Account.{Account}
use Rattle.listing.proofs.JoiningHomes.{said_once}
use Rattle.listing.specs.Inputs.{WritesDown, Asks, Of32Bits, bytes_of, homes_word, homes_words, most_bytes}
use Rattle.listing.specs.Taking.{OpenedFor}

bytes_once : (vs ws : List ℕ) → Of32Bits vs → Of32Bits ws → bytes_of vs ≡ bytes_of ws → vs ≡ ws
bytes_once [] [] f g e = refl
bytes_once [] (w ∷ ws) f g e = cc
bytes_once (v ∷ vs) [] f g e = cc
bytes_once (v ∷ vs) (w ∷ ws) f g e =
    let first : to_le_bytes w32 v ≡ to_le_bytes w32 w = ap (take 4) e in
    let same : v ≡ w = sym (from_le_bytes-to_le_bytes_4 v (f 0 0 (omega arith))) ∙ ap (from_le_bytes w32) first ∙ from_le_bytes-to_le_bytes_4 w (g 0 0 (omega arith)) in
    let rest : vs ≡ ws = bytes_once vs ws (λ k d h. f (suc k) d (omega (arith, h))) (λ k d h. g (suc k) d (omega (arith, h))) (ap (drop 4) e) in
    rw (same, rest) refl

-- the words for at most 24 homes have 32 bits
in_32 : (counts words : List ℕ) → length counts ≡ 4 → total counts ≤ most → Of32Bits words → Of32Bits (homes_words counts ++ words)
in_32 counts words four few small =
    let all = total_four counts four in
    let homes : Of32Bits (homes_words counts) =
    λ k d h. each_of_four (λ i. slice_index_or (homes_words counts) i d < 2 ^ 32) (at One all) (at Two all) (at Three all) (at Four all) k h in
    All-append (λ w. w < 2 ^ 32) (homes_words counts) words homes small
  where
    at : (k : DemandType) → total counts ≡ count 0 counts + count 1 counts + count 2 counts + count 3 counts → homes_word k (count (position k) counts) < 2 ^ 32
    at One all = omega (arith, all, few)
    at Two all = omega (arith, all, few)
    at Three all = omega (arith, all, few)
    at Four all = omega (arith, all, few)

-- the words of an input are those that it asks by
pub words_written : (input ws counts words : List ℕ) → input ≡ bytes_of ws → Of32Bits ws → WritesDown counts words input → ws ≡ homes_words counts ++ words
words_written input ws counts words is small asks =
    bytes_once ws (homes_words counts ++ words) small (in_32 counts words asks.four asks.few asks.of_32_bits) (sym is ∙ asks.as_written)

written_once : (input c d v w : List ℕ) → WritesDown c v input → WritesDown d w input → (c ≡ d) × (v ≡ w)
written_once input c d v w asks other =
    let same : homes_words c ++ v ≡ homes_words d ++ w =
    words_written input (homes_words c ++ v) d w asks.as_written (in_32 c v asks.four asks.few asks.of_32_bits) other in
    let at : (k : DemandType) → count (position k) c ≡ count (position k) d = λ k. said_once k _ _ (word_at k same) in
    let counts : c ≡ d = split4 0 c asks.four ∙ rw (at One, at Two, at Three, at Four) (sym (split4 0 d other.four)) in
    (counts, ap (drop 4) same)
  where
    word_at : (k : DemandType) → homes_words c ++ v ≡ homes_words d ++ w → homes_word k (count (position k) c) ≡ homes_word k (count (position k) d)
    word_at One e = ap (λ ws. slice_index ws 0) e
    word_at Two e = ap (λ ws. slice_index ws 1) e
    word_at Three e = ap (λ ws. slice_index ws 2) e
    word_at Four e = ap (λ ws. slice_index ws 3) e

-- so what holds of one thing that it asks for holds of any
pub asks_of : (input counts words : List ℕ) (P : List ℕ → List ℕ → Type 0) → WritesDown counts words input → P counts words → Asks input P
asks_of input counts words P asks holds =
    record {
      a_request = (counts, words, asks);
      of_each = λ c w other.
          let same = written_once input counts c words w asks other in
          subst (λ c. P c w) same.0 (subst (P counts) same.1 holds);
    }

-- the first four words
abbrev pub four_of : List ℕ → List ℕ
four_of ws = slice_index ws 0 ∷ slice_index ws 1 ∷ slice_index ws 2 ∷ slice_index ws 3 ∷ []

-- an input whose first four words open an account asks for its homes, and for a period in the other words
pub four_written :
    (input ws : List ℕ) (a : Account) (opened : OpenedFor (four_of ws) (Some a))
    → Of32Bits ws
    → input ≡ bytes_of ws
    → length input ≤ most_bytes
    → 4 ≤ length ws
    → WritesDown opened.0 (drop 4 ws) input
four_written input ws a opened small is short long =
    let at : (i : ℕ) → i < 4 → slice_index (take 4 ws) i ≡ slice_index ws i = λ i within. get_or-take 4 ws i 0 within in
    let front : take 4 ws ≡ homes_words opened.0 =
    split4 0 (take 4 ws) (length-take-le 4 ws long) ∙ rw (at 0 (omega arith), at 1 (omega arith), at 2 (omega arith), at 3 (omega arith)) opened.2 in
    record {
      four = opened.1;
      few = subst (λ n. total n ≤ most) opened.3.homes_are a.homes.few;
      of_32_bits = All-drop (λ w. w < 2 ^ 32) 4 ws small;
      as_written = is ∙ ap bytes_of (sym (take-append-drop 4 ws) ∙ ap (λ vs. vs ++ drop 4 ws) front);
      short = short;
    }

-- an input that asks for something has four words at least, and the first four name its homes
pub written_by_four :
    (input ws counts words : List ℕ) → Of32Bits ws → input ≡ bytes_of ws → WritesDown counts words input → (4 ≤ length ws) × (four_of ws ≡ homes_words counts)
written_by_four input ws counts words small is asks =
    let same = words_written input ws counts words is small asks in
    rw same (omega arith, refl)
