-- Words that are read off bytes, four at a time, are written in these bytes.
use Rattle.std.proofs.Common.{◌≡◌, ℕ, zero, suc, ◌+◌, ◌*◌, ◌^◌, ◌<◌, ◌≤◌, List, [], ◌∷◌, length, take, drop, slice_index, slice_index_or, slice_set, ◌⊎◌, inl, inr, refl, sym, ap, ◌∙◌, subst, arith}
use Rattle.std.proofs.Math.Seq.{take-add}
use Rattle.std.proofs.lemmas.Bool.{cases_lt}
use Rattle.std.proofs.lemmas.List.{drop-drop, take_more_set, length-drop, length-take, length-take-le, get_or-drop, get_or-take, get_or_past, take_all}
use Rattle.std.proofs.lemmas.List.Concat.{flat_map-append}
use Rattle.std.proofs.lemmas.List.Elements.{All-append, All-cons, All-nil}
use Rattle.std.proofs.lemmas.Nat.{le_bytes_4}
use Rattle.std.specs.Int.{to_le_bytes, from_le_bytes, w32}
use Rattle.std.specs.Simd.{first_chunks}
use Rattle.listing.specs.Inputs.{Of32Bits, bytes_of}

pub length_bytes : (ws : List ℕ) → length (bytes_of ws) ≡ 4 * length ws
length_bytes [] = refl
length_bytes (w ∷ ws) = omega (arith, length_bytes ws)

-- the bytes of one word
chunk_at : (k i : ℕ) (bytes : List ℕ) → i < k → slice_index_or (first_chunks 4 k bytes) i [] ≡ take 4 (drop (4 * i) bytes)
chunk_at zero i bytes within = absurd (omega (arith, within))
chunk_at (suc k) zero bytes within = refl
chunk_at (suc k) (suc i) bytes within =
    let on : 4 + 4 * i ≡ 4 * suc i = omega arith in
    chunk_at k i (drop 4 bytes) (omega (arith, within)) ∙ ap (take 4) (drop-drop (4 * i) 4 bytes ∙ ap (λ n. drop n bytes) on)

-- of bytes that are small, any four are
small_part : (bytes : List ℕ) (n j : ℕ) → ((i : ℕ) → slice_index bytes i < 256) → slice_index (take 4 (drop n bytes)) j < 256
small_part bytes n j small = go (cases_lt j 4)
  where
    go : (j < 4) ⊎ (4 ≤ j) → slice_index (take 4 (drop n bytes)) j < 256
    go (inl early) =
        let is : slice_index (take 4 (drop n bytes)) j ≡ slice_index bytes (n + j) = get_or-take 4 (drop n bytes) j 0 early ∙ get_or-drop n bytes j 0 in
        omega (arith, is, small (n + j))
    go (inr late) = let none = get_or_past (take 4 (drop n bytes)) j 0 (omega (arith, length-take 4 (drop n bytes), late)) in omega (arith, none)

-- the first i words are written in the first bytes
pub record WrittenTo (bytes : List ℕ) (i : ℕ) (words : List ℕ) : Type 0 where
  pub small : Of32Bits (take i words)
  pub written : bytes_of (take i words) ≡ take (4 * i) bytes

pub word_written :
    (bytes words chunk : List ℕ) (k i w : ℕ)
    → i < length words
    → i < k
    → 4 * k ≤ length bytes
    → ((j : ℕ) → slice_index bytes j < 256)
    → chunk ≡ slice_index_or (first_chunks 4 k bytes) i []
    → w < 2 ^ 32
    → w ≡ from_le_bytes w32 chunk
    → WrittenTo bytes i words
    → WrittenTo bytes (i + 1) (slice_set words i w)
word_written bytes words chunk k i w there within long small is fits read before =
    let at : chunk ≡ take 4 (drop (4 * i) bytes) = is ∙ chunk_at k i bytes within in
    let four : length chunk ≡ 4 = ap length at ∙ length-take-le 4 (drop (4 * i) bytes) (omega (arith, within, long, length-drop (4 * i) bytes)) in
    let bytes_fit : (j : ℕ) → slice_index chunk j < 256 = λ j. subst (λ bs. slice_index bs j < 256) (sym at) (small_part bytes (4 * i) j small) in
    let same : to_le_bytes w32 w ≡ chunk = le_bytes_4 chunk w four bytes_fit read in
    let on : 4 * i + 4 ≡ 4 * (i + 1) = omega arith in
    let more = take_more_set words i w there in
    record {
      small = subst Of32Bits (sym more) (All-append (λ v. v < 2 ^ 32) (take i words) (w ∷ []) before.small (All-cons (λ v. v < 2 ^ 32) w [] fits (All-nil (λ v. v < 2 ^ 32))));
      written =
          ap bytes_of more ∙ flat_map-append (to_le_bytes w32) (take i words) (w ∷ []) ∙ rw (before.written, same, at) (sym (ap (λ n. take n bytes) (sym on) ∙ take-add (4 * i) 4 bytes));
    }

-- once all are written, so are all bytes
pub all_written :
    (bytes words : List ℕ) (i : ℕ)
    → length words ≤ i
    → length bytes ≤ 4 * i
    → WrittenTo bytes i words
    → Of32Bits words × (bytes ≡ bytes_of words)
all_written bytes words i end all written =
    let words_are = take_all i words end in
    (subst Of32Bits words_are written.small, sym (take_all (4 * i) bytes all) ∙ sym written.written ∙ ap bytes_of words_are)
