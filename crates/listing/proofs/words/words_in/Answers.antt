use Rattle.std.proofs.Common.{◌≡◌, ◌*◌, ◌/◌, ◌<◌, ◌≤◌, length, ap, sym, refl, arith, rules, ◌∙◌, slice_index_or, []}
use Rattle.std.proofs.lemmas.Bool.{false≢true}
use Rattle.listing.proofs.WritingWords.{word_written, all_written, length_bytes}
use Rattle.listing.specs.Inputs.{most_bytes}
use Rattle.listing.proofs.words.words_in.Goals as goal

pub returns-then-not-is_empty : goal.returns-then-not-is_empty
returns-then-not-is_empty c words is short =
    let long = ap length is in
    let empty : length c.as_chunks.result.1.now ≡ 0 = omega (arith, long, length_bytes words, c.as_chunks.ensures.back_len) in
    let no = c.is_empty.ensures in
    let yes = c.if-not-is_empty.true in
    absurd (false≢true (sym yes ∙ no ∙ rw empty refl))

pub loop-place-preserved : goal.loop-place-preserved
loop-place-preserved c =
    let i = c.loop-place.place in
    let k = length c.args.input.now / 4 in
    let there : i < length c.loop-place.words = search rules in
    let within : i < k = search (rules, c.as_chunks.ensures.front_len) in
    word_written c.args.input.now c.loop-place.words _ k i c.from_le_bytes.result there within (omega arith) (λ j. (c.type_inv.input j).fits) (ap (λ cs. slice_index_or cs i []) c.as_chunks.ensures.front) c.from_le_bytes.type_inv c.from_le_bytes.ensures c.loop-place.invariant

pub returns : goal.returns
returns c =
    let none_left : length c.as_chunks.result.1.now ≡ 0 = search rules in
    let fits = c.in_ok-words.ensures.lookup.0.1 in
    let short : length c.args.input.now ≤ most_bytes =
    omega (arith, fits, c.told-room, c.as_chunks.ensures.front_len, c.as_chunks.ensures.back_len, none_left) in
    let as_many : length c.in_ok-words.words.now ≡ length c.as_chunks.result.0.now = search rules in
    let end : length c.args.input.now ≤ 4 * c.loop-place.place =
    omega (arith, as_many, c.as_chunks.ensures.front_len, c.as_chunks.ensures.back_len, none_left, c.loop-place-test.false) in
    let whole = all_written c.args.input.now c.loop-place.words c.loop-place.place (omega (arith, c.loop-place.auto.words, c.loop-place-test.false)) end c.loop-place.invariant in
    (whole.0, whole.1, short)
