-- A ledger tells of one line after another.
use Rattle.std.proofs.Common.{◌≡◌, ℕ, ◌+◌, ◌<◌, List, [], ◌∷◌, ◌++◌, Option, Some, None, length, take, get_or, sym, ap, ◌∙◌, subst, arith}
use Rattle.std.proofs.lemmas.List.{take_more, get_or-map, length-map, length-take-le, append_assoc}
use Rattle.std.specs.Borrow.{Bor}
use Rattle.std.specs.Option.{option_copied}
use Rattle.answers.specs.Texts.{outcome_text}
use Rattle.answers.specs.declared.outcome.Outcome.{Outcome}
use Rattle.ledger_lines.specs.declared.line.Line.{Line}
use Rattle.replaying.specs.Ledgers.{ComesOf, ReadAs, Told, and_then}
use Rattle.replaying.specs.Reading.{Entered, read_line, texts_of}
use Rattle.replaying.specs.declared.entries.Entry.{Entry}
use Rattle.call_list.specs.declared.session.Session.{Session}

-- what stands behind a reference, if there is one, is what was referred to
pub same_line : (r : Option (Bor Line)) (line : Option Line) → option_copied r ≡ line → read_line r ≡ line
same_line None line e = e
same_line (Some l) line e = e

-- one line more is told of
pub one_more_told :
    (entries : List Entry) (i : ℕ) (e : Entry) {before after : Option Session} {out : List ℕ} (o : Outcome)
    → i < length entries
    → get_or entries i e ≡ e
    → Entered entries
    → ComesOf before e.line o after
    → Told (take i (texts_of entries)) before out
    → Told (take (i + 1) (texts_of entries)) after ((out ++ e.text.now) ++ outcome_text (i + 1) o)
one_more_told entries i e {before} {after} {out} o there is entered comes told =
    let texts = texts_of entries in
    let below : i < length texts = subst (λ n. i < n) (sym (length-map entries (λ e. e.text.now))) there in
    let text : get_or texts i [] ≡ e.text.now = get_or-map (λ e. e.text.now) entries i e [] there ∙ ap (λ e. e.text.now) is in
    let read = subst (λ x. ReadAs x.text.now x.line) is (entered i e there) in
    let lines : take i texts ++ e.text.now ∷ [] ≡ take (i + 1) texts = ap (λ t. take i texts ++ t ∷ []) (sym text) ∙ sym (take_more texts i [] below) in
    let counted : length (take i texts) ≡ i = length-take-le i texts (omega (arith, below)) in
    let next = and_then told e.text.now e.line read o comes in
    let here = subst (λ ls. Told ls after (out ++ (e.text.now ++ outcome_text (length (take i texts) + 1) o))) lines next in
    let numbered = subst (λ n. Told (take (i + 1) texts) after (out ++ (e.text.now ++ outcome_text (n + 1) o))) counted here in
    subst (λ bytes. Told (take (i + 1) texts) after bytes) (sym (append_assoc out e.text.now (outcome_text (i + 1) o))) numbered
