-- A text as a keyword, and the words behind it.
use Rattle.std.proofs.Common.{◌≡◌, ℕ, ◌<◌, ◌-◌, List, [], ◌∷◌, length, get_or, take, drop, sym, ap, ◌∙◌, Bor, Ok, Err, Result, arith}
use Rattle.std.proofs.lemmas.List.{take_all}
use Rattle.ledger_lines.specs.Forms.{keyword_word, keyword_of, LineWith}
use Rattle.ledger_lines.specs.Lines.{words_in, TextRead, seen}
use Rattle.ledger_lines.specs.Reading.{Anything, Read}
use Rattle.ledger_lines.specs.Words.{words_of}
use Rattle.ledger_lines.specs.declared.keyword.Keyword.{Keyword}
use Rattle.ledger_lines.specs.declared.line.Line.{Line}
use Rattle.ledger_lines.specs.declared.unread.Unread.{Unread}
use Rattle.ledger_lines.specs.declared.unread.Unread.TheVariants.{NoLine, NoMemory}
use Rattle.ledger_lines.proofs.Keywords.{begins, one_word}
use Rattle.ledger_lines.proofs.OneLine.{one_line}

-- the words of a text, where a first one is seen and others behind it
seen_apart : (words : List (Bor (List ℕ))) (d : Bor (List ℕ)) (text : List ℕ) → 0 < length words → seen words ≡ words_in text → words_in text ≡ (get_or words 0 d).now ∷ seen (take (length words - 1) (drop 1 words))
seen_apart [] d text some same = absurd (omega arith)
seen_apart (w ∷ words) d text some same =
    let whole : take (length (w ∷ words) - 1) words ≡ words = take_all (length (w ∷ words) - 1) words (omega arith) in
    rw whole (sym same)

-- a text begins with no keyword, so that no line has its words
pub no_keyword :
    (words : List (Bor (List ℕ))) (d : Bor (List ℕ)) (text : List ℕ) (e : Unread)
    → 0 < length words → seen words ≡ words_in text
    → Read Anything keyword_word (get_or words 0 d).now (Err e) → TextRead text (Err e)
no_keyword words d text NoLine some same refused = λ line allowed written.
    let apart = seen_apart words d text some same in
    let both = sym apart ∙ (written ∙ begins line) in
    refused (keyword_of line) tt (cc (both))
no_keyword words d text NoMemory some same refused = tt

-- a text begins with a keyword, and what is read of the words behind it is what is read of the text
pub keyword_and_fields :
    (words : List (Bor (List ℕ))) (d : Bor (List ℕ)) (text : List ℕ) (k : Keyword) (r : Result Line Unread)
    → 0 < length words → seen words ≡ words_in text → (get_or words 0 d).now ≡ keyword_word k
    → LineWith k (seen (take (length words - 1) (drop 1 words))) r → TextRead text r
keyword_and_fields words d text k (Ok line) some same first read =
    let apart = seen_apart words d text some same in
    let word = first ∙ ap keyword_word (sym read.0.0) in
    let written : words_in text ≡ words_of line = apart ∙ (cc (word, read.1, begins line)) in
    (read.0.1, written, λ other allowed same. one_line line other read.0.1 allowed (sym written ∙ same))
keyword_and_fields words d text k (Err NoLine) some same first refused = λ line allowed written.
    let apart = seen_apart words d text some same in
    let both = sym apart ∙ (written ∙ begins line) in
    let word : keyword_word (keyword_of line) ≡ keyword_word k = cc (both, first) in
    refused line (one_word (keyword_of line) k word, allowed) (cc (both))
keyword_and_fields words d text k (Err NoMemory) some same first refused = tt
