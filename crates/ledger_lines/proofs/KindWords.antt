-- What begins with the word of a kind.
use Rattle.std.proofs.Common.{◌≡◌, ℕ, ◌<◌, List, [], ◌∷◌, ◌++◌, length, get_or, take, drop, ◌-◌, sym, ap, ◌∙◌, refl, Bor, All, Vec, Global, ℤ, FitsSigned, w64, arith}
use Rattle.std.proofs.lemmas.List.{take_all}
use Rattle.std.specs.Fmt.{decimal, signed_decimal}
use Rattle.ledger_lines.specs.Forms.{rule_kind_word}
use Rattle.ledger_lines.specs.Lines.{seen}
use Rattle.ledger_lines.specs.Reading.{Anything}
use Rattle.ledger_lines.specs.Types.{MakingInTypes, Bits}
use Rattle.ledger_lines.specs.Words.{kind_word, making_words, rule_words, counted}
use Rattle.ledger_lines.specs.declared.kinds.RuleKind.{RuleKind}
use Rattle.ledger_lines.specs.declared.kinds.RuleKind.TheVariants as rule_kinds
use Rattle.ledger_lines.specs.declared.line.Kind.{Kind}
use Rattle.ledger_lines.specs.declared.line.Kind.TheVariants as kinds
use Rattle.ledger_lines.specs.declared.line.Making.{Making}
use Rattle.ledger_lines.specs.declared.line.Making.TheVariants as makings
use Rattle.ledger_lines.specs.declared.line.WrittenRule.{WrittenRule}
use Rattle.ledger_lines.specs.declared.line.WrittenRule.TheVariants as rules

-- the first word that is seen, and the rest
pub seen_first : (words : List (Bor (List ℕ))) (d : Bor (List ℕ)) → 0 < length words → seen words ≡ (get_or words 0 d).now ∷ seen (drop 1 words)
seen_first [] d some = absurd (omega arith)
seen_first (w ∷ words) d some = refl

pub making_begins : (m : Making) (w : List ℕ) (ws : List (List ℕ)) → w ∷ ws ≡ making_words m → (k : Kind) × Anything k × (w ≡ kind_word k)
making_begins (makings.Listed l) w ws written = (kinds.Listed, tt, cc)
making_begins (makings.Head fees) w ws written = (kinds.Head, tt, cc)
making_begins (makings.Peak words price) w ws written = (kinds.Peak, tt, cc)
making_begins (makings.Check words) w ws written = (kinds.Check, tt, cc)

pub rule_begins : (r : WrittenRule) (w : List ℕ) (ws : List (List ℕ)) → w ∷ ws ≡ rule_words r → (k : RuleKind) × Anything k × (w ≡ rule_kind_word k)
rule_begins (rules.Listed l) w ws written = (rule_kinds.Listed, tt, cc)
rule_begins (rules.Head fees) w ws written = (rule_kinds.Head, tt, cc)
rule_begins (rules.Sum left right) w ws written = (rule_kinds.Sum, tt, cc)
rule_begins (rules.Grid period) w ws written = (rule_kinds.Grid, tt, cc)
rule_begins (rules.Peak period price) w ws written = (rule_kinds.Peak, tt, cc)

-- these words are those of a period, and a price behind them
abbrev pub WordsAndPrice : List (List ℕ) → Type 0
WordsAndPrice ws = (words : Vec ℕ Global) × (price : ℤ) × All (Bits 32) words.items × FitsSigned w64 price × (ws ≡ counted decimal words.items ++ signed_decimal price ∷ [])

-- two words are not the same if they have other first bytes
first_bytes : (v w : List ℕ) (vs ws : List (List ℕ)) → v ∷ vs ≡ w ∷ ws → get_or v 0 0 ≡ get_or w 0 0
first_bytes v w vs ws same = ap (λ ws. get_or (get_or ws 0 []) 0 0) same

pub peak_making : (m : Making) (ws : List (List ℕ)) → MakingInTypes m → kind_word kinds.Peak ∷ ws ≡ making_words m → WordsAndPrice ws
peak_making (makings.Listed l) ws allowed written = let e : ◌≡◌ {A = ℕ} 112 108 = first_bytes _ _ _ _ written in absurd (omega arith)
peak_making (makings.Head fees) ws allowed written = let e : ◌≡◌ {A = ℕ} 112 104 = first_bytes _ _ _ _ written in absurd (omega arith)
peak_making (makings.Peak words price) ws allowed written = (words, price, allowed.0, allowed.1, cc)
peak_making (makings.Check words) ws allowed written = let e : ◌≡◌ {A = ℕ} 112 99 = first_bytes _ _ _ _ written in absurd (omega arith)

-- behind the word `peak`, what is made has the words of a period and a price
pub peak_words :
    (words : List (Bor (List ℕ))) (d : Bor (List ℕ)) (k : Kind) (m : Making)
    → 0 < length words → k ≡ kinds.Peak → (get_or words 0 d).now ≡ kind_word k → MakingInTypes m → seen words ≡ making_words m
    → WordsAndPrice (seen (take (length words - 1) (drop 1 words)))
peak_words [] d k m some is first allowed written = absurd (omega arith)
peak_words (w ∷ words) d k m some is first allowed written =
    let whole : take (length (w ∷ words) - 1) words ≡ words = take_all (length (w ∷ words) - 1) words (omega arith) in
    let word : kind_word kinds.Peak ≡ w.now = sym (first ∙ ap kind_word is) in
    rw whole (peak_making m (seen words) allowed (ap (λ v. v ∷ seen words) word ∙ written))
