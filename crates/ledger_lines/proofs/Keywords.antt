-- The keyword of a line, and the words behind it.
use Rattle.std.proofs.Common.{◌≡◌, ℕ, List, ◌∷◌, sym, ap, ◌∙◌, refl, cond, Option, Some, None, codes, bytes_eq}
use Rattle.ledger_lines.specs.Forms.{keyword_word, keyword_of, fields_of}
use Rattle.ledger_lines.specs.Words.{words_of}
use Rattle.ledger_lines.specs.declared.keyword.Keyword.{Keyword}
use Rattle.ledger_lines.specs.declared.keyword.Keyword.TheVariants as keywords
use Rattle.ledger_lines.specs.declared.line.Line.{Line}
use Rattle.ledger_lines.specs.declared.line.Line.TheVariants.{List as ListOf, Period, Rule, Join, Leave, Draft, Line as LineOf, Post, Withdraw, Compose, Make, Ask, Cost, End}

-- a line begins with the word of its keyword
pub begins : (line : Line) → words_of line ≡ keyword_word (keyword_of line) ∷ fields_of line
begins (ListOf name last) = refl
begins (Period number words) = refl
begins (Rule number rule) = refl
begins (Join k) = refl
begins (Leave k) = refl
begins (Draft rule table) = refl
begins (LineOf k) = refl
begins Post = refl
begins Withdraw = refl
begins (Compose counts) = refl
begins (Make making) = refl
begins (Ask kind counts) = refl
begins (Cost rule counts) = refl
begins End = refl

-- the keyword that a word is
abbrev keyword_with : List ℕ → Option Keyword
keyword_with w =
    cond (bytes_eq w (codes "list")) (Some keywords.List)
    (cond (bytes_eq w (codes "period")) (Some keywords.Period)
    (cond (bytes_eq w (codes "rule")) (Some keywords.Rule)
    (cond (bytes_eq w (codes "join")) (Some keywords.Join)
    (cond (bytes_eq w (codes "leave")) (Some keywords.Leave)
    (cond (bytes_eq w (codes "draft")) (Some keywords.Draft)
    (cond (bytes_eq w (codes "line")) (Some keywords.Line)
    (cond (bytes_eq w (codes "post")) (Some keywords.Post)
    (cond (bytes_eq w (codes "withdraw")) (Some keywords.Withdraw)
    (cond (bytes_eq w (codes "compose")) (Some keywords.Compose)
    (cond (bytes_eq w (codes "make")) (Some keywords.Make)
    (cond (bytes_eq w (codes "ask")) (Some keywords.Ask)
    (cond (bytes_eq w (codes "cost")) (Some keywords.Cost)
    (cond (bytes_eq w (codes "end")) (Some keywords.End) None)))))))))))))

read_back : (k : Keyword) → keyword_with (keyword_word k) ≡ Some k
read_back keywords.List = refl
read_back keywords.Period = refl
read_back keywords.Rule = refl
read_back keywords.Join = refl
read_back keywords.Leave = refl
read_back keywords.Draft = refl
read_back keywords.Line = refl
read_back keywords.Post = refl
read_back keywords.Withdraw = refl
read_back keywords.Compose = refl
read_back keywords.Make = refl
read_back keywords.Ask = refl
read_back keywords.Cost = refl
read_back keywords.End = refl

-- no two keywords have one word
pub one_word : (j k : Keyword) → keyword_word j ≡ keyword_word k → j ≡ k
one_word j k same = let e : Some j ≡ Some k = sym (read_back j) ∙ (ap keyword_with same ∙ read_back k) in cc
