-- No two lines have the same words.
use Rattle.std.proofs.Common.{◌≡◌, ℕ, ◌^◌, ◌<◌, ◌≤◌, List, [], ◌∷◌, ◌++◌, length, drop, suc, sym, ap, subst, ◌∙◌, refl, cond, Bor, All, Vec, Global, ℤ, Option, Some, None, codes, bytes_eq, FitsSigned, w32, w64, lit≤, arith}
use Rattle.std.proofs.lemmas.Fmt.{decimal_injective, signed_decimal_injective}
use Rattle.std.proofs.Math.ListN.{length-map}
use Rattle.std.proofs.lemmas.List.{length-append}
use Rattle.std.specs.Fmt.{decimal, signed_decimal}
use Rattle.std.specs.Int.Signed.{mag}
use mir.Syntax.{Width}
use mir.Val.{hbits}
use Rattle.ledger_lines.specs.Forms.{keyword_of, rule_kind_word}
use Rattle.ledger_lines.specs.Same.{SameListed, SameRule, SameMaking, SameLine}
use Rattle.ledger_lines.specs.Types.{Bits, ListedInTypes, RuleInTypes, MakingInTypes, InTypes}
use Rattle.ledger_lines.specs.Words.{each, counted, kind_word, listed_words, rule_words, making_words, words_of}
use Rattle.ledger_lines.specs.declared.keyword.Keyword.{Keyword}
use Rattle.ledger_lines.specs.declared.keyword.Keyword.TheVariants as keywords
use Rattle.ledger_lines.specs.declared.kinds.RuleKind.{RuleKind}
use Rattle.ledger_lines.specs.declared.kinds.RuleKind.TheVariants as rule_kinds
use Rattle.ledger_lines.specs.declared.line.Kind.{Kind}
use Rattle.ledger_lines.specs.declared.line.Kind.TheVariants as kinds
use Rattle.ledger_lines.specs.declared.line.Line.{Line}
use Rattle.ledger_lines.specs.declared.line.Line.TheVariants.{List as ListOf, Period, Rule, Join, Leave, Draft, Line as LineOf, Post, Withdraw, Compose, Make, Ask, Cost, End}
use Rattle.ledger_lines.specs.declared.line.Listed.{Listed}
use Rattle.ledger_lines.specs.declared.line.Making.{Making}
use Rattle.ledger_lines.specs.declared.line.Making.TheVariants as makings
use Rattle.ledger_lines.specs.declared.line.WrittenRule.{WrittenRule}
use Rattle.ledger_lines.specs.declared.line.WrittenRule.TheVariants as rules
use Rattle.ledger_lines.proofs.Apart.{apart}
use Rattle.ledger_lines.proofs.Keywords.{begins, one_word}

-- ---- numbers and lists of them

-- numbers of a type have words of their own
abbrev Tells : {A : Type 0} → (A → Type 0) → (A → List ℕ) → Type 0
Tells {A = A} Allowed write = (a b : A) → Allowed a → Allowed b → write a ≡ write b → a ≡ b

tells_bits : (k : ℕ) → 2 ^ k ≤ 2 ^ 64 → Tells (Bits k) decimal
tells_bits k few a b p q same = decimal_injective a b (omega arith) (omega arith) same

tells_signed : (w : Width) → 2 ^ hbits w ≤ 2 ^ 63 → Tells (FitsSigned w) signed_decimal
tells_signed w few a b p q same =
    let small : mag a < 2 ^ hbits w = p.sfits in
    let small' : mag b < 2 ^ hbits w = q.sfits in
    signed_decimal_injective a b (omega arith) (omega arith) same

tells_each : {A : Type 0} (Allowed : A → Type 0) (write : A → List ℕ) → Tells Allowed write → (xs ys : List A) → All Allowed xs → All Allowed ys → each write xs ≡ each write ys → xs ≡ ys
tells_each Allowed write tells [] [] p q same = refl
tells_each Allowed write tells [] (y ∷ ys) p q same = cc
tells_each Allowed write tells (x ∷ xs) [] p q same = cc
tells_each Allowed write tells (x ∷ xs) (y ∷ ys) p q same =
    let heads : x ≡ y = tells x y (p 0 x (omega arith)) (q 0 y (omega arith)) (cc) in
    let tails : xs ≡ ys = tells_each Allowed write tells xs ys (λ k d below. p (suc k) d (omega arith)) (λ k d below. q (suc k) d (omega arith)) (cc) in
    cc (heads, tails)

bits8 : Tells (Bits 8) decimal
bits8 = tells_bits 8 (lit≤ tt)

bits16 : Tells (Bits 16) decimal
bits16 = tells_bits 16 (lit≤ tt)

bits32 : Tells (Bits 32) decimal
bits32 = tells_bits 32 (lit≤ tt)

bits64 : Tells (Bits 64) decimal
bits64 = tells_bits 64 (lit≤ tt)

signed32 : Tells (FitsSigned w32) signed_decimal
signed32 = tells_signed w32 (lit≤ tt)

signed64 : Tells (FitsSigned w64) signed_decimal
signed64 = tells_signed w64 (lit≤ tt)

one_listed : (l m : Listed) → ListedInTypes l → ListedInTypes m → listed_words l ≡ listed_words m → SameListed l m
one_listed l m p q same =
    let even : length (each decimal l.largest) ≡ length (each decimal m.largest) =
    length-map l.largest decimal ∙ (p.0.0 ∙ (sym q.0.0 ∙ sym (length-map m.largest decimal))) in
    let parts = apart (each decimal l.largest) (counted signed_decimal l.table.items) (each decimal m.largest) (counted signed_decimal m.table.items) even same in
    let tables : each signed_decimal l.table.items ≡ each signed_decimal m.table.items = cc (parts.1) in
    (tells_each (Bits 8) decimal bits8 l.largest m.largest p.0.1 q.0.1 parts.0, tells_each (FitsSigned w32) signed_decimal signed32 l.table.items m.table.items p.1 q.1 tables)

-- the words of a period and a price behind them
one_peak : (ws vs : List ℕ) (p q : ℤ) → All (Bits 32) ws → All (Bits 32) vs → FitsSigned w64 p → FitsSigned w64 q → counted decimal ws ++ signed_decimal p ∷ [] ≡ counted decimal vs ++ signed_decimal q ∷ [] → (ws ≡ vs) × (p ≡ q)
one_peak ws vs p q all all' fits fits' same =
    let even : length (counted decimal ws) ≡ length (counted decimal vs) = omega (arith, simp length-append at (ap length same)) in
    let parts = apart (counted decimal ws) (signed_decimal p ∷ []) (counted decimal vs) (signed_decimal q ∷ []) even same in
    let lists : each decimal ws ≡ each decimal vs = cc (parts.0) in
    (tells_each (Bits 32) decimal bits32 ws vs all all' lists, signed64 p q fits fits' (cc (parts.1)))

-- ---- what is of one kind, looked at by that kind

abbrev rule_kind_of : WrittenRule → RuleKind
rule_kind_of (rules.Listed l) = rule_kinds.Listed
rule_kind_of (rules.Head fees) = rule_kinds.Head
rule_kind_of (rules.Sum left right) = rule_kinds.Sum
rule_kind_of (rules.Grid period) = rule_kinds.Grid
rule_kind_of (rules.Peak period price) = rule_kinds.Peak

-- P of each rule of a kind
abbrev OfRules : (WrittenRule → Type 0) → RuleKind → Type 0
OfRules P rule_kinds.Listed = (l : Listed) → P (rules.Listed l)
OfRules P rule_kinds.Head = (fees : List ℤ) → P (rules.Head fees)
OfRules P rule_kinds.Sum = (left : ℕ) (right : ℕ) → P (rules.Sum left right)
OfRules P rule_kinds.Grid = (period : ℕ) → P (rules.Grid period)
OfRules P rule_kinds.Peak = (period : ℕ) (price : ℤ) → P (rules.Peak period price)

by_rule_kind : (P : WrittenRule → Type 0) (key : RuleKind) → OfRules P key → (x : WrittenRule) → rule_kind_of x ≡ key → P x
by_rule_kind P key f (rules.Listed l) e = let g : OfRules P rule_kinds.Listed = subst (λ k. OfRules P k) (sym e) f in g l
by_rule_kind P key f (rules.Head fees) e = let g : OfRules P rule_kinds.Head = subst (λ k. OfRules P k) (sym e) f in g fees
by_rule_kind P key f (rules.Sum left right) e = let g : OfRules P rule_kinds.Sum = subst (λ k. OfRules P k) (sym e) f in g left right
by_rule_kind P key f (rules.Grid period) e = let g : OfRules P rule_kinds.Grid = subst (λ k. OfRules P k) (sym e) f in g period
by_rule_kind P key f (rules.Peak period price) e = let g : OfRules P rule_kinds.Peak = subst (λ k. OfRules P k) (sym e) f in g period price

abbrev kind_of : Making → Kind
kind_of (makings.Listed l) = kinds.Listed
kind_of (makings.Head fees) = kinds.Head
kind_of (makings.Peak words price) = kinds.Peak
kind_of (makings.Check words) = kinds.Check

-- P of each making of a kind
abbrev OfMakings : (Making → Type 0) → Kind → Type 0
OfMakings P kinds.Listed = (l : Listed) → P (makings.Listed l)
OfMakings P kinds.Head = (fees : List ℤ) → P (makings.Head fees)
OfMakings P kinds.Peak = (words : Vec ℕ Global) (price : ℤ) → P (makings.Peak words price)
OfMakings P kinds.Check = (words : Vec ℕ Global) → P (makings.Check words)

by_kind : (P : Making → Type 0) (key : Kind) → OfMakings P key → (x : Making) → kind_of x ≡ key → P x
by_kind P key f (makings.Listed l) e = let g : OfMakings P kinds.Listed = subst (λ k. OfMakings P k) (sym e) f in g l
by_kind P key f (makings.Head fees) e = let g : OfMakings P kinds.Head = subst (λ k. OfMakings P k) (sym e) f in g fees
by_kind P key f (makings.Peak words price) e = let g : OfMakings P kinds.Peak = subst (λ k. OfMakings P k) (sym e) f in g words price
by_kind P key f (makings.Check words) e = let g : OfMakings P kinds.Check = subst (λ k. OfMakings P k) (sym e) f in g words

-- P of each line with a keyword
abbrev OfLines : (Line → Type 0) → Keyword → Type 0
OfLines P keywords.List = (name : Bor (List ℕ)) (last : ℕ) → P (ListOf name last)
OfLines P keywords.Period = (number : ℕ) (words : Vec ℕ Global) → P (Period number words)
OfLines P keywords.Rule = (number : ℕ) (rule : WrittenRule) → P (Rule number rule)
OfLines P keywords.Join = (k : ℕ) → P (Join k)
OfLines P keywords.Leave = (k : ℕ) → P (Leave k)
OfLines P keywords.Draft = (rule : ℕ) (table : Vec ℤ Global) → P (Draft rule table)
OfLines P keywords.Line = (k : ℕ) → P (LineOf k)
OfLines P keywords.Post = P Post
OfLines P keywords.Withdraw = P Withdraw
OfLines P keywords.Compose = (counts : List ℕ) → P (Compose counts)
OfLines P keywords.Make = (making : Making) → P (Make making)
OfLines P keywords.Ask = (kind : Kind) (counts : List ℕ) → P (Ask kind counts)
OfLines P keywords.Cost = (rule : ℕ) (counts : List ℕ) → P (Cost rule counts)
OfLines P keywords.End = P End

by_keyword : (P : Line → Type 0) (key : Keyword) → OfLines P key → (x : Line) → keyword_of x ≡ key → P x
by_keyword P key f (ListOf name last) e = let g : OfLines P keywords.List = subst (λ k. OfLines P k) (sym e) f in g name last
by_keyword P key f (Period number words) e = let g : OfLines P keywords.Period = subst (λ k. OfLines P k) (sym e) f in g number words
by_keyword P key f (Rule number rule) e = let g : OfLines P keywords.Rule = subst (λ k. OfLines P k) (sym e) f in g number rule
by_keyword P key f (Join k) e = let g : OfLines P keywords.Join = subst (λ k. OfLines P k) (sym e) f in g k
by_keyword P key f (Leave k) e = let g : OfLines P keywords.Leave = subst (λ k. OfLines P k) (sym e) f in g k
by_keyword P key f (Draft rule table) e = let g : OfLines P keywords.Draft = subst (λ k. OfLines P k) (sym e) f in g rule table
by_keyword P key f (LineOf k) e = let g : OfLines P keywords.Line = subst (λ k. OfLines P k) (sym e) f in g k
by_keyword P key f Post e = let g : OfLines P keywords.Post = subst (λ k. OfLines P k) (sym e) f in g
by_keyword P key f Withdraw e = let g : OfLines P keywords.Withdraw = subst (λ k. OfLines P k) (sym e) f in g
by_keyword P key f (Compose counts) e = let g : OfLines P keywords.Compose = subst (λ k. OfLines P k) (sym e) f in g counts
by_keyword P key f (Make making) e = let g : OfLines P keywords.Make = subst (λ k. OfLines P k) (sym e) f in g making
by_keyword P key f (Ask kind counts) e = let g : OfLines P keywords.Ask = subst (λ k. OfLines P k) (sym e) f in g kind counts
by_keyword P key f (Cost rule counts) e = let g : OfLines P keywords.Cost = subst (λ k. OfLines P k) (sym e) f in g rule counts
by_keyword P key f End e = let g : OfLines P keywords.End = subst (λ k. OfLines P k) (sym e) f in g

-- ---- no two kinds have one word

-- the kind that a word names
abbrev rule_kind : List ℕ → Option RuleKind
rule_kind w =
    (cond (bytes_eq w (codes "listed")) (Some rule_kinds.Listed)
    (cond (bytes_eq w (codes "head")) (Some rule_kinds.Head)
    (cond (bytes_eq w (codes "sum")) (Some rule_kinds.Sum)
    (cond (bytes_eq w (codes "grid")) (Some rule_kinds.Grid)
    (cond (bytes_eq w (codes "peak")) (Some rule_kinds.Peak)
    None)))))

rule_kind_back : (k : RuleKind) → rule_kind (rule_kind_word k) ≡ Some k
rule_kind_back rule_kinds.Listed = refl
rule_kind_back rule_kinds.Head = refl
rule_kind_back rule_kinds.Sum = refl
rule_kind_back rule_kinds.Grid = refl
rule_kind_back rule_kinds.Peak = refl

one_rule_kind : (j k : RuleKind) → rule_kind_word j ≡ rule_kind_word k → j ≡ k
one_rule_kind j k same = let e : Some j ≡ Some k = sym (rule_kind_back j) ∙ (ap rule_kind same ∙ rule_kind_back k) in cc

abbrev kind : List ℕ → Option Kind
kind w =
    (cond (bytes_eq w (codes "listed")) (Some kinds.Listed)
    (cond (bytes_eq w (codes "head")) (Some kinds.Head)
    (cond (bytes_eq w (codes "peak")) (Some kinds.Peak)
    (cond (bytes_eq w (codes "check")) (Some kinds.Check)
    None))))

kind_back : (k : Kind) → kind (kind_word k) ≡ Some k
kind_back kinds.Listed = refl
kind_back kinds.Head = refl
kind_back kinds.Peak = refl
kind_back kinds.Check = refl

one_kind : (j k : Kind) → kind_word j ≡ kind_word k → j ≡ k
one_kind j k same = let e : Some j ≡ Some k = sym (kind_back j) ∙ (ap kind same ∙ kind_back k) in cc

-- the words behind the first
abbrev behind : List (List ℕ) → List (List ℕ)
behind ws = drop 1 ws

rule_begins_with : (r : WrittenRule) → rule_words r ≡ rule_kind_word (rule_kind_of r) ∷ behind (rule_words r)
rule_begins_with (rules.Listed l) = refl
rule_begins_with (rules.Head fees) = refl
rule_begins_with (rules.Sum left right) = refl
rule_begins_with (rules.Grid period) = refl
rule_begins_with (rules.Peak period price) = refl

making_begins_with : (m : Making) → making_words m ≡ kind_word (kind_of m) ∷ behind (making_words m)
making_begins_with (makings.Listed l) = refl
making_begins_with (makings.Head fees) = refl
making_begins_with (makings.Peak words price) = refl
making_begins_with (makings.Check words) = refl

one_rule : (r q : WrittenRule) → RuleInTypes r → RuleInTypes q → rule_words r ≡ rule_words q → SameRule r q
one_rule r q a b same = go r a same
  where
    kind : (r : WrittenRule) → rule_words r ≡ rule_words q → rule_kind_of q ≡ rule_kind_of r
    kind r same = let e = sym (rule_begins_with q) ∙ (sym same ∙ rule_begins_with r) in one_rule_kind (rule_kind_of q) (rule_kind_of r) (cc (e))

    go : (r : WrittenRule) → RuleInTypes r → rule_words r ≡ rule_words q → SameRule r q
    go (rules.Listed l) a same = by_rule_kind (λ q. RuleInTypes q → rule_words (rules.Listed l) ≡ rule_words q → SameRule (rules.Listed l) q) rule_kinds.Listed (λ m b same. one_listed l m a b (cc (same))) q (kind (rules.Listed l) same) b same
    go (rules.Head fees) a same = by_rule_kind (λ q. RuleInTypes q → rule_words (rules.Head fees) ≡ rule_words q → SameRule (rules.Head fees) q) rule_kinds.Head (λ others b same. tells_each (FitsSigned w32) signed_decimal signed32 fees others a.1 b.1 (cc (same))) q (kind (rules.Head fees) same) b same
    go (rules.Sum left right) a same = by_rule_kind (λ q. RuleInTypes q → rule_words (rules.Sum left right) ≡ rule_words q → SameRule (rules.Sum left right) q) rule_kinds.Sum (λ other another b same. (bits64 left other a.0 b.0 (cc (same)), bits64 right another a.1 b.1 (cc (same)))) q (kind (rules.Sum left right) same) b same
    go (rules.Grid period) a same = by_rule_kind (λ q. RuleInTypes q → rule_words (rules.Grid period) ≡ rule_words q → SameRule (rules.Grid period) q) rule_kinds.Grid (λ other b same. bits64 period other a b (cc (same))) q (kind (rules.Grid period) same) b same
    go (rules.Peak period price) a same = by_rule_kind (λ q. RuleInTypes q → rule_words (rules.Peak period price) ≡ rule_words q → SameRule (rules.Peak period price) q) rule_kinds.Peak (λ other another b same. (bits64 period other a.0 b.0 (cc (same)), signed64 price another a.1 b.1 (cc (same)))) q (kind (rules.Peak period price) same) b same

one_making : (r q : Making) → MakingInTypes r → MakingInTypes q → making_words r ≡ making_words q → SameMaking r q
one_making r q a b same = go r a same
  where
    kind : (r : Making) → making_words r ≡ making_words q → kind_of q ≡ kind_of r
    kind r same = let e = sym (making_begins_with q) ∙ (sym same ∙ making_begins_with r) in one_kind (kind_of q) (kind_of r) (cc (e))

    go : (r : Making) → MakingInTypes r → making_words r ≡ making_words q → SameMaking r q
    go (makings.Listed l) a same = by_kind (λ q. MakingInTypes q → making_words (makings.Listed l) ≡ making_words q → SameMaking (makings.Listed l) q) kinds.Listed (λ m b same. one_listed l m a b (cc (same))) q (kind (makings.Listed l) same) b same
    go (makings.Head fees) a same = by_kind (λ q. MakingInTypes q → making_words (makings.Head fees) ≡ making_words q → SameMaking (makings.Head fees) q) kinds.Head (λ others b same. tells_each (FitsSigned w32) signed_decimal signed32 fees others a.1 b.1 (cc (same))) q (kind (makings.Head fees) same) b same
    go (makings.Peak words price) a same = by_kind (λ q. MakingInTypes q → making_words (makings.Peak words price) ≡ making_words q → SameMaking (makings.Peak words price) q) kinds.Peak (λ others another b same. one_peak words.items others.items price another a.0 b.0 a.1 b.1 (cc (same))) q (kind (makings.Peak words price) same) b same
    go (makings.Check words) a same = by_kind (λ q. MakingInTypes q → making_words (makings.Check words) ≡ making_words q → SameMaking (makings.Check words) q) kinds.Check (λ others b same. tells_each (Bits 32) decimal bits32 words.items others.items a b (cc (same))) q (kind (makings.Check words) same) b same

-- two lines in the same words say the same
pub one_line : (l m : Line) → InTypes l → InTypes m → words_of l ≡ words_of m → SameLine l m
one_line l m a b same = go l a same
  where
    keyword : (l : Line) → words_of l ≡ words_of m → keyword_of m ≡ keyword_of l
    keyword l same = let e = sym (begins m) ∙ (sym same ∙ begins l) in one_word (keyword_of m) (keyword_of l) (cc (e))

    go : (l : Line) → InTypes l → words_of l ≡ words_of m → SameLine l m
    go (ListOf name last) a same = by_keyword (λ m. InTypes m → words_of (ListOf name last) ≡ words_of m → SameLine (ListOf name last) m) keywords.List (λ other another b same. (cc (same), bits16 last another a.1 b.1 (cc (same)))) m (keyword (ListOf name last) same) b same
    go (Period number words) a same = by_keyword (λ m. InTypes m → words_of (Period number words) ≡ words_of m → SameLine (Period number words) m) keywords.Period (λ other others b same. (bits64 number other a.0 b.0 (cc (same)), tells_each (Bits 32) decimal bits32 words.items others.items a.1 b.1 (cc (same)))) m (keyword (Period number words) same) b same
    go (Rule number rule) a same = by_keyword (λ m. InTypes m → words_of (Rule number rule) ≡ words_of m → SameLine (Rule number rule) m) keywords.Rule (λ other another b same. (bits64 number other a.0 b.0 (cc (same)), one_rule rule another a.1 b.1 (cc (same)))) m (keyword (Rule number rule) same) b same
    go (Join k) a same = by_keyword (λ m. InTypes m → words_of (Join k) ≡ words_of m → SameLine (Join k) m) keywords.Join (λ j b same. bits8 k j a b (cc (same))) m (keyword (Join k) same) b same
    go (Leave k) a same = by_keyword (λ m. InTypes m → words_of (Leave k) ≡ words_of m → SameLine (Leave k) m) keywords.Leave (λ j b same. bits8 k j a b (cc (same))) m (keyword (Leave k) same) b same
    go (Draft rule table) a same = by_keyword (λ m. InTypes m → words_of (Draft rule table) ≡ words_of m → SameLine (Draft rule table) m) keywords.Draft (λ other others b same. (bits64 rule other a.0 b.0 (cc (same)), tells_each (FitsSigned w64) signed_decimal signed64 table.items others.items a.1 b.1 (cc (same)))) m (keyword (Draft rule table) same) b same
    go (LineOf k) a same = by_keyword (λ m. InTypes m → words_of (LineOf k) ≡ words_of m → SameLine (LineOf k) m) keywords.Line (λ j b same. bits8 k j a b (cc (same))) m (keyword (LineOf k) same) b same
    go Post a same = by_keyword (λ m. InTypes m → words_of Post ≡ words_of m → SameLine Post m) keywords.Post (λ b same. tt) m (keyword Post same) b same
    go Withdraw a same = by_keyword (λ m. InTypes m → words_of Withdraw ≡ words_of m → SameLine Withdraw m) keywords.Withdraw (λ b same. tt) m (keyword Withdraw same) b same
    go (Compose counts) a same = by_keyword (λ m. InTypes m → words_of (Compose counts) ≡ words_of m → SameLine (Compose counts) m) keywords.Compose (λ others b same. tells_each (Bits 8) decimal bits8 counts others a.1 b.1 (cc (same))) m (keyword (Compose counts) same) b same
    go (Make making) a same = by_keyword (λ m. InTypes m → words_of (Make making) ≡ words_of m → SameLine (Make making) m) keywords.Make (λ other b same. one_making making other a b (cc (same))) m (keyword (Make making) same) b same
    go (Ask kind counts) a same = by_keyword (λ m. InTypes m → words_of (Ask kind counts) ≡ words_of m → SameLine (Ask kind counts) m) keywords.Ask (λ other others b same. (one_kind kind other (cc (same)), tells_each (Bits 8) decimal bits8 counts others a.1 b.1 (cc (same)))) m (keyword (Ask kind counts) same) b same
    go (Cost rule counts) a same = by_keyword (λ m. InTypes m → words_of (Cost rule counts) ≡ words_of m → SameLine (Cost rule counts) m) keywords.Cost (λ other others b same. (bits64 rule other a.0 b.0 (cc (same)), tells_each (Bits 8) decimal bits8 counts others a.1.1 b.1.1 (cc (same)))) m (keyword (Cost rule counts) same) b same
    go End a same = by_keyword (λ m. InTypes m → words_of End ≡ words_of m → SameLine End m) keywords.End (λ b same. tt) m (keyword End same) b same
