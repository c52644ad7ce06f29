-- Why nothing is written in some words: a part of them has been refused.
use Rattle.std.proofs.Common.{◌≡◌, ◌≢◌, ℕ, ◌^◌, ◌<◌, List, [], ◌∷◌, ◌++◌, length, get_or, sym, ap, ◌∙◌, Bor, All, Err, arith}
use Rattle.std.proofs.Math.ListN.{length-map}
use Rattle.std.proofs.lemmas.List.{get_or-map}
use Rattle.std.proofs.lemmas.Fmt.{decimal_injective}
use Rattle.std.specs.Fmt.{decimal}
use Rattle.ledger_lines.specs.Lines.{seen}
use Rattle.ledger_lines.specs.Reading.{Read, LastRead}
use Rattle.ledger_lines.specs.Words.{each, counted}
use Rattle.ledger_lines.specs.declared.unread.Unread.{Unread}
use Rattle.ledger_lines.specs.declared.unread.Unread.TheVariants.{NoLine, NoMemory}

-- a reader that reads a part of some words refuses them with that part, if whatever is written in them has in it what is written in the part
pub through :
    {A B V W : Type 0} (Allowed : A → Type 0) (write : A → V) (v : V)
    (Allowed' : B → Type 0) (write' : B → W) (w : W) (e : Unread)
    → Read Allowed write v (Err e)
    → ((b : B) → Allowed' b → w ≡ write' b → (a : A) × Allowed a × (v ≡ write a))
    → Read Allowed' write' w (Err e)
through Allowed write v Allowed' write' w NoLine refused back = λ b allowed written. let p = back b allowed written in refused p.0 p.1 p.2
through Allowed write v Allowed' write' w NoMemory refused back = tt

-- so it is with a part that has one last word
pub through_last :
    {A B W : Type 0} (Allowed : A → Type 0) (write : A → List ℕ) (ws : List (List ℕ))
    (Allowed' : B → Type 0) (write' : B → W) (w : W) (e : Unread)
    → LastRead Allowed write ws (Err e)
    → ((b : B) → Allowed' b → w ≡ write' b → (a : A) × (rest : List (List ℕ)) × Allowed a × (ws ≡ rest ++ write a ∷ []))
    → Read Allowed' write' w (Err e)
through_last Allowed write ws Allowed' write' w NoLine refused back =
    λ b allowed written. let p = back b allowed written in refused p.0 p.1 p.2 p.3
through_last Allowed write ws Allowed' write' w NoMemory refused back = tt

-- in the words of a list, the word at each place is that of the entry there
at_place :
    {A : Type 0} (Allowed : A → Type 0) (write : A → List ℕ) (ws : List (List ℕ)) (i : ℕ) (xs : List A)
    → i < length ws → All Allowed xs → ws ≡ each write xs → (a : A) × Allowed a × (get_or ws i [] ≡ write a)
at_place Allowed write ws i [] below all written = let none : length ws ≡ 0 = ap length written in absurd (omega arith)
at_place Allowed write ws i (x ∷ xs) below all written =
    let many : length ws ≡ length (x ∷ xs) = ap length written ∙ length-map (x ∷ xs) write in
    let inside : i < length (x ∷ xs) = omega arith in
    (get_or (x ∷ xs) i x, all i x inside, ap (λ w. get_or w i []) written ∙ get_or-map write (x ∷ xs) i x [] inside)

-- one word is refused, and with it each list of such numbers, however it is held
pub refused_at :
    {A B : Type 0} (Allowed : A → Type 0) (write : A → List ℕ) (words : List (Bor (List ℕ))) (i : ℕ) (d : Bor (List ℕ))
    (items : B → List A) (Allowed' : B → Type 0) (e : Unread)
    → i < length words
    → Read Allowed write (get_or words i d).now (Err e)
    → ((b : B) → Allowed' b → All Allowed (items b))
    → Read Allowed' (λ b. each write (items b)) (seen words) (Err e)
refused_at Allowed write words i d items Allowed' e below refused all =
    let there : get_or (seen words) i [] ≡ (get_or words i d).now = get_or-map (λ w. w.now) words i d [] below in
    let many : length (seen words) ≡ length words = length-map words (λ w. w.now) in
    through Allowed write (get_or words i d).now Allowed' (λ b. each write (items b)) (seen words) e refused
    (λ b allowed written. let p = at_place Allowed write (seen words) i (items b) (omega arith) (all b allowed) written in (p.0, p.1, sym there ∙ p.2))

-- a count of another number than there are behind it
pub miscounted :
    {A : Type 0} (write : A → List ℕ) (ws : List (List ℕ)) (count : ℕ) (xs : List A)
    → count < 2 ^ 64 → length xs < 2 ^ 64 → count ≢ length ws → decimal count ∷ ws ≢ counted write xs
miscounted write ws count xs small many other written =
    let heads : decimal count ≡ decimal (length xs) = cc in
    let tails : ws ≡ each write xs = cc in
    let same : count ≡ length xs = decimal_injective count (length xs) small many heads in
    let as_many : length ws ≡ length xs = ap length tails ∙ length-map xs write in
    other (same ∙ sym as_many)
