-- Words that come apart into a front and a back.
use Rattle.std.proofs.Common.{◌≡◌, ℕ, List, [], ◌∷◌, ◌++◌, length, sym, ap, ◌∙◌, refl, Bor, arith}
use Rattle.std.proofs.Math.ListN.{length-map}
use Rattle.std.proofs.lemmas.List.{map-append, take-append-drop, length-append}
use Rattle.std.specs.Fmt.{decimal, signed_decimal}
use Rattle.std.specs.List.{IsSplitAt}
use Rattle.ledger_lines.specs.Lines.{seen}
use Rattle.ledger_lines.specs.Types.{ListedInTypes}
use Rattle.ledger_lines.specs.Words.{each, counted, listed_words}
use Rattle.ledger_lines.specs.declared.line.Listed.{Listed}

-- two ways to come apart at one place are the same
pub apart : {A : Type 0} (ws xs ys zs : List A) → length ws ≡ length ys → ws ++ xs ≡ ys ++ zs → (ws ≡ ys) × (xs ≡ zs)
apart [] xs [] zs even same = (refl, same)
apart [] xs (y ∷ ys) zs even same = absurd (omega arith)
apart (w ∷ ws) xs [] zs even same = absurd (omega arith)
apart (w ∷ ws) xs (y ∷ ys) zs even same =
    let heads : w ≡ y = cc in
    let tails : ws ++ xs ≡ ys ++ zs = cc in
    let p = apart ws xs ys zs (omega arith) tails in
    (cc (heads, p.0), p.1)

-- and so they are before one last word
pub apart_last : {A : Type 0} (ws ys : List A) (x z : A) → ws ++ x ∷ [] ≡ ys ++ z ∷ [] → ws ≡ ys
apart_last ws ys x z same =
    let even : length ws ≡ length ys = omega (arith, simp length-append at (ap length same)) in
    (apart ws (x ∷ []) ys (z ∷ []) even same).0

-- the four counts and the table of a listed rule, if some words are those of one
pub listed_apart :
    (words front back : List (Bor (List ℕ))) → IsSplitAt words 4 front back → (l : Listed) → ListedInTypes l → seen words ≡ listed_words l
    → (seen front ≡ each decimal l.largest) × (seen back ≡ counted signed_decimal l.table.items)
listed_apart words front back split l allowed written =
    let whole : front ++ back ≡ words = rw (split.1, split.2) (take-append-drop 4 words) in
    let joined : seen front ++ seen back ≡ seen words = sym (map-append (λ w. w.now) front back) ∙ ap seen whole in
    let even : length (seen front) ≡ length (each decimal l.largest) =
    length-map front (λ w. w.now) ∙ (split.3 ∙ (sym allowed.0.0 ∙ sym (length-map l.largest decimal))) in
    apart (seen front) (seen back) (each decimal l.largest) (counted signed_decimal l.table.items) even (joined ∙ written)
