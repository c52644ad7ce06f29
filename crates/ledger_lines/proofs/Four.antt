-- Four numbers out of four words.
use Rattle.std.proofs.Common.{◌≡◌, ℕ, zero, suc, List, [], ◌∷◌, length, get_or, Bor, All, refl, arith}
use Rattle.ledger_lines.specs.Lines.{seen}
use Rattle.ledger_lines.specs.Types.{FourOf}
use Rattle.ledger_lines.specs.Words.{each}

all_four : {A : Type 0} (Allowed : A → Type 0) (a b c d : A) → Allowed a → Allowed b → Allowed c → Allowed d → All Allowed (a ∷ b ∷ c ∷ d ∷ [])
all_four Allowed a b c d p q r s zero e below = p
all_four Allowed a b c d p q r s (suc zero) e below = q
all_four Allowed a b c d p q r s (suc (suc zero)) e below = r
all_four Allowed a b c d p q r s (suc (suc (suc zero))) e below = s
all_four Allowed a b c d p q r s (suc (suc (suc (suc k)))) e below = absurd (omega arith)

-- a number that is allowed and written as the word at a place
abbrev pub WrittenAt : {A : Type 0} → (A → Type 0) → (A → List ℕ) → List (Bor (List ℕ)) → ℕ → A → Type 0
WrittenAt Allowed write words i a = Allowed a × ((get_or words i (record { ref_ptr = (0, 0); now = [] })).now ≡ write a)

pub four_read :
    {A : Type 0} (Allowed : A → Type 0) (write : A → List ℕ) (words : List (Bor (List ℕ))) (a b c d : A)
    → length words ≡ 4
    → WrittenAt Allowed write words 0 a → WrittenAt Allowed write words 1 b → WrittenAt Allowed write words 2 c → WrittenAt Allowed write words 3 d
    → FourOf Allowed (a ∷ b ∷ c ∷ d ∷ []) × (seen words ≡ each write (a ∷ b ∷ c ∷ d ∷ []))
four_read Allowed write [] a b c d four p q r s = absurd (omega arith)
four_read Allowed write (v ∷ []) a b c d four p q r s = absurd (omega arith)
four_read Allowed write (v ∷ w ∷ []) a b c d four p q r s = absurd (omega arith)
four_read Allowed write (v ∷ w ∷ x ∷ []) a b c d four p q r s = absurd (omega arith)
four_read Allowed write (v ∷ w ∷ x ∷ y ∷ []) a b c d four p q r s = ((refl, all_four Allowed a b c d p.0 q.0 r.0 s.0), cc (p.1, q.1, r.1, s.1))
four_read Allowed write (v ∷ w ∷ x ∷ y ∷ z ∷ more) a b c d four p q r s = absurd (omega arith)
