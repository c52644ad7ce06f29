-- One word: when it is taken, and what is taken from it.
use Rattle.std.proofs.Common.{◌≡◌, ℕ, ◌+◌, ◌-◌, ◌<◌, ◌≤◌, true, false, leb, List, ◌∷◌, ap, ◌∙◌, arith}
use Rattle.std.proofs.lemmas.Bool.{and_parts, and_from, and_right, le-leb, lt-leb, leb-true, cond-true}
use Rattle.period.specs.Reader.{Reader, between, one}
use Rattle.period.specs.declared.refusals.Part.{Part}

pub between_holds : (low high w : ℕ) → low ≤ w → w ≤ high → between low high w ≡ true
between_holds low high w l h = and_from (leb low w) (leb w high) (le-leb low w l) (le-leb w high h)

pub between_gives : (low high w : ℕ) → between low high w ≡ true → (low ≤ w) × (w ≤ high)
between_gives low high w t = let p = and_parts (leb low w) (leb w high) t in (leb-true low w p.0, leb-true w high p.1)

pub between_above : (low high w : ℕ) → high < w → between low high w ≡ false
between_above low high w h = and_right (leb low w) (leb w high) (lt-leb w high h)

-- a word above the base by what is allowed is taken, and what stands above the base is told
pub one_accepts :
    (part : Part) (base least most v : ℕ) (next : ℕ → Reader) (ws : List ℕ) (place : ℕ) → least ≤ v → v ≤ most
    → one part base least most next ((base + v) ∷ ws) place ≡ next v ws (place + 1)
one_accepts part base least most v next ws place l h =
    cond-true (between (base + least) (base + most) (base + v)) (next (base + v - base) ws (place + 1)) _
    (between_holds (base + least) (base + most) (base + v) (omega arith) (omega arith))
    ∙ ap (λ (x : ℕ). next x ws (place + 1)) (omega arith)
