-- Half-hours are read off the words that write them.
use Rattle.std.proofs.Common.{◌≡◌, ℕ, zero, suc, ◌+◌, ◌<◌, List, [], ◌∷◌, set, drop, sym, refl, ap, arith}
use Rattle.std.proofs.lemmas.List.{drop-drop}
use Rattle.period.specs.Limits.{most_types}
use Rattle.period.specs.Unread.{first_value, tariff_in, past, demands_in, unread}
use Rattle.period.specs.Words.{import_kind, export_kind}
use Rattle.period.specs.declared.reading.Tariffs.{Tariffs}

-- ---- the demands

-- before any is read
abbrev pub no_demands : List ℕ
no_demands = 0 ∷ 0 ∷ 0 ∷ 0 ∷ []

none_given : (n : ℕ) (ws vs : List ℕ) → demands_in n 0 ws ≡ demands_in n 0 vs
none_given zero ws vs = refl
none_given (suc n) ws vs = ap (λ ds. 0 ∷ ds) (none_given n ws vs)

-- one more is read, the first of what is left
pub one_more_given : (n i : ℕ) (ws : List ℕ) → i < n → set (demands_in n i ws) i (first_value (drop i ws)) ≡ demands_in n (i + 1) ws
one_more_given zero i ws within = absurd (omega (arith, within))
one_more_given (suc n) zero ws within = ap (λ ds. first_value ws ∷ ds) (none_given n ws (drop 1 ws))
one_more_given (suc n) (suc i) ws within =
    let next : suc i ≡ 1 + i = omega arith in
    let behind : drop (suc i) ws ≡ drop i (drop 1 ws) = rw (drop-drop i 1 ws, next) in
    let more : suc i + 1 ≡ suc (i + 1) = omega arith in
    rw (behind, more) (ap (λ ds. first_value ws ∷ ds) (one_more_given n i (drop 1 ws) (omega (arith, within))))

-- ---- a whole half-hour

-- half-hours are the same if their parts are
pub same_half_hour :
    (types : ℕ) {i i' x x' g g' n n' : ℕ} {ds ds' ws ws' : List ℕ}
    → i ≡ i'
    → x ≡ x'
    → ds ≡ ds'
    → g ≡ g'
    → n ≡ n'
    → ws ≡ ws'
    → record { tariffs = record { import = i; export = x }; demands = ds; generation = g } ∷ unread n types (record { import = i; export = x }) ws
    ≡ record { tariffs = record { import = i'; export = x' }; demands = ds'; generation = g' } ∷ unread n' types (record { import = i'; export = x' }) ws'
same_half_hour types a b c d e f = cc

-- the first is read, word by word
pub half_hour_read :
    (left types : ℕ) (before : Tariffs) (ws : List ℕ) {i x g : ℕ} {ds v1 v2 w rest : List ℕ}
    → i ≡ tariff_in import_kind before.import ws
    → v1 ≡ past import_kind ws
    → x ≡ tariff_in export_kind before.export v1
    → v2 ≡ past export_kind v1
    → ds ≡ demands_in most_types types v2
    → w ≡ drop types v2
    → g ≡ first_value w
    → rest ≡ drop 1 w
    → unread (suc left) types before ws ≡ record { tariffs = record { import = i; export = x }; demands = ds; generation = g } ∷ unread left types (record { import = i; export = x }) rest
half_hour_read left types before ws ei e1 ex e2 ed ew eg er =
    rw (er, eg, ew, ed, ex, e2, ei, e1)
    (same_half_hour types refl refl refl refl refl (sym (drop-drop 1 types (past export_kind (past import_kind ws)))))
