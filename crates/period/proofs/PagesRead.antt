-- Reading a page's words gives its half-hours, with the tariffs in force.
use Rattle.std.proofs.Common.{◌≡◌, ℕ, zero, suc, ◌<◌, ◌≤◌, true, false, List, [], ◌∷◌, ◌++◌, length, drop, Some, None, Option, sym, refl, ap, ◌∙◌, arith}
use Rattle.std.proofs.lemmas.List.{drop-drop, drop_at, append_assoc}
use Rattle.std.proofs.lemmas.Bool.{eq-eqb, ne_eqb}
use Rattle.period.proofs.Unreading.{same_half_hour}
use Rattle.period.specs.InForce.{given, in_force, padded, reading_of, readings_after}
use Rattle.period.specs.Limits.{most_value}
use Rattle.period.specs.Pages.{Entry, tariff_words, words_of, entries_words, TariffWithin, AllWithin, EntriesWithin}
use Rattle.period.specs.Unread.{stands, first_value, tariff_in, past, past_tariffs, demands_in, unread}
use Rattle.period.specs.Words.{kind_of, value_of, word, import_kind, export_kind, demand_kind, generation_kind}
use Rattle.period.specs.declared.reading.Tariffs.{Tariffs}

-- ---- the parts of a word

kind_back : (k v : ℕ) → v ≤ most_value → kind_of (word k v) ≡ k
kind_back k v h = omega (arith, h)

value_back : (k v : ℕ) → v ≤ most_value → value_of (word k v) ≡ v
value_back k v h = omega (arith, h)

stands_with : (k v : ℕ) (ws : List ℕ) → v ≤ most_value → stands k (word k v ∷ ws) ≡ true
stands_with k v ws h = eq-eqb (kind_of (word k v)) k (kind_back k v h)

stands_without : (kind k v : ℕ) (ws : List ℕ) → v ≤ most_value → (k ≡ kind → ⊥) → stands kind (word k v ∷ ws) ≡ false
stands_without kind k v ws h other = ne_eqb (kind_of (word k v)) kind (λ e. other (sym (kind_back k v h) ∙ e))

-- ---- tariffs

-- a tariff is read where it is given, and else the one before holds, if no such word stands behind it
tariff_read :
    (kind before : ℕ) (o : Option ℕ) (ws : List ℕ)
    → TariffWithin o
    → stands kind ws ≡ false
    → (tariff_in kind before (tariff_words kind o ++ ws) ≡ given before o) × (past kind (tariff_words kind o ++ ws) ≡ ws)
tariff_read kind before (Some v) ws h none = rw (stands_with kind v ws h) (value_back kind v h, refl)
tariff_read kind before None ws h none = rw none (refl, refl)

-- no tariff stands where the demands begin, or the generation
none_at_demands :
    (kind g : ℕ) (ds ws : List ℕ) → AllWithin ds → g ≤ most_value → kind < demand_kind → stands kind (words_of demand_kind ds ++ (word generation_kind g ∷ ws)) ≡ false
none_at_demands kind g [] ws h k other = stands_without kind generation_kind g ws k (λ e. omega (arith, e, other))
none_at_demands kind g (d ∷ ds) ws h k other = stands_without kind demand_kind d (words_of demand_kind ds ++ (word generation_kind g ∷ ws)) h.0 (λ e. omega (arith, e, other))

-- nor an import tariff where the export tariff may stand
none_at_export : (o : Option ℕ) (ws : List ℕ) → TariffWithin o → stands import_kind ws ≡ false → stands import_kind (tariff_words export_kind o ++ ws) ≡ false
none_at_export (Some v) ws h none = stands_without import_kind export_kind v ws h (λ e. omega (arith, e))
none_at_export None ws h none = none

-- ---- demands

demands_back : (n : ℕ) (ds ws : List ℕ) → AllWithin ds → demands_in n (length ds) (words_of demand_kind ds ++ ws) ≡ padded n ds
demands_back zero ds ws h = refl
demands_back (suc n) [] ws h = ap (λ vs. 0 ∷ vs) (demands_back n [] ws h)
demands_back (suc n) (d ∷ ds) ws h = rw (value_back demand_kind d h.0, demands_back n ds ws h.1)

length_words_of : (kind : ℕ) (vs : List ℕ) → length (words_of kind vs) ≡ length vs
length_words_of kind [] = refl
length_words_of kind (v ∷ vs) = ap suc (length_words_of kind vs)

-- ---- half-hours

-- the words of a half-hour, with all that is behind them
spread : (a b c : List ℕ) (g : ℕ) (ws more : List ℕ) → ((a ++ (b ++ (c ++ (g ∷ [])))) ++ ws) ++ more ≡ a ++ (b ++ (c ++ (g ∷ (ws ++ more))))
spread a b c g ws more = simp append_assoc refl

pub entries_read :
    (types : ℕ) (before : Tariffs) (es : List Entry) (more : List ℕ)
    → EntriesWithin types es
    → unread (length es) types before (entries_words es ++ more) ≡ readings_after before es
entries_read types before [] more h = refl
entries_read types before (e ∷ es) more h =
    let i = tariff_words import_kind e.import in
    let x = tariff_words export_kind e.export in
    let ds = words_of demand_kind e.demands in
    let g = word generation_kind e.generation in
    let rest = entries_words es ++ more in
    let none : (kind : ℕ) → kind < demand_kind → stands kind (ds ++ (g ∷ rest)) ≡ false =
    λ kind. none_at_demands kind e.generation e.demands rest h.0.demands_within h.0.generation_within in
    let import_read = tariff_read import_kind before.import e.import (x ++ (ds ++ (g ∷ rest))) h.0.import_within
    (none_at_export e.export (ds ++ (g ∷ rest)) h.0.export_within (none import_kind (omega arith))) in
    let export_read = tariff_read export_kind before.export e.export (ds ++ (g ∷ rest)) h.0.export_within (none export_kind (omega arith)) in
    let words : List ℕ = i ++ (x ++ (ds ++ (g ∷ rest))) in
    let past_both : past_tariffs words ≡ ds ++ (g ∷ rest) = ap (past export_kind) import_read.1 ∙ export_read.1 in
    let all : length ds ≡ types = length_words_of demand_kind e.demands ∙ h.0.a_demand_each in
    let past_demands : drop types (past_tariffs words) ≡ g ∷ rest = ap (drop types) past_both ∙ drop_at ds (g ∷ rest) types all in
    ap (unread (suc (length es)) types before) (spread i x ds g (entries_words es) more)
    ∙ same_half_hour types
    import_read.0
    (ap (tariff_in export_kind before.export) import_read.1 ∙ export_read.0)
    (ap (demands_in 4 types) past_both ∙ ap (λ n. demands_in 4 n (ds ++ (g ∷ rest))) (sym h.0.a_demand_each) ∙ demands_back 4 e.demands (g ∷ rest) h.0.demands_within)
    (ap first_value past_demands ∙ value_back generation_kind e.generation h.0.generation_within)
    refl
    (sym (drop-drop 1 types (past_tariffs words)) ∙ ap (drop 1) past_demands)
    ∙ ap (λ rs. reading_of before e ∷ rs) (entries_read types (in_force before e) es more h.1)
