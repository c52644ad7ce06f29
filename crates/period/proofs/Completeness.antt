-- Words that write a page are read as that page.
use Rattle.std.proofs.Common.{◌≡◌, ℕ, suc, ◌+◌, ◌-◌, ◌≤◌, Bool, true, false, eqb, List, [], ◌∷◌, ◌++◌, length, Some, None, Ok, Option, sym, refl, ap, ◌∙◌, append_assoc, add-zero, arith, length-append}
use Rattle.std.proofs.lemmas.Bool.{cond-true, cond-false, eq-eqb, false≢true}
use Rattle.battery.specs.Ratings.{Rated, most_charge, most_moved, whole}
use Rattle.battery.specs.declared.rating.Rating.{Rating}
use Rattle.period.proofs.OneWord.{between_holds, between_above, one_accepts}
use Rattle.period.specs.Limits.{most_value, most_types, most_half_hours}
use Rattle.period.specs.Pages.{Entry, Page, tariff_words, words_of, entry_words, entries_words, rating_words, body, TariffWithin, AllWithin, EntryWithin, EntriesWithin, Given, FirstGiven, WithinLimits, Writes}
use Rattle.period.specs.Reader.{Reader, between, value, maybe_tariff, tariff, demands, entry, later, entries, rating, close, read, one, field}
use Rattle.period.specs.Words.{word, import_kind, export_kind, demand_kind, generation_kind, closing_kind, half_hours_kind, types_kind, battery_word}
use Rattle.period.specs.declared.refusals.Part.TheVariants.{HalfHour, Battery, Length, Types}

value_accepts :
    (kind v : ℕ) (next : ℕ → Reader) (ws : List ℕ) (place : ℕ) → v ≤ most_value → value kind next (word kind v ∷ ws) place ≡ next v ws (place + 1)
value_accepts kind v next ws place h =
    ap (λ (w : ℕ). value kind next (w ∷ ws) place) (omega arith) ∙ one_accepts HalfHour (word kind 0) 0 most_value v next ws place (omega arith) h

-- there is a first word, which is no lower than this
abbrev FromOn : ℕ → List ℕ → Type 0
FromOn low [] = ⊥
FromOn low (w ∷ ws) = low ≤ w

-- a tariff that is left out is not found in a word of a higher kind
left_out :
    (kind : ℕ) (next : Option ℕ → Reader) (ws : List ℕ) (place : ℕ) → FromOn (word (kind + 1) 0) ws
    → maybe_tariff kind next ws place ≡ next None ws place
left_out kind next [] place h = absurd h
left_out kind next (w ∷ ws) place h =
    cond-false (between (word kind 0 + 0) (word kind 0 + most_value) w) _ (next None (w ∷ ws) place)
    (between_above (word kind 0 + 0) (word kind 0 + most_value) w (omega arith))

pub given_accepts :
    (kind v : ℕ) (next : Option ℕ → Reader) (ws : List ℕ) (place : ℕ) → v ≤ most_value
    → maybe_tariff kind next (word kind v ∷ ws) place ≡ next (Some v) ws (place + 1)
given_accepts kind v next ws place h =
    cond-true (between (word kind 0 + 0) (word kind 0 + most_value) (word kind v)) (next (Some (word kind v - word kind 0)) ws (place + 1)) _
    (between_holds (word kind 0 + 0) (word kind 0 + most_value) (word kind v) (omega arith) (omega arith))
    ∙ ap (λ (x : ℕ). next (Some x) ws (place + 1)) (omega arith)

tariff_accepts :
    (first : Bool) (kind : ℕ) (o : Option ℕ) (next : Option ℕ → Reader) (ws : List ℕ) (place : ℕ) → TariffWithin o → (first ≡ true → Given o)
    → FromOn (word (kind + 1) 0) ws → tariff first kind next (tariff_words kind o ++ ws) place ≡ next o ws (place + length (tariff_words kind o))
tariff_accepts true kind (Some v) next ws place h g l = value_accepts kind v (λ v. next (Some v)) ws place h
tariff_accepts true kind None next ws place h g l = absurd (g refl)
tariff_accepts false kind (Some v) next ws place h g l =
    given_accepts kind v next ws place h
tariff_accepts false kind None next ws place h g l = left_out kind next ws place l ∙ ap (next None ws) (sym (add-zero place))

demands_accepts :
    (ds : List ℕ) (next : List ℕ → Reader) (ws : List ℕ) (place : ℕ) → AllWithin ds
    → demands (length ds) next (words_of demand_kind ds ++ ws) place ≡ next ds ws (place + length (words_of demand_kind ds))
demands_accepts [] next ws place h = ap (next [] ws) (sym (add-zero place))
demands_accepts (d ∷ ds) next ws place (h, hs) =
    value_accepts demand_kind d (λ v. demands (length ds) (λ vs. next (v ∷ vs))) (words_of demand_kind ds ++ ws) place h
    ∙ demands_accepts ds (λ vs. next (d ∷ vs)) ws (place + 1) hs ∙ ap (next (d ∷ ds) ws) (omega arith)

-- behind the import tariff the words are of a higher kind, and behind the export tariff too
from_demands : (ds : List ℕ) (g : ℕ) (ws : List ℕ) → FromOn (word demand_kind 0) (words_of demand_kind ds ++ (word generation_kind g ∷ ws))
from_demands [] g ws = omega arith
from_demands (d ∷ ds) g ws = omega arith

from_lower : (ws : List ℕ) → FromOn (word demand_kind 0) ws → FromOn (word export_kind 0) ws
from_lower [] h = h
from_lower (w ∷ ws) h = omega arith

from_export : (x : Option ℕ) (ws : List ℕ) → FromOn (word demand_kind 0) ws → FromOn (word export_kind 0) (tariff_words export_kind x ++ ws)
from_export (Some v) ws h = omega arith
from_export None ws h = from_lower ws h

four_parts : (a b c d rest : List ℕ) → (a ++ (b ++ (c ++ d))) ++ rest ≡ a ++ (b ++ (c ++ (d ++ rest)))
four_parts a b c d rest = simp append_assoc

four_lengths : (a b c d : List ℕ) (place : ℕ) → place + length a + length b + length c + length d ≡ place + length (a ++ (b ++ (c ++ d)))
four_lengths a b c d place = simp length-append (omega arith)

entry_accepts :
    (first : Bool) (e : Entry) (next : Entry → Reader) (rest : List ℕ) (place : ℕ) (types : ℕ) → EntryWithin types e
    → (first ≡ true → Given e.import × Given e.export)
    → entry first types next (entry_words e ++ rest) place ≡ next e rest (place + length (entry_words e))
entry_accepts first e next rest place types h g =
    ap (λ (ws : List ℕ). entry first types next ws place) (four_parts import export wanted made rest)
    ∙ tariff_accepts first import_kind e.import after_import (export ++ behind_export) place h.import_within (λ f. (g f).0) (from_export e.export behind_export behind_export_high)
    ∙ tariff_accepts first export_kind e.export (after_export e.import) behind_export (place + length import) h.export_within (λ f. (g f).1) behind_export_high
    ∙ ap (λ (n : ℕ). demands n (after_demands e.import e.export) behind_export (place + length import + length export)) (sym h.a_demand_each)
    ∙ demands_accepts e.demands (after_demands e.import e.export) (made ++ rest) (place + length import + length export) h.demands_within
    ∙ value_accepts generation_kind e.generation (after_generation e.import e.export e.demands) rest (place + length import + length export + length wanted) h.generation_within
    ∙ ap (next e rest) (four_lengths import export wanted made place)
  where
    import : List ℕ
    import = tariff_words import_kind e.import

    export : List ℕ
    export = tariff_words export_kind e.export

    wanted : List ℕ
    wanted = words_of demand_kind e.demands

    made : List ℕ
    made = word generation_kind e.generation ∷ []

    behind_export : List ℕ
    behind_export = wanted ++ (made ++ rest)

    behind_export_high : FromOn (word demand_kind 0) behind_export
    behind_export_high = from_demands e.demands e.generation rest

    after_generation : Option ℕ → Option ℕ → List ℕ → ℕ → Reader
    after_generation i x ds g = next (record { import = i; export = x; demands = ds; generation = g })

    after_demands : Option ℕ → Option ℕ → List ℕ → Reader
    after_demands i x ds = value generation_kind (after_generation i x ds)

    after_export : Option ℕ → Option ℕ → Reader
    after_export i x = demands types (after_demands i x)

    after_import : Option ℕ → Reader
    after_import i = tariff first export_kind (after_export i)

two_lengths : (a b : List ℕ) (place : ℕ) → place + length a + length b ≡ place + length (a ++ b)
two_lengths a b place = simp length-append (omega arith)

later_accepts :
    (types : ℕ) (es : List Entry) (next : List Entry → Reader) (rest : List ℕ) (place : ℕ) → EntriesWithin types es
    → later (length es) types next (entries_words es ++ rest) place ≡ next es rest (place + length (entries_words es))
later_accepts types [] next rest place h = ap (next [] rest) (sym (add-zero place))
later_accepts types (e ∷ es) next rest place (h, hs) =
    ap (λ (ws : List ℕ). later (suc (length es)) types next ws place) (append_assoc (entry_words e) (entries_words es) rest)
    ∙ entry_accepts false e (λ x. later (length es) types (λ xs. next (x ∷ xs))) (entries_words es ++ rest) place types h (λ f. absurd (false≢true f))
    ∙ later_accepts types es (λ xs. next (e ∷ xs)) rest (place + length (entry_words e)) hs
    ∙ ap (next (e ∷ es) rest) (two_lengths (entry_words e) (entries_words es) place)

entries_accepts :
    (types : ℕ) (es : List Entry) (next : List Entry → Reader) (rest : List ℕ) (place : ℕ) → 1 ≤ length es → EntriesWithin types es → FirstGiven es
    → entries (length es) types next (entries_words es ++ rest) place ≡ next es rest (place + length (entries_words es))
entries_accepts types [] next rest place some h g = absurd (omega arith)
entries_accepts types (e ∷ es) next rest place some (h, hs) g =
    ap (λ (ws : List ℕ). entries (suc (length es)) types next ws place) (append_assoc (entry_words e) (entries_words es) rest)
    ∙ ap (λ (n : ℕ). entry true types (λ x. later n types (λ xs. next (x ∷ xs))) (entry_words e ++ (entries_words es ++ rest)) place) (omega arith)
    ∙ entry_accepts true e (λ x. later (length es) types (λ xs. next (x ∷ xs))) (entries_words es ++ rest) place types h (λ f. g)
    ∙ later_accepts types es (λ xs. next (e ∷ xs)) rest (place + length (entry_words e)) hs
    ∙ ap (next (e ∷ es) rest) (two_lengths (entry_words e) (entries_words es) place)

field_accepts :
    (f least most v : ℕ) (next : ℕ → Reader) (ws : List ℕ) (place : ℕ) → least ≤ v → v ≤ most
    → field f least most next (battery_word f v ∷ ws) place ≡ next v ws (place + 1)
field_accepts f least most v next ws place l h =
    ap (λ (w : ℕ). field f least most next (w ∷ ws) place) (omega arith) ∙ one_accepts Battery (battery_word f 0) least most v next ws place l h

rating_accepts :
    (b : Rating) (next : Rating → Reader) (rest : List ℕ) (place : ℕ) → Rated b → rating next (rating_words b ++ rest) place ≡ next b rest (place + 5)
rating_accepts b next rest place h =
    field_accepts 0 0 most_charge b.lowest after_lowest (battery_word 1 b.highest ∷ from_most) place (omega arith) (omega arith)
    ∙ field_accepts 1 b.lowest most_charge b.highest (after_highest b.lowest) from_most (place + 1) h.ordered h.small
    ∙ field_accepts 2 0 most_moved b.most (after_most b.lowest b.highest) from_charging (place + 1 + 1) (omega arith) h.slow
    ∙ field_accepts 3 1 whole b.charging (after_charging b.lowest b.highest b.most) (battery_word 4 b.discharging ∷ rest) (place + 1 + 1 + 1) h.charges h.stores
    ∙ field_accepts 4 1 whole b.discharging (after_discharging b.lowest b.highest b.most b.charging) rest (place + 1 + 1 + 1 + 1) h.discharges h.yields
    ∙ ap (next b rest) (omega arith)
  where
    from_charging : List ℕ
    from_charging = battery_word 3 b.charging ∷ battery_word 4 b.discharging ∷ rest

    from_most : List ℕ
    from_most = battery_word 2 b.most ∷ from_charging

    after_discharging : ℕ → ℕ → ℕ → ℕ → ℕ → Reader
    after_discharging l u m c d = next (record { lowest = l; highest = u; most = m; charging = c; discharging = d })

    after_charging : ℕ → ℕ → ℕ → ℕ → Reader
    after_charging l u m c = field 4 1 whole (after_discharging l u m c)

    after_most : ℕ → ℕ → ℕ → Reader
    after_most l u m = field 3 1 whole (after_charging l u m)

    after_highest : ℕ → ℕ → Reader
    after_highest l u = field 2 0 most_moved (after_most l u)

    after_lowest : ℕ → Reader
    after_lowest l = field 1 l most_charge (after_highest l)

-- behind the body of a page only the closing word is left to read
pub read_body : (p : Page) → WithinLimits p → (rest : List ℕ) → read (body p ++ rest) ≡ close p rest (length (body p))
read_body p h rest =
    one_accepts Length (word half_hours_kind 0) 1 most_half_hours (length p.entries) after_length (word types_kind p.types ∷ behind_types) 0 h.some_half_hours h.few_half_hours
    ∙ one_accepts Types (word types_kind 0) 1 most_types p.types (after_types (length p.entries)) behind_types 1 h.some_types h.few_types
    ∙ rating_accepts p.rating (after_rating (length p.entries) p.types) (entries_words p.entries ++ rest) 2 h.rated
    ∙ entries_accepts p.types p.entries (after_entries p.types p.rating) rest 7 h.some_half_hours h.entries_within h.first_given
    ∙ ap (close p rest) (omega arith)
  where
    behind_types : List ℕ
    behind_types = rating_words p.rating ++ (entries_words p.entries ++ rest)

    after_entries : ℕ → Rating → List Entry → Reader
    after_entries k b es = close (record { types = k; rating = b; entries = es })

    after_rating : ℕ → ℕ → Rating → Reader
    after_rating t k b = entries t k (after_entries k b)

    after_types : ℕ → ℕ → Reader
    after_types t k = rating (after_rating t k)

    after_length : ℕ → Reader
    after_length t = one Types (word types_kind 0) 1 most_types (after_types t)

pub close_accepts : (p : Page) (place : ℕ) → close p (word closing_kind place ∷ []) place ≡ Ok p
close_accepts p place = cond-true (eqb (word closing_kind place) (word closing_kind place)) (Ok p) _ (eq-eqb (word closing_kind place) (word closing_kind place) refl)

-- what writes a page is read as that page
pub read_written : (p : Page) (ws : List ℕ) → Writes p ws → read ws ≡ Ok p
read_written p ws h = ap read h.as_written ∙ read_body p h.within (word closing_kind (length (body p)) ∷ []) ∙ close_accepts p (length (body p))
