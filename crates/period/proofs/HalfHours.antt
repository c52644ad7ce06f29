-- What the readers of half-hours do with any words.
use Rattle.std.proofs.Common.{◌≡◌, ℕ, zero, suc, ◌+◌, ◌-◌, ◌≤◌, Bool, true, false, ◌⊎◌, List, [], ◌∷◌, ◌++◌, length, Some, None, Option, sym, refl, ap, ◌∙◌, inl, inr, add-zero, arith}
use Rattle.std.proofs.lemmas.Bool.{cond-true, cond-false, cases_Bool, false≢true}
use Rattle.period.proofs.OneWord.{between_gives}
use Rattle.period.proofs.Taken.{Taken, Stopped, Takes, takes_both, takes_as, one_takes}
use Rattle.period.specs.Limits.{most_value}
use Rattle.period.specs.Pages.{Entry, tariff_words, words_of, entry_words, entries_words, TariffWithin, AllWithin, EntryWithin, EntriesWithin, Given, FirstGiven}
use Rattle.period.specs.Reader.{Reader, between, value, maybe_tariff, tariff, demands, entry, later, entries}
use Rattle.period.specs.Words.{word, import_kind, export_kind, demand_kind, generation_kind}
use Rattle.period.specs.declared.refusals.Part.{Part}
use Rattle.period.specs.declared.refusals.Part.TheVariants.{HalfHour}

-- an offence of a half-hour, wherever it is
abbrev pub InHalfHour : Part → ℕ → Type 0
InHalfHour part on = part ≡ HalfHour

value_takes : (kind : ℕ) → Takes (λ v. word kind v ∷ []) (λ v. v ≤ most_value) InHalfHour (value kind)
value_takes kind =
    takes_as (λ v. word kind v ∷ []) (λ v. v ≤ most_value) InHalfHour (λ (v : ℕ). v) (one_takes HalfHour (word kind 0) 0 most_value)
    (λ v h. ap (λ (x : ℕ). x ∷ []) (omega arith)) (λ v h. h.1) (λ part n s. s.0)

maybe_tariff_takes : (kind : ℕ) → Takes (tariff_words kind) TariffWithin InHalfHour (maybe_tariff kind)
maybe_tariff_takes kind = record { way = way }
  where
    left_out :
        (next : Option ℕ → Reader) (ws : List ℕ) (place : ℕ) → maybe_tariff kind next ws place ≡ next None ws place
        → Taken (tariff_words kind) TariffWithin next ws place (maybe_tariff kind next ws place)
    left_out next ws place e = record { value = None; within = tt; rest = ws; begins = refl; goes_on = e ∙ ap (next None ws) (sym (add-zero place)) }

    given :
        (next : Option ℕ → Reader) (w : ℕ) (ws : List ℕ) (place : ℕ) → between (word kind 0 + 0) (word kind 0 + most_value) w ≡ true → (word kind 0 + 0 ≤ w) × (w ≤ word kind 0 + most_value)
        → Taken (tariff_words kind) TariffWithin next (w ∷ ws) place (maybe_tariff kind next (w ∷ ws) place)
    given next w ws place t h =
        record {
          value = Some (w - word kind 0);
          within = omega arith;
          rest = ws;
          begins = ap (λ (x : ℕ). x ∷ ws) (omega arith);
          goes_on = cond-true (between (word kind 0 + 0) (word kind 0 + most_value) w) _ _ t;
        }

    way :
        (next : Option ℕ → Reader) (ws : List ℕ) (place : ℕ)
        → Taken (tariff_words kind) TariffWithin next ws place (maybe_tariff kind next ws place) ⊎ Stopped InHalfHour place (maybe_tariff kind next ws place)
    way next [] place = inl (left_out next [] place refl)
    way next (w ∷ ws) place =
        elim (cases_Bool (between (word kind 0 + 0) (word kind 0 + most_value) w)) [
          | inl t ↦ inl (given next w ws place t (between_gives (word kind 0 + 0) (word kind 0 + most_value) w t))
          | inr t ↦ inl (left_out next (w ∷ ws) place (cond-false (between (word kind 0 + 0) (word kind 0 + most_value) w) _ _ t))
        ]

-- the first half-hour gives its tariffs
abbrev TariffOf : Bool → Option ℕ → Type 0
TariffOf first o = TariffWithin o × (first ≡ true → Given o)

tariff_takes : (first : Bool) (kind : ℕ) → Takes (tariff_words kind) (TariffOf first) InHalfHour (tariff first kind)
tariff_takes true kind = takes_as (tariff_words kind) (TariffOf true) InHalfHour Some (value_takes kind) (λ v h. refl) (λ v h. (h, λ e. tt)) (λ part n s. s)
tariff_takes false kind =
    takes_as (tariff_words kind) (TariffOf false) InHalfHour (λ (o : Option ℕ). o) (maybe_tariff_takes kind) (λ o h. refl)
    (λ o h. (h, λ e. absurd (false≢true e))) (λ part n s. s)

-- the same part, wherever it offends
both_half_hour :
    {A B : Type 0} {words : A → List ℕ} {Within : A → Type 0} {words' : A → B → List ℕ} {Within' : A → B → Type 0} {first : (A → Reader) → Reader} {second : A → (B → Reader) → Reader}
    → Takes words Within InHalfHour first
    → ((a : A) → Within a → Takes (words' a) (Within' a) InHalfHour (second a))
    → Takes {A = A × B} (λ v. words v.0 ++ words' v.0 v.1) (λ v. Within v.0 × Within' v.0 v.1) InHalfHour (λ next. first (λ a. second a (λ b. next (a, b))))
both_half_hour here then = takes_both InHalfHour here then (λ part n s. s) (λ v part n h s. s)

-- nothing is read, and nothing is wrong
none_takes :
    {A : Type 0} (a : A) (words : A → List ℕ) (Within : A → Type 0) → words a ≡ [] → Within a → Takes words Within InHalfHour (λ next. next a)
none_takes a words Within none h =
    record {
      way = λ next ws place.
          inl (record {
            value = a;
            within = h;
            rest = ws;
            begins = ap (λ (x : List ℕ). x ++ ws) (sym none);
            goes_on = ap (next a ws) (omega (arith, ap length none));
          });
    }

abbrev DemandsOf : ℕ → List ℕ → Type 0
DemandsOf types ds = (length ds ≡ types) × AllWithin ds

demands_takes : (types : ℕ) → Takes (words_of demand_kind) (DemandsOf types) InHalfHour (demands types)
demands_takes zero = none_takes [] (words_of demand_kind) (DemandsOf 0) refl (refl, tt)
demands_takes (suc k) =
    takes_as (words_of demand_kind) (DemandsOf (suc k)) InHalfHour (λ (v : ℕ × List ℕ). v.0 ∷ v.1)
    (both_half_hour (value_takes demand_kind) (λ v h. demands_takes k))
    (λ v h. refl) (λ v h. (ap suc h.1.0, (h.0, h.1.1))) (λ part n s. s)

-- one half-hour, the first or a later one
abbrev EntryOf : Bool → ℕ → Entry → Type 0
EntryOf first types e = EntryWithin types e × (first ≡ true → Given e.import × Given e.export)

entry_takes : (first : Bool) (types : ℕ) → Takes entry_words (EntryOf first types) InHalfHour (entry first types)
entry_takes first types =
    takes_as entry_words (EntryOf first types) InHalfHour
    (λ (v : Option ℕ × (Option ℕ × (List ℕ × ℕ))). record { import = v.0; export = v.1.0; demands = v.1.1.0; generation = v.1.1.1 })
    (both_half_hour (tariff_takes first import_kind) (λ i h. both_half_hour (tariff_takes first export_kind) (λ x h. both_half_hour (demands_takes types) (λ ds h. value_takes generation_kind))))
    (λ v h. refl)
    (λ v h. (
      record { import_within = h.0.0; export_within = h.1.0.0; a_demand_each = h.1.1.0.0; demands_within = h.1.1.0.1; generation_within = h.1.1.1 },
      λ f. (h.0.1 f, h.1.0.1 f),
    ))
    (λ part n s. s)

abbrev LaterOf : ℕ → ℕ → List Entry → Type 0
LaterOf t types es = (length es ≡ t) × EntriesWithin types es

later_takes : (t types : ℕ) → Takes entries_words (LaterOf t types) InHalfHour (later t types)
later_takes zero types = none_takes [] entries_words (LaterOf 0 types) refl (refl, tt)
later_takes (suc t) types =
    takes_as entries_words (LaterOf (suc t) types) InHalfHour (λ (v : Entry × List Entry). v.0 ∷ v.1)
    (both_half_hour (entry_takes false types) (λ e h. later_takes t types))
    (λ v h. refl) (λ v h. (ap suc h.1.0, (h.0.0, h.1.1))) (λ part n s. s)

-- all half-hours
pub record EntriesOf (t types : ℕ) (es : List Entry) : Type 0 where
  pub as_many : length es ≡ t
  pub each_within : EntriesWithin types es
  pub both_given : FirstGiven es

pub entries_takes : (t types : ℕ) → 1 ≤ t → Takes entries_words (EntriesOf t types) InHalfHour (entries t types)
entries_takes t types some =
    takes_as entries_words (EntriesOf t types) InHalfHour (λ (v : Entry × List Entry). v.0 ∷ v.1)
    (both_half_hour (entry_takes true types) (λ e h. later_takes (t - 1) types))
    (λ v h. refl) (λ v h. record { as_many = omega (arith, h.1.0); each_within = (h.0.0, h.1.1); both_given = h.0.1 refl }) (λ part n s. s)
