-- A reader that refuses only at the first word which nothing mends, and which something always satisfies.
use Rattle.std.proofs.Common.{◌≡◌, ℕ, zero, suc, ◌+◌, ◌-◌, ◌<◌, ◌≤◌, Bool, true, false, eqb, List, [], ◌∷◌, ◌++◌, length, take, Some, None, Ok, Err, Option, Result, sym, refl, ap, ◌∙◌, inl, inr, arith}
use Rattle.std.proofs.lemmas.Bool.{cond-true, cond-false, cases_Bool}
use Rattle.battery.specs.Ratings.{most_charge, most_moved, whole}
use Rattle.battery.specs.declared.rating.Rating.{Rating}
use Rattle.period.proofs.Completeness.{given_accepts, close_accepts}
use Rattle.period.proofs.OneWord.{between_gives, one_accepts}
use Rattle.period.specs.Limits.{most_value, most_half_hours, most_types}
use Rattle.period.specs.Pages.{Entry, Page}
use Rattle.period.specs.Reader.{Reader, offends, between, one, value, maybe_tariff, tariff, demands, entry, later, entries, field, rating, end, close, period}
use Rattle.period.specs.Words.{word, battery_word, half_hours_kind, types_kind, import_kind, export_kind, demand_kind, generation_kind, closing_kind}
use Rattle.period.specs.declared.refusals.Part.{Part}
use Rattle.period.specs.declared.refusals.Part.TheVariants.{Length, Types, Battery, HalfHour, Closing}
use Rattle.period.specs.declared.refusals.PeriodRefusal.{PeriodRefusal}

-- the refusal's place is so many words on: those before it can be read on to the end, and not so with the word there
pub record Offends (reader : Reader) (ws : List ℕ) (start : ℕ) (e : PeriodRefusal) : Type 0 where
  pub count : ℕ
  pub stands : e.place ≡ start + count
  pub among : count ≤ length ws
  pub before : (rest : List ℕ) × (p : Page) × (reader (take count ws ++ rest) start ≡ Ok p)
  pub there : count < length ws → (rest : List ℕ) (p : Page) → reader (take (suc count) ws ++ rest) start ≡ Ok p → ⊥

-- at every place some words satisfy it, and every refusal is of a first offending word
pub record Honest (reader : Reader) : Type 0 where
  pub live : (start : ℕ) → (ws : List ℕ) × (p : Page) × (reader ws start ≡ Ok p)
  pub first : (ws : List ℕ) (start : ℕ) (e : PeriodRefusal) → reader ws start ≡ Err e → Offends reader ws start e

offence_place : (part : Part) (start : ℕ) (e : PeriodRefusal) → offends part start ≡ Err e → e.place ≡ start
offence_place part start e h = let k : record { part = part; place = start } ≡ e = cc in ap (λ (x : PeriodRefusal). x.place) (sym k)

no_page : (r : Result Page PeriodRefusal) (e : PeriodRefusal) (p : Page) → r ≡ Err e → r ≡ Ok p → ⊥
no_page r e p h k = cc

-- a word is missing
missing :
    (reader : Reader) (start : ℕ) (e : PeriodRefusal) → e.place ≡ start → (ws : List ℕ) × (p : Page) × (reader ws start ≡ Ok p) → Offends reader [] start e
missing reader start e h live = record { count = 0; stands = omega arith; among = omega arith; before = live; there = λ k rest p f. absurd (omega arith) }

-- the first word offends
offends_first :
    (reader : Reader) (w : ℕ) (ws : List ℕ) (start : ℕ) (e : PeriodRefusal) → e.place ≡ start → (ws : List ℕ) × (p : Page) × (reader ws start ≡ Ok p)
    → ((us : List ℕ) → reader (w ∷ us) start ≡ Err e) → Offends reader (w ∷ ws) start e
offends_first reader w ws start e h live refuses =
    record { count = 0; stands = omega arith; among = omega arith; before = live; there = λ k rest p f. no_page (reader (w ∷ rest) start) e p (refuses rest) f }

-- the first word is taken, and a later one offends
offends_later :
    (reader next : Reader) (w : ℕ) (ws : List ℕ) (start : ℕ) (e : PeriodRefusal) → ((us : List ℕ) → reader (w ∷ us) start ≡ next us (start + 1))
    → Offends next ws (start + 1) e → Offends reader (w ∷ ws) start e
offends_later reader next w ws start e step o =
    record {
      count = suc o.count;
      stands = omega (arith, o.stands);
      among = omega (arith, o.among);
      before = (o.before.0, o.before.1, step (take o.count ws ++ o.before.0) ∙ o.before.2);
      there = λ k rest p f. o.there (omega arith) rest p (sym (step (take (suc o.count) ws ++ rest)) ∙ f);
    }

-- the first word is left to what is read next
offends_next :
    (reader next : Reader) (w : ℕ) (ws : List ℕ) (start : ℕ) (e : PeriodRefusal) → ((us : List ℕ) → reader (w ∷ us) start ≡ next (w ∷ us) start)
    → (ws : List ℕ) × (p : Page) × (reader ws start ≡ Ok p) → Offends next (w ∷ ws) start e → Offends reader (w ∷ ws) start e
offends_next reader next w ws start e step live o =
    record {
      count = o.count;
      stands = o.stands;
      among = o.among;
      before = by_count o.count o.before;
      there = λ k rest p f. o.there k rest p (sym (step (take o.count ws ++ rest)) ∙ f);
    }
  where
    by_count :
        (n : ℕ) → (rest : List ℕ) × (p : Page) × (next (take n (w ∷ ws) ++ rest) start ≡ Ok p)
        → (rest : List ℕ) × (p : Page) × (reader (take n (w ∷ ws) ++ rest) start ≡ Ok p)
    by_count zero b = live
    by_count (suc n) b = (b.0, b.1, step (take n ws ++ b.0) ∙ b.2)

one_honest :
    (part : Part) (base least most : ℕ) (next : ℕ → Reader) → least ≤ most → ((v : ℕ) → least ≤ v → v ≤ most → Honest (next v)) → Honest (one part base least most next)
one_honest part base least most next some each = record { live = live; first = first }
  where
    reader : Reader
    reader = one part base least most next

    live : (start : ℕ) → (ws : List ℕ) × (p : Page) × (reader ws start ≡ Ok p)
    live start =
        let l = (each least (omega arith) some).live (start + 1) in
        ((base + least) ∷ l.0, l.1, one_accepts part base least most least next l.0 start (omega arith) some ∙ l.2)

    refused : (w : ℕ) → between (base + least) (base + most) w ≡ false → (us : List ℕ) (start : ℕ) → reader (w ∷ us) start ≡ offends part start
    refused w t us start = cond-false (between (base + least) (base + most) w) _ _ t

    taken :
        (w : ℕ) → between (base + least) (base + most) w ≡ true → (us : List ℕ) (start : ℕ) → reader (w ∷ us) start ≡ next (w - base) us (start + 1)
    taken w t us start = cond-true (between (base + least) (base + most) w) _ _ t

    honest : (w : ℕ) → (base + least ≤ w) × (w ≤ base + most) → Honest (next (w - base))
    honest w h = each (w - base) (omega arith) (omega arith)

    first : (ws : List ℕ) (start : ℕ) (e : PeriodRefusal) → reader ws start ≡ Err e → Offends reader ws start e
    first [] start e h = missing reader start e (offence_place part start e h) (live start)
    first (w ∷ ws) start e h =
        elim (cases_Bool (between (base + least) (base + most) w)) [
          | inl t ↦ offends_later reader (next (w - base)) w ws start e (λ us. taken w t us start)
              ((honest w (between_gives (base + least) (base + most) w t)).first ws (start + 1) e (sym (taken w t ws start) ∙ h))
          | inr t ↦ offends_first reader w ws start e (offence_place part start e (sym (refused w t ws start) ∙ h)) (live start) (λ us. refused w t us start ∙ sym (refused w t ws start) ∙ h)
        ]

maybe_tariff_honest : (kind : ℕ) (next : Option ℕ → Reader) → ((o : Option ℕ) → Honest (next o)) → Honest (maybe_tariff kind next)
maybe_tariff_honest kind next each = record { live = live; first = first }
  where
    reader : Reader
    reader = maybe_tariff kind next

    test : ℕ → Bool
    test w = between (word kind 0 + 0) (word kind 0 + most_value) w

    live : (start : ℕ) → (ws : List ℕ) × (p : Page) × (reader ws start ≡ Ok p)
    live start = let l = (each (Some 0)).live (start + 1) in (word kind 0 ∷ l.0, l.1, given_accepts kind 0 next l.0 start (omega arith) ∙ l.2)

    left : (w : ℕ) → test w ≡ false → (us : List ℕ) (start : ℕ) → reader (w ∷ us) start ≡ next None (w ∷ us) start
    left w t us start = cond-false (test w) _ _ t

    taken : (w : ℕ) → test w ≡ true → (us : List ℕ) (start : ℕ) → reader (w ∷ us) start ≡ next (Some (w - word kind 0)) us (start + 1)
    taken w t us start = cond-true (test w) _ _ t

    none_left : (start : ℕ) (e : PeriodRefusal) → Offends (next None) [] start e → Offends reader [] start e
    none_left start e o = missing reader start e (omega (arith, o.stands, o.among)) (live start)

    first : (ws : List ℕ) (start : ℕ) (e : PeriodRefusal) → reader ws start ≡ Err e → Offends reader ws start e
    first [] start e h = none_left start e ((each None).first [] start e h)
    first (w ∷ ws) start e h =
        elim (cases_Bool (test w)) [
          | inl t ↦ offends_later reader (next (Some (w - word kind 0))) w ws start e (λ us. taken w t us start)
              ((each (Some (w - word kind 0))).first ws (start + 1) e (sym (taken w t ws start) ∙ h))
          | inr t ↦ offends_next reader (next None) w ws start e (λ us. left w t us start) (live start) ((each None).first (w ∷ ws) start e (sym (left w t ws start) ∙ h))
        ]

value_honest : (kind : ℕ) (next : ℕ → Reader) → ((v : ℕ) → Honest (next v)) → Honest (value kind next)
value_honest kind next each = one_honest HalfHour (word kind 0) 0 most_value next (omega arith) (λ v l h. each v)

tariff_honest : (first : Bool) (kind : ℕ) (next : Option ℕ → Reader) → ((o : Option ℕ) → Honest (next o)) → Honest (tariff first kind next)
tariff_honest true kind next each = value_honest kind (λ v. next (Some v)) (λ v. each (Some v))
tariff_honest false kind next each = maybe_tariff_honest kind next each

demands_honest : (types : ℕ) (next : List ℕ → Reader) → ((ds : List ℕ) → Honest (next ds)) → Honest (demands types next)
demands_honest zero next each = each []
demands_honest (suc k) next each = value_honest demand_kind (λ v. demands k (λ vs. next (v ∷ vs))) (λ v. demands_honest k (λ vs. next (v ∷ vs)) (λ vs. each (v ∷ vs)))

entry_honest : (first : Bool) (types : ℕ) (next : Entry → Reader) → ((e : Entry) → Honest (next e)) → Honest (entry first types next)
entry_honest first types next each =
    tariff_honest first import_kind _
    (λ i. tariff_honest first export_kind _ (λ x. demands_honest types _ (λ ds. value_honest generation_kind _ (λ g. each (record { import = i; export = x; demands = ds; generation = g })))))

later_honest : (t types : ℕ) (next : List Entry → Reader) → ((es : List Entry) → Honest (next es)) → Honest (later t types next)
later_honest zero types next each = each []
later_honest (suc t) types next each = entry_honest false types _ (λ e. later_honest t types (λ es. next (e ∷ es)) (λ es. each (e ∷ es)))

entries_honest : (t types : ℕ) (next : List Entry → Reader) → ((es : List Entry) → Honest (next es)) → Honest (entries t types next)
entries_honest t types next each = entry_honest true types _ (λ e. later_honest (t - 1) types (λ es. next (e ∷ es)) (λ es. each (e ∷ es)))

field_honest :
    (f least most : ℕ) (next : ℕ → Reader) → least ≤ most → ((v : ℕ) → least ≤ v → v ≤ most → Honest (next v)) → Honest (field f least most next)
field_honest f least most next some each = one_honest Battery (battery_word f 0) least most next some each

-- a lowest charge that is taken leaves a highest one to take
rating_honest : (next : Rating → Reader) → ((b : Rating) → Honest (next b)) → Honest (rating next)
rating_honest next each =
    field_honest 0 0 most_charge _ (omega arith)
    (λ lowest l h. field_honest 1 lowest most_charge _ h
    (λ highest l h. field_honest 2 0 most_moved _ (omega arith)
    (λ most l h. field_honest 3 1 whole _ (omega arith)
    (λ charging l h. field_honest 4 1 whole _ (omega arith)
    (λ discharging l h. each (record { lowest = lowest; highest = highest; most = most; charging = charging; discharging = discharging }))))))

end_honest : (p : Page) → Honest (end p)
end_honest p = record { live = λ start. ([], p, refl); first = first }
  where
    first : (ws : List ℕ) (start : ℕ) (e : PeriodRefusal) → end p ws start ≡ Err e → Offends (end p) ws start e
    first [] start e h = absurd (no_page (Ok p) e p h refl)
    first (w ∷ ws) start e h = offends_first (end p) w ws start e (offence_place Closing start e h) ([], p, refl) (λ us. h)

close_honest : (p : Page) → Honest (close p)
close_honest p = record { live = live; first = first }
  where
    live : (start : ℕ) → (ws : List ℕ) × (q : Page) × (close p ws start ≡ Ok q)
    live start = (word closing_kind start ∷ [], p, close_accepts p start)

    refused : (w start : ℕ) → eqb w (word closing_kind start) ≡ false → (us : List ℕ) → close p (w ∷ us) start ≡ offends Closing start
    refused w start t us = cond-false (eqb w (word closing_kind start)) _ _ t

    taken : (w start : ℕ) → eqb w (word closing_kind start) ≡ true → (us : List ℕ) → close p (w ∷ us) start ≡ end p us (start + 1)
    taken w start t us = cond-true (eqb w (word closing_kind start)) _ _ t

    first : (ws : List ℕ) (start : ℕ) (e : PeriodRefusal) → close p ws start ≡ Err e → Offends (close p) ws start e
    first [] start e h = missing (close p) start e (offence_place Closing start e h) (live start)
    first (w ∷ ws) start e h =
        elim (cases_Bool (eqb w (word closing_kind start))) [
          | inl t ↦ offends_later (close p) (end p) w ws start e (taken w start t) ((end_honest p).first ws (start + 1) e (sym (taken w start t ws) ∙ h))
          | inr t ↦ offends_first (close p) w ws start e (offence_place Closing start e (sym (refused w start t ws) ∙ h)) (live start) (λ us. refused w start t us ∙ sym (refused w start t ws) ∙ h)
        ]

pub period_honest : Honest period
period_honest =
    one_honest Length (word half_hours_kind 0) 1 most_half_hours _ (omega arith)
    (λ t l h. one_honest Types (word types_kind 0) 1 most_types _ (omega arith)
    (λ k l h. rating_honest _ (λ b. entries_honest t k _ (λ es. close_honest (record { types = k; rating = b; entries = es })))))
