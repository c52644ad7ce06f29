-- What is made of any words, up to the closing word: either they begin with the body of a page, or a word offends before.
use Rattle.std.proofs.Common.{◌≡◌, ℕ, suc, ◌+◌, ◌<◌, ◌≤◌, List, [], ◌∷◌, ◌++◌, sym, refl, ap, subst, arith}
use Rattle.battery.specs.Ratings.{Rated, most_charge, most_moved, whole}
use Rattle.battery.specs.declared.rating.Rating.{Rating}
use Rattle.period.proofs.HalfHours.{entries_takes}
use Rattle.period.proofs.Taken.{Takes, takes_both, takes_as, one_takes}
use Rattle.period.specs.Limits.{most_half_hours, most_types}
use Rattle.period.specs.Pages.{Entry, Page, entries_words, rating_words, body, WithinLimits}
use Rattle.period.specs.Reader.{Reader, one, field, rating, entries}
use Rattle.period.specs.Words.{word, battery_word, half_hours_kind, types_kind}
use Rattle.period.specs.declared.refusals.Part.{Part}
use Rattle.period.specs.declared.refusals.Part.TheVariants.{Length, Types, Battery, HalfHour, Closing}

-- an offence of the battery among the next so many words
abbrev InBattery : ℕ → Part → ℕ → Type 0
InBattery count part on = (part ≡ Battery) × (on < count)

field_takes : (f least most : ℕ) → Takes (λ v. battery_word f v ∷ []) (λ v. (least ≤ v) × (v ≤ most)) (InBattery 1) (field f least most)
field_takes f least most =
    takes_as (λ v. battery_word f v ∷ []) (λ v. (least ≤ v) × (v ≤ most)) (InBattery 1) (λ (v : ℕ). v) (one_takes Battery (battery_word f 0) least most)
    (λ v h. ap (λ (x : ℕ). x ∷ []) (omega arith)) (λ v h. h) (λ part n s. (s.0, omega (arith, s.1)))

-- a battery word, and so many behind it
field_then :
    {B : Type 0} {words : ℕ → B → List ℕ} {Within : ℕ → B → Type 0} {second : ℕ → (B → Reader) → Reader} (f least most count : ℕ)
    → ((a : ℕ) → (least ≤ a) × (a ≤ most) → Takes (words a) (Within a) (InBattery count) (second a))
    → Takes {A = ℕ × B} (λ v. battery_word f v.0 ∷ words v.0 v.1) (λ v. ((least ≤ v.0) × (v.0 ≤ most)) × Within v.0 v.1) (InBattery (suc count)) (λ next. field f least most (λ a. second a (λ b. next (a, b))))
field_then f least most count then =
    takes_both (InBattery (suc count)) (field_takes f least most) then (λ part n s. (s.0, omega (arith, s.1))) (λ v part n h s. (s.0, omega (arith, s.1)))

rating_takes : Takes rating_words Rated (InBattery 5) rating
rating_takes =
    takes_as rating_words Rated (InBattery 5)
    (λ (v : ℕ × (ℕ × (ℕ × (ℕ × ℕ)))). record { lowest = v.0; highest = v.1.0; most = v.1.1.0; charging = v.1.1.1.0; discharging = v.1.1.1.1 })
    (field_then 0 0 most_charge 4 (λ lowest h. field_then 1 lowest most_charge 3 (λ highest h. field_then 2 0 most_moved 2 (λ most h. field_then 3 1 whole 1 (λ charging h. field_takes 4 1 whole)))))
    (λ v h. refl)
    (λ v h. record {
      ordered = h.1.0.0;
      small = h.1.0.1;
      slow = h.1.1.0.1;
      charges = h.1.1.1.0.0;
      stores = h.1.1.1.0.1;
      discharges = h.1.1.1.1.0;
      yields = h.1.1.1.1.1;
    })
    (λ part n s. s)

-- the part that an offence before the closing word is of, by its place
abbrev pub Early : Part → ℕ → Type 0
Early Length on = on ≡ 0
Early Types on = on ≡ 1
Early Battery on = (2 ≤ on) × (on < 7)
Early HalfHour on = 7 ≤ on
Early Closing on = ⊥

early : (own part : Part) (m n : ℕ) → part ≡ own → m ≡ n → Early own m → Early part n
early own part m n p e h = subst (λ (x : Part). Early x n) (sym p) (subst (Early own) e h)

-- a page, with the number of its half-hours in front
abbrev page_of : ℕ × (ℕ × (Rating × List Entry)) → Page
page_of v = record { types = v.1.0; rating = v.1.1.0; entries = v.1.1.1 }

abbrev pub before_closing : (Page → Reader) → Reader
before_closing next =
    one Length (word half_hours_kind 0) 1 most_half_hours
    (λ t. one Types (word types_kind 0) 1 most_types
    (λ k. rating (λ b. entries t k (λ es. next (record { types = k; rating = b; entries = es })))))

pub page_takes : Takes body WithinLimits Early before_closing
page_takes =
    takes_as body WithinLimits Early page_of
    (takes_both Early (one_takes Length (word half_hours_kind 0) 1 most_half_hours)
    (λ t h. takes_both (λ part n. Early part (1 + n)) (one_takes Types (word types_kind 0) 1 most_types)
    (λ k h'. takes_both (λ part n. Early part (2 + n)) rating_takes (λ b h''. entries_takes t k h.0)
    (λ part n s. early Battery part (2 + n) (2 + n) s.0 refl (omega (arith, s.1)))
    (λ b part n h'' s. early HalfHour part (7 + n) (2 + (5 + n)) s (omega arith) (omega arith)))
    (λ part n s. early Types part 1 (1 + n) s.0 (omega (arith, s.1)) refl)
    (λ k part n h' s. subst (Early part) (omega arith) s))
    (λ part n s. early Length part 0 n s.0 (omega (arith, s.1)) refl)
    (λ t part n h s. s))
    (λ v h. ap (λ (n : ℕ). word half_hours_kind n ∷ word types_kind v.1.0 ∷ (rating_words v.1.1.0 ++ entries_words v.1.1.1)) (sym h.1.1.1.as_many))
    (λ v h. record {
      some_half_hours = omega (arith, h.0, h.1.1.1.as_many);
      few_half_hours = omega (arith, h.0, h.1.1.1.as_many);
      some_types = h.1.0.0;
      few_types = h.1.0.1;
      rated = h.1.1.0;
      entries_within = h.1.1.1.each_within;
      first_given = h.1.1.1.both_given;
    })
    (λ part n s. s)
