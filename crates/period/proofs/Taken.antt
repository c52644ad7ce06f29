-- What a reader of one part of a page does with any words: either they begin with the words of a value of that part, and what is read next goes on behind
-- these, or it refuses by itself.
use Rattle.std.proofs.Common.{◌≡◌, ℕ, ◌+◌, ◌-◌, ◌≤◌, true, ◌⊎◌, List, [], ◌∷◌, ◌++◌, length, Result, sym, refl, ap, ◌∙◌, inl, inr, append_assoc, add-zero, arith, length-append}
use Rattle.std.proofs.lemmas.Bool.{cond-true, cond-false, cases_Bool}
use Rattle.period.proofs.OneWord.{between_gives}
use Rattle.period.specs.Pages.{Page}
use Rattle.period.specs.Reader.{Reader, offends, between, one}
use Rattle.period.specs.declared.refusals.Part.{Part}
use Rattle.period.specs.declared.refusals.PeriodRefusal.{PeriodRefusal}

-- the words begin with those of a value, and the result is what is read next behind them
pub record Taken {A : Type 0} (words : A → List ℕ) (Within : A → Type 0) (next : A → Reader) (ws : List ℕ) (place : ℕ) (r : Result Page PeriodRefusal) : Type 0 where
  pub value : A
  pub within : Within value
  pub rest : List ℕ
  pub begins : ws ≡ words value ++ rest
  pub goes_on : r ≡ next value rest (place + length (words value))

-- the result is an offence so many words on, of a part that can offend there
pub record Stopped (Spot : Part → ℕ → Type 0) (place : ℕ) (r : Result Page PeriodRefusal) : Type 0 where
  pub part : Part
  pub on : ℕ
  pub spot : Spot part on
  pub offence : r ≡ offends part (place + on)

-- one of the two, whatever the words are and whatever is read next
pub record Takes {A : Type 0} (words : A → List ℕ) (Within : A → Type 0) (Spot : Part → ℕ → Type 0) (reader : (A → Reader) → Reader) : Type 0 where
  pub way :
      (next : A → Reader) (ws : List ℕ) (place : ℕ)
      → Taken words Within next ws place (reader next ws place) ⊎ Stopped Spot place (reader next ws place)

-- two parts, one behind the other
pub takes_both :
    {A B : Type 0} {words : A → List ℕ} {Within : A → Type 0} {words' : A → B → List ℕ} {Within' : A → B → Type 0} {Spot Spot' : Part → ℕ → Type 0}
    {first : (A → Reader) → Reader} {second : A → (B → Reader) → Reader} (Spots : Part → ℕ → Type 0)
    → Takes words Within Spot first
    → ((a : A) → Within a → Takes (words' a) (Within' a) Spot' (second a))
    → ((part : Part) (n : ℕ) → Spot part n → Spots part n)
    → ((a : A) (part : Part) (n : ℕ) → Within a → Spot' part n → Spots part (length (words a) + n))
    → Takes {A = A × B} (λ v. words v.0 ++ words' v.0 v.1) (λ v. Within v.0 × Within' v.0 v.1) Spots (λ next. first (λ a. second a (λ b. next (a, b))))
takes_both {A} {B} {words} {Within} {words'} {Within'} {Spot} {Spot'} {first} {second} Spots here then h k =
    record {
      way = λ next ws place.
          elim (here.way (λ a. second a (λ b. next (a, b))) ws place) [
            | inl t ↦ beyond next ws place t ((then t.value t.within).way (λ b. next (t.value, b)) t.rest (place + length (words t.value)))
            | inr s ↦ inr (record { part = s.part; on = s.on; spot = h s.part s.on s.spot; offence = s.offence })
          ];
    }
  where
    both_words : A × B → List ℕ
    both_words v = words v.0 ++ words' v.0 v.1

    BothWithin : A × B → Type 0
    BothWithin v = Within v.0 × Within' v.0 v.1

    after : (A × B → Reader) → A → Reader
    after next a = second a (λ b. next (a, b))

    beyond :
        (next : A × B → Reader) (ws : List ℕ) (place : ℕ) (t : Taken words Within (after next) ws place (first (after next) ws place))
        → Taken (words' t.value) (Within' t.value) (λ b. next (t.value, b)) t.rest (place + length (words t.value)) (after next t.value t.rest (place + length (words t.value)))
        ⊎ Stopped Spot' (place + length (words t.value)) (after next t.value t.rest (place + length (words t.value)))
        → Taken both_words BothWithin next ws place (first (after next) ws place) ⊎ Stopped Spots place (first (after next) ws place)
    beyond next ws place t (inl u) =
        inl (record {
          value = (t.value, u.value);
          within = (t.within, u.within);
          rest = u.rest;
          begins = t.begins ∙ ap (λ (x : List ℕ). words t.value ++ x) u.begins ∙ sym (append_assoc (words t.value) (words' t.value u.value) u.rest);
          goes_on = t.goes_on ∙ u.goes_on ∙ ap (next (t.value, u.value) u.rest) (omega (arith, length-append (words t.value) (words' t.value u.value)));
        })
    beyond next ws place t (inr s) =
        inr (record {
          part = s.part;
          on = length (words t.value) + s.on;
          spot = k t.value s.part s.on t.within s.spot;
          offence = t.goes_on ∙ s.offence ∙ ap (offends s.part) (omega arith);
        })

-- the same values under another name, and the same offences
pub takes_as :
    {A B : Type 0} {words : A → List ℕ} {Within : A → Type 0} {Spot : Part → ℕ → Type 0} {reader : (A → Reader) → Reader}
    (words' : B → List ℕ) (Within' : B → Type 0) (Spot' : Part → ℕ → Type 0) (name : A → B)
    → Takes words Within Spot reader
    → ((a : A) → Within a → words a ≡ words' (name a))
    → ((a : A) → Within a → Within' (name a))
    → ((part : Part) (n : ℕ) → Spot part n → Spot' part n)
    → Takes words' Within' Spot' (λ next. reader (λ a. next (name a)))
takes_as {A} {B} {words} {Within} {Spot} {reader} words' Within' Spot' name takes same kept wider =
    record {
      way = λ next ws place.
          elim (takes.way (λ a. next (name a)) ws place) [
            | inl t ↦ inl (record {
              value = name t.value;
              within = kept t.value t.within;
              rest = t.rest;
              begins = t.begins ∙ ap (λ (x : List ℕ). x ++ t.rest) (same t.value t.within);
              goes_on = t.goes_on ∙ ap (λ (x : List ℕ). next (name t.value) t.rest (place + length x)) (same t.value t.within);
            })
            | inr s ↦ inr (record { part = s.part; on = s.on; spot = wider s.part s.on s.spot; offence = s.offence })
          ];
    }

-- the part offends at its first word
abbrev pub AtOnce : Part → Part → ℕ → Type 0
AtOnce own part on = (part ≡ own) × (on ≡ 0)

pub one_takes :
    (own : Part) (base least most : ℕ) → Takes (λ v. (base + v) ∷ []) (λ v. (least ≤ v) × (v ≤ most)) (AtOnce own) (one own base least most)
one_takes own base least most = record { way = way }
  where
    refuses : (r : Result Page PeriodRefusal) (place : ℕ) → r ≡ offends own place → Stopped (AtOnce own) place r
    refuses r place e = record { part = own; on = 0; spot = (refl, refl); offence = e ∙ ap (offends own) (sym (add-zero place)) }

    takes :
        (next : ℕ → Reader) (w : ℕ) (ws : List ℕ) (place : ℕ) → between (base + least) (base + most) w ≡ true → (base + least ≤ w) × (w ≤ base + most)
        → Taken (λ v. (base + v) ∷ []) (λ v. (least ≤ v) × (v ≤ most)) next (w ∷ ws) place (one own base least most next (w ∷ ws) place)
    takes next w ws place t h =
        record {
          value = w - base;
          within = omega arith;
          rest = ws;
          begins = ap (λ (x : ℕ). x ∷ ws) (omega arith);
          goes_on = cond-true (between (base + least) (base + most) w) _ _ t;
        }

    way :
        (next : ℕ → Reader) (ws : List ℕ) (place : ℕ)
        → Taken (λ v. (base + v) ∷ []) (λ v. (least ≤ v) × (v ≤ most)) next ws place (one own base least most next ws place)
        ⊎ Stopped (AtOnce own) place (one own base least most next ws place)
    way next [] place = inr (refuses (offends own place) place refl)
    way next (w ∷ ws) place =
        elim (cases_Bool (between (base + least) (base + most) w)) [
          | inl t ↦ inl (takes next w ws place t (between_gives (base + least) (base + most) w t))
          | inr t ↦ inr (refuses (one own base least most next (w ∷ ws) place) place (cond-false (between (base + least) (base + most) w) _ _ t))
        ]
