-- How what is read along adds up.
use Rattle.std.proofs.Common.{◌≡◌, ℕ, suc, ◌+◌, ◌-◌, ◌<◌, ◌≤◌, List, [], ◌∷◌, Ok, Err, Result, refl, ◌∙◌, subst, arith}
use Rattle.period.specs.Along.{from, Hands, Refuses, Passes}
use Rattle.period.specs.Reader.{Reader, times}
use Rattle.period.specs.declared.cursor.Cursor.{Cursor}
use Rattle.period.specs.declared.refusals.PeriodRefusal.{PeriodRefusal}

-- what is read last answers for all of which it is the last part
pub last_answers :
    {A B : Type 0} (last : (A → Reader) → Reader) (all : (B → Reader) → Reader) (whole : A → B) (old at new : Cursor) (r : Result (Unit {0}) PeriodRefusal)
    → ((next : B → Reader) → from (all next) old ≡ from (last (λ v. next (whole v))) at)
    → Passes last at r new
    → Passes all old r new
last_answers last all whole old at new (Ok done) reached passes = (whole passes.0, λ next. reached next ∙ passes.1 (λ v. next (whole v)))
last_answers last all whole old at new (Err e) reached refuses = λ next. reached next ∙ refuses (λ v. next (whole v))

-- of so many in a row some were read, and so many are left: what was read stands before what is read still
abbrev pub SoFar : {A : Type 0} → ((A → Reader) → Reader) → ℕ → Cursor → ℕ → Cursor → Type 0
SoFar {A} each all old left at =
    (before : List A → List A) × ((next : List A → Reader) → from (times each all next) old ≡ from (times each left (λ vs. next (before vs))) at)

pub none_yet : {A : Type 0} (each : (A → Reader) → Reader) (all : ℕ) (at : Cursor) → SoFar each all at (all - 0) at
none_yet {A} each all at =
    let left : all ≡ all - 0 = omega arith in
    subst (λ n. SoFar each all at n at) left ((λ vs. vs), λ next. refl)

pub one_more :
    {A : Type 0} (each : (A → Reader) → Reader) (all done : ℕ) (old at new : Cursor) (v : A)
    → done < all
    → SoFar each all old (all - done) at
    → Hands each at v new
    → SoFar each all old (all - (done + 1)) new
one_more {A} each all done old at new v within sofar hands =
    let left : all - done ≡ suc (all - (done + 1)) = omega (arith, within) in
    let sofar' : SoFar each all old (suc (all - (done + 1))) at = subst (λ n. SoFar each all old n at) left sofar in
    ((λ vs. sofar'.0 (v ∷ vs)), λ next. sofar'.1 next ∙ hands (λ v. times each (all - (done + 1)) (λ vs. next (sofar'.0 (v ∷ vs)))))

pub one_refused :
    {A : Type 0} (each : (A → Reader) → Reader) (all done : ℕ) (old at : Cursor) (e : PeriodRefusal)
    → done < all
    → SoFar each all old (all - done) at
    → Refuses each at e
    → Refuses (times each all) old e
one_refused {A} each all done old at e within sofar refuses =
    let left : all - done ≡ suc (all - (done + 1)) = omega (arith, within) in
    let sofar' : SoFar each all old (suc (all - (done + 1))) at = subst (λ n. SoFar each all old n at) left sofar in
    λ next. sofar'.1 next ∙ refuses (λ v. times each (all - (done + 1)) (λ vs. next (sofar'.0 (v ∷ vs))))

pub all_read :
    {A : Type 0} (each : (A → Reader) → Reader) (all done : ℕ) (old at : Cursor)
    → all ≤ done
    → SoFar each all old (all - done) at
    → (vs : List A) × Hands (times each all) old vs at
all_read {A} each all done old at end sofar =
    let left : all - done ≡ 0 = omega (arith, end) in
    let sofar' : SoFar each all old 0 at = subst (λ n. SoFar each all old n at) left sofar in
    (sofar'.0 [], sofar'.1)
