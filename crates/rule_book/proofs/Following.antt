-- What rules mean where more of them follow.
use Rattle.std.proofs.Common.{◌≡◌, ℕ, ◌+◌, ◌<◌, List, [], ◌∷◌, ◌++◌, length, take, drop, Some, ℤ, Result, get_or, refl, sym, ap, subst, ◌∙◌, inl, inr, suc, arith}
use Rattle.std.proofs.Math.Nat.{lt_of_not-le}
use Rattle.std.proofs.Math.Seq.{get_or-append_seam, split_at}
use Rattle.std.proofs.lemmas.List.{get_or_append_left, length_push, length-take-le}
use Rattle.std.proofs.lemmas.Option.{get_or_from_slice_get, slice_get-get_or, slice_get_within}
use Rattle.std.specs.Prelude.{slice_get}
use Rattle.cost_rules.specs.Meanings.{Meaning}
use Rattle.cost_rules.specs.Sums.{both}
use Rattle.cost_rules.specs.declared.fault.Fault.{Fault}
use Rattle.rule_book.specs.Added.{Follows}
use Rattle.rule_book.specs.Meanings.{meaning_of, costless, numbered, continued, meanings, means, AsDefined}
use Rattle.rule_book.specs.Ordered.{NamesLater, Ordered}
use Rattle.rule_book.specs.declared.definition.Definition.{Definition}
use Rattle.rule_book.specs.declared.definition.Definition.TheVariants.{Listed, Head, Grid, Peak, Sum}

-- ---- lists of meanings

-- what stands already keeps its place
continued_keeps : (fs : List Meaning) (ds : List Definition) (i : ℕ) → i < length fs → numbered (continued fs ds) i ≡ numbered fs i
continued_keeps fs [] i below = refl
continued_keeps fs (d ∷ ds) i below =
    let new = meaning_of (numbered fs) d in
    let longer = length_push fs new in
    continued_keeps (fs ++ new ∷ []) ds i (omega (arith, longer, below)) ∙ get_or_append_left fs (new ∷ []) costless i below

continued_append : (fs : List Meaning) (ds es : List Definition) → continued fs (ds ++ es) ≡ continued (continued fs ds) es
continued_append fs [] es = refl
continued_append fs (d ∷ ds) es = continued_append (fs ++ meaning_of (numbered fs) d ∷ []) ds es

continued_length : (fs : List Meaning) (ds : List Definition) → length (continued fs ds) ≡ length fs + length ds
continued_length fs [] = omega arith
continued_length fs (d ∷ ds) =
    let new = meaning_of (numbered fs) d in
    omega (arith, length_push fs new, continued_length (fs ++ new ∷ []) ds)

-- ---- a definition among others

-- the numbers that a definition names
parts_earlier : (rules left right : ℕ) → (NamesLater rules (Sum left right) → ⊥) → (left < rules) × (right < rules)
parts_earlier rules left right earlier = (lt_of_not-le (λ h. earlier (inl h)), lt_of_not-le (λ h. earlier (inr h)))

-- a definition means the same where the earlier rules do
same_parts : (by to : ℕ → Meaning) (rules : ℕ) (d : Definition) → (NamesLater rules d → ⊥) → ((k : ℕ) → k < rules → by k ≡ to k) → meaning_of by d ≡ meaning_of to d
same_parts by to rules (Listed r) earlier same = refl
same_parts by to rules (Head r) earlier same = refl
same_parts by to rules (Grid r) earlier same = refl
same_parts by to rules (Peak r) earlier same = refl
same_parts by to rules (Sum left right) earlier same =
    let below = parts_earlier rules left right earlier in
    rw (same left below.0, same right below.1) refl

-- those before it keep their meanings
older_kept : (xs : List Definition) (d : Definition) (ys : List Definition) (k : ℕ) → k < length xs → means (xs ++ d ∷ ys) k ≡ means xs k
older_kept xs d ys k below =
    let long = continued_length [] xs in
    ap (λ fs. numbered fs k) (continued_append [] xs (d ∷ ys)) ∙ continued_keeps (meanings xs) (d ∷ ys) k (omega (arith, long, below))

-- it means what it says out of those
newest_meant : (xs : List Definition) (d : Definition) (ys : List Definition) → means (xs ++ d ∷ ys) (length xs) ≡ meaning_of (means xs) d
newest_meant xs d ys =
    let fs = meanings xs in
    let new = meaning_of (means xs) d in
    let long : length fs ≡ length xs = omega (arith, continued_length [] xs) in
    let longer = length_push fs new in
    ap (λ gs. numbered gs (length xs)) (continued_append [] xs (d ∷ ys))
    ∙ continued_keeps (fs ++ new ∷ []) ys (length xs) (omega (arith, long, longer))
    ∙ ap (numbered (fs ++ new ∷ [])) (sym long)
    ∙ get_or-append_seam fs new [] costless

-- and so out of all
seam_meant : (xs : List Definition) (d : Definition) (ys : List Definition) → (NamesLater (length xs) d → ⊥) → means (xs ++ d ∷ ys) (length xs) ≡ meaning_of (means (xs ++ d ∷ ys)) d
seam_meant xs d ys earlier =
    newest_meant xs d ys ∙ same_parts (means xs) (means (xs ++ d ∷ ys)) (length xs) d earlier (λ k below. sym (older_kept xs d ys k below))

-- ---- what the contracts promise

pub as_defined : (ds : List Definition) → Ordered ds → AsDefined ds
as_defined ds ordered i d found =
    let within = slice_get_within ds i d found in
    let cut : ds ≡ take i ds ++ d ∷ drop (suc i) ds = split_at ds i d within ∙ ap (λ e. take i ds ++ e ∷ drop (suc i) ds) (get_or_from_slice_get ds i d d found) in
    let place : length (take i ds) ≡ i = length-take-le i ds (omega (arith, within)) in
    let P : ℕ → Type 0 = λ k. (NamesLater k d → ⊥) → means (take i ds ++ d ∷ drop (suc i) ds) k ≡ meaning_of (means (take i ds ++ d ∷ drop (suc i) ds)) d in
    let Q : List Definition → Type 0 = λ es. means es i ≡ meaning_of (means es) d in
    subst Q (sym cut) (subst P place (seam_meant (take i ds) d (drop (suc i) ds)) (ordered i d found))

pub follows : (old new : List Definition) (d : Definition) → new ≡ old ++ d ∷ [] → Follows old d new
follows old new d behind =
    let P : List Definition → Type 0 = λ es. Follows old d es in
    subst P (sym behind) (record { behind_all = refl; older_keep = older_kept old d []; newest_means = newest_meant old d [] })

-- ---- the definition under a number, as the code reads it

-- it is this one
read_there : (ds : List Definition) (i : ℕ) (d e : Definition) → i < length ds → d ≡ get_or ds i d → d ≡ e → slice_get ds i ≡ Some e
read_there ds i d e below read is = slice_get-get_or ds i d below ∙ ap Some (sym read ∙ is)

-- what it says is what the rule means
told_by :
    (ds : List Definition) (i : ℕ) (d e : Definition) (n : List ℕ) (told : Result ℤ Fault)
    → Ordered ds
    → i < length ds
    → d ≡ get_or ds i d
    → d ≡ e
    → told ≡ meaning_of (means ds) e n
    → told ≡ means ds i n
told_by ds i d e n told ordered below read is says = says ∙ ap (λ f. f n) (sym (as_defined ds ordered i e (read_there ds i d e below read is)))

-- a definition that is no sum means the same whatever the rules do
means_alone : (by to : ℕ → Meaning) (d : Definition) → ((left right : ℕ) → d ≡ Sum left right → ⊥) → meaning_of by d ≡ meaning_of to d
means_alone by to (Listed r) alone = refl
means_alone by to (Head r) alone = refl
means_alone by to (Grid r) alone = refl
means_alone by to (Peak r) alone = refl
means_alone by to (Sum left right) alone = absurd (alone left right refl)

-- so what it costs by itself is what the rule means
pub told_alone :
    (ds : List Definition) (i : ℕ) (d : Definition) (n : List ℕ) (told : Result ℤ Fault)
    → Ordered ds
    → i < length ds
    → d ≡ get_or ds i d
    → ((left right : ℕ) → d ≡ Sum left right → ⊥)
    → told ≡ meaning_of (λ k. costless) d n
    → told ≡ means ds i n
told_alone ds i d n told ordered below read alone says =
    told_by ds i d d n told ordered below read refl (says ∙ ap (λ f. f n) (means_alone (λ k. costless) (means ds) d alone))

-- so is what a sum makes of its parts
pub told_by_both :
    (ds : List Definition) (i : ℕ) (d : Definition) (left right : ℕ) (n : List ℕ) (one other told : Result ℤ Fault)
    → Ordered ds
    → i < length ds
    → d ≡ get_or ds i d
    → d ≡ Sum left right
    → one ≡ means ds left n
    → other ≡ means ds right n
    → told ≡ both one other
    → told ≡ means ds i n
told_by_both ds i d left right n one other told ordered below read is p q says =
    told_by ds i d (Sum left right) n told ordered below read is (says ∙ ap (λ a. both a other) p ∙ ap (both (means ds left n)) q)

-- and those parts are earlier rules
pub parts_below :
    (ds : List Definition) (i : ℕ) (d : Definition) (left right : ℕ)
    → Ordered ds
    → i < length ds
    → d ≡ get_or ds i d
    → d ≡ Sum left right
    → (left < i) × (right < i)
parts_below ds i d left right ordered below read is = parts_earlier i left right (ordered i (Sum left right) (read_there ds i d (Sum left right) below read is))
