-- Rows are written one after another, behind a head. They may be of any type that has a text.
use Rattle.std.proofs.Common.{◌≡◌, ℕ, ◌+◌, ◌<◌, ◌≤◌, List, [], ◌∷◌, ◌++◌, length, take, get_or, sym, ap, ◌∙◌, subst}
use Rattle.std.proofs.lemmas.Grind.{put_two}
use Rattle.std.proofs.lemmas.List.{append-nil, append_assoc, flat_map_more, take_all, take_more}
use Rattle.std.specs.Fmt.{HasWritten}
use Rattle.std.specs.List.{flat_map}
use Rattle.std.specs.declared.fmt.Formatter.{Formatter}

-- the head, and the first i rows
abbrev pub so_far : {R : Type 0} → (R → List ℕ) → List ℕ → List R → ℕ → List ℕ
so_far text head rows i = head ++ flat_map text (take i rows)

pub none_yet :
    {W R : Type 0} (text : R → List ℕ) (took : W → List ℕ → W → Type 0) (f g : Formatter W) (head : List ℕ) (rows : List R)
    → HasWritten took f head g
    → HasWritten took f (so_far text head rows 0) g
none_yet text took f g head rows written = subst (λ bs. HasWritten took f bs g) (sym (append-nil head)) written

pub row_written :
    {W R : Type 0} (text : R → List ℕ) (took : W → List ℕ → W → Type 0) (f g h : Formatter W) (head : List ℕ) (rows : List R) (i : ℕ) (row d : R)
    → i < length rows
    → row ≡ get_or rows i d
    → HasWritten took f (so_far text head rows i) g
    → HasWritten took g (text row) h
    → HasWritten took f (so_far text head rows (i + 1)) h
row_written text took f g h head rows i row d there is before written =
    let next : take i rows ++ row ∷ [] ≡ take (i + 1) rows = ap (λ r. take i rows ++ r ∷ []) is ∙ sym (take_more rows i d there) in
    put_two took f g h (so_far text head rows i) (text row) _ before written
    (flat_map_more text head (take i rows) row ∙ ap (λ rs. head ++ flat_map text rs) next)

-- with no row left, the head and all rows are written
pub rows_written :
    {W R : Type 0} (text : R → List ℕ) (took : W → List ℕ → W → Type 0) (f g : Formatter W) (head : List ℕ) (rows : List R) (i : ℕ)
    → length rows ≤ i
    → HasWritten took f (so_far text head rows i) g
    → HasWritten took f (head ++ flat_map text rows) g
rows_written text took f g head rows i end written =
    subst (λ rs. HasWritten took f (head ++ flat_map text rs) g) (take_all i rows end) written

-- and what is written behind them
pub all_written :
    {W R : Type 0} (text : R → List ℕ) (took : W → List ℕ → W → Type 0) (f g h : Formatter W) (head foot : List ℕ) (rows : List R) (i : ℕ)
    → length rows ≤ i
    → HasWritten took f (so_far text head rows i) g
    → HasWritten took g foot h
    → HasWritten took f (head ++ (flat_map text rows ++ foot)) h
all_written text took f g h head foot rows i end before written =
    put_two took f g h (head ++ flat_map text rows) foot _ (rows_written text took f g head rows i end before) written
    (append_assoc head (flat_map text rows) foot)
