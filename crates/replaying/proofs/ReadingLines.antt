-- The lines of an input are read one after another.
use Rattle.std.proofs.Common.{◌≡◌, ℕ, ◌+◌, ◌<◌, List, [], ◌∷◌, ◌++◌, length, take, get_or, sym, ap, ◌∙◌, subst}
use Rattle.std.proofs.lemmas.List.{map_push, take_more, get_or-map, length-map}
use Rattle.std.proofs.lemmas.List.Elements.{All-push}
use Rattle.std.specs.Borrow.{Bor}
use Rattle.ledger_lines.specs.Lines.{seen}
use Rattle.replaying.specs.Ledgers.{ReadAs}
use Rattle.replaying.specs.Reading.{AllRead}
use Rattle.replaying.specs.declared.entries.Entry.{Entry}

-- one line more is read
pub one_more :
    (lines : List (Bor (List ℕ))) (entries : List Entry) (i : ℕ) (d : Bor (List ℕ)) (e : Entry)
    → i < length lines
    → (e.text.now ≡ (get_or lines i d).now) × ReadAs (get_or lines i d).now e.line
    → AllRead (take i (seen lines)) entries
    → AllRead (take (i + 1) (seen lines)) (entries ++ e ∷ [])
one_more lines entries i d e there read so_far =
    let text : e.text.now ≡ get_or (seen lines) i [] = read.0 ∙ sym (get_or-map (λ w. w.now) lines i d [] there) in
    let below : i < length (seen lines) = subst (λ n. i < n) (sym (length-map lines (λ w. w.now))) there in (
      map_push (λ e. e.text.now) entries e ∙ ap (λ ls. ls ++ e.text.now ∷ []) so_far.0 ∙ ap (λ l. take i (seen lines) ++ l ∷ []) text
          ∙ sym (take_more (seen lines) i [] below),
      All-push (λ e. ReadAs e.text.now e.line) entries e so_far.1 (subst (λ text. ReadAs text e.line) (sym read.0) read.1),
    )
