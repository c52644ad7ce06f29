-- Filling a period: what it holds afterwards, and what a refusal says.
use Rattle.std.specs.Prelude.{◌≡◌, ℕ, List, [], ◌∷◌, Some, Ok, Err, Result}
use Rattle.period.specs.Offences.{Refused}
use Rattle.period.specs.Pages.{Page, Writes}
use Rattle.period.specs.Reader.{page_of}
use Rattle.period.specs.declared.period.Period.{Period}
use Rattle.period.specs.declared.refusals.PeriodRefusal.{PeriodRefusal}

-- the page that a period's words write down
abbrev pub page : Period → Page
page p = page_of p.words.now

-- the period to begin with: one half-hour, one type, a battery that holds nothing, and nothing costs or earns anything
abbrev pub first_page : Page
first_page =
    record {
      types = 1;
      rating = record { lowest = 0; highest = 0; most = 0; charging = 1; discharging = 1 };
      entries = record { import = Some 0; export = Some 0; demands = 0 ∷ []; generation = 0 } ∷ [];
    }

-- and its words
abbrev pub first_words : List ℕ
first_words =
    0x10000001 ∷ 0x20000001 ∷ 0x30000000 ∷ 0x31000000 ∷ 0x32000000 ∷ 0x33000001 ∷ 0x34000001 ∷ 0x40000000 ∷ 0x50000000 ∷ 0x60000000 ∷ 0x70000000 ∷ 0xF000000B ∷ []

-- filled, it holds the words, which write its page down and no other; refused, it is as it was, and the first offending word is named
abbrev pub Filled : List ℕ → Period → Result (Unit {0}) PeriodRefusal → Period → Type 0
Filled ws old (Ok done) new = (new.words.now ≡ ws) × Writes (page new) ws × ((p : Page) → Writes p ws → page new ≡ p)
Filled ws old (Err e) new = (new ≡ old) × Refused ws e
