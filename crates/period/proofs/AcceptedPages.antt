-- The page of an accepted period, and what its first words are.
use Rattle.std.proofs.Common.{◌≡◌, ℕ, ◌+◌, ◌≤◌, true, List, [], ◌∷◌, length, get_or, drop, is_ok, Ok, Err, Result, refl, ap, subst, ◌∙◌, arith}
use Rattle.period.proofs.Completeness.{read_written}
use Rattle.period.proofs.Soundness.{written_read}
use Rattle.period.proofs.PagesRead.{entries_read}
use Rattle.period.specs.Labels.{field_number, field_in}
use Rattle.period.specs.declared.kinds.Field.{Field}
use Rattle.period.specs.declared.kinds.Field.TheVariants.{Lowest, Highest, Most, Charging, Discharging}
use Rattle.period.specs.InForce.{readings, no_tariffs}
use Rattle.period.specs.Pages.{Page, WithinLimits, Writes, Says, body, written}
use Rattle.period.specs.Reader.{read, accepts, page_or, page_of}
use Rattle.period.specs.Unread.{unread}
use Rattle.period.specs.Words.{value_of, field_value_of, word, closing_kind}
use Rattle.period.specs.declared.refusals.PeriodRefusal.{PeriodRefusal}

-- accepted words write their page down
pub accepted_writes : (ws : List ℕ) → accepts ws ≡ true → Writes (page_of ws) ws
accepted_writes ws ok = go (read ws) refl ok
  where
    go : (r : Result Page PeriodRefusal) → read ws ≡ r → is_ok r ≡ true → Writes (page_or r) ws
    go (Ok p) e taken = written_read p ws e
    go (Err x) e taken = cc

-- and no other
pub only_page : (ws : List ℕ) (p : Page) → Writes p ws → page_of ws ≡ p
only_page ws p w = ap page_or (read_written p ws w)

-- so what holds of that page is what they say
pub says : (ws : List ℕ) → accepts ws ≡ true → (P : Page → Type 0) → P (page_of ws) → Says ws P
says ws ok P holds = record { a_page = (page_of ws, accepted_writes ws ok); of_each = λ p w. subst P (only_page ws p w) holds }

-- ---- the words before the first half-hour

-- what an accepted period's first words say, and what is left behind them
pub record Begins (p : Page) (ws : List ℕ) : Type 0 where
  pub within : WithinLimits p
  pub long : 7 ≤ length ws
  pub half_hours : value_of (get_or ws 0 0) ≡ length p.entries
  pub types : value_of (get_or ws 1 0) ≡ p.types
  pub rating : (f : Field) (i : ℕ) → i ≡ field_number f → field_value_of (get_or ws (2 + i) 0) ≡ field_in f p.rating
  pub readings : unread (length p.entries) p.types no_tariffs (drop 7 ws) ≡ readings p

pub begins : (ws : List ℕ) → accepts ws ≡ true → Begins (page_of ws) ws
begins ws ok = go (page_of ws) (accepted_writes ws ok)
  where
    go : (p : Page) → Writes p ws → Begins p ws
    go p w =
        let l = w.within in
        let at : (i : ℕ) → get_or ws i 0 ≡ get_or (written p) i 0 = λ i. ap (λ vs. get_or vs i 0) w.as_written in
        let told : (f : Field) → field_value_of (get_or ws (2 + field_number f) 0) ≡ field_in f p.rating =
        λ f. elim f as (λ f. field_value_of (get_or ws (2 + field_number f) 0) ≡ field_in f p.rating) [
          | Lowest ↦ omega (arith, at 2, l.rated.ordered, l.rated.small)
          | Highest ↦ omega (arith, at 3, l.rated.small)
          | Most ↦ omega (arith, at 4, l.rated.slow)
          | Charging ↦ omega (arith, at 5, l.rated.stores)
          | Discharging ↦ omega (arith, at 6, l.rated.yields)
        ] in
        record {
          within = l;
          long = omega (arith, ap length w.as_written);
          half_hours = omega (arith, at 0, l.few_half_hours);
          types = omega (arith, at 1, l.few_types);
          rating = λ f i e. rw e (told f);
          readings = ap (λ vs. unread (length p.entries) p.types no_tariffs (drop 7 vs)) w.as_written
              ∙ entries_read p.types no_tariffs p.entries (word closing_kind (length (body p)) ∷ []) l.entries_within;
        }
