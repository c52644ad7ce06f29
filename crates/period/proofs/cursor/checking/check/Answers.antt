use Rattle.std.proofs.Common.{◌≡◌, ℕ, ◌-◌, List, ◌∷◌, Ok, Err, Result, ◌∙◌}
use Rattle.period.specs.Along.{Checked, Closes, from}
use Rattle.period.specs.Limits.{most_types}
use Rattle.period.specs.Pages.{Page}
use Rattle.period.specs.Reader.{one, rating, entries, later, close, read, period}
use Rattle.period.specs.Words.{word, types_kind}
use Rattle.period.specs.declared.cursor.Cursor.{Cursor}
use Rattle.period.specs.declared.refusals.Part.TheVariants.{Types}
use Rattle.period.specs.declared.refusals.PeriodRefusal.{PeriodRefusal}
use Rattle.period.proofs.cursor.checking.check.Goals as goal

-- the closing word decides, after all else was read
closed : (ws : List ℕ) (at : Cursor) (p : Page) (r : Result (Unit {0}) PeriodRefusal) → read ws ≡ from (close p) at → Closes at r → Checked ws r
closed ws at p (Ok done) reached closes = (p, reached ∙ closes p)
closed ws at p (Err e) reached closes = reached ∙ closes p

pub returns : goal.returns
returns c =
    let t : ℕ = c.in_ok-half_hours.half_hours in
    let k : ℕ = c.in_ok-types.types in
    let b = c.in_ok-rating.ensures in
    let e = c.in_ok-first_half_hour.ensures in
    let es = c.in_ok-later.ensures in
    let start : read c.args.words.now ≡ from period c.over-cursor.result = rw (c.over-cursor.ensures.words_are, c.over-cursor.ensures.place_is) in
    closed c.args.words.now c.later.new.self (record { types = k; rating = b.0; entries = e.0 ∷ es.0 }) c.close.result
    (cc (
      start,
      c.in_ok-half_hours.ensures.reads (λ t. one Types (word types_kind 0) 1 most_types (λ k. rating (λ b. entries t k (λ es. close (record { types = k; rating = b; entries = es }))))),
      c.in_ok-types.ensures.reads (λ k. rating (λ b. entries t k (λ es. close (record { types = k; rating = b; entries = es })))),
      b.1 (λ b. entries t k (λ es. close (record { types = k; rating = b; entries = es }))),
      e.1 (λ e. later (t - 1) k (λ es. close (record { types = k; rating = b.0; entries = e ∷ es }))),
      es.1 (λ es. close (record { types = k; rating = b.0; entries = e.0 ∷ es })),
    ))
    c.close.ensures
