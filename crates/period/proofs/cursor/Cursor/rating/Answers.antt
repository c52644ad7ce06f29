use Rattle.battery.specs.Ratings.{most_charge, most_moved, whole}
use Rattle.std.proofs.Common.{ℕ}
use Rattle.period.specs.Reader.{Reader, field}
use Rattle.period.proofs.cursor.Cursor.rating.Goals as goal

pub returns : goal.returns
returns c =
    let lowest : ℕ = c.in_ok-lowest.lowest in
    let highest : ℕ = c.in_ok-word.field-0 in
    let most : ℕ = c.in_ok-word-2.field-0 in
    let charging : ℕ = c.in_ok-word-3.field-0 in
    let discharging : ℕ = c.in_ok-word-4.field-0 in (
      record { lowest = lowest; highest = highest; most = most; charging = charging; discharging = discharging },
      λ next.
          let read : ℕ → ℕ → ℕ → ℕ → ℕ → Reader = λ l h m g d. next (record { lowest = l; highest = h; most = m; charging = g; discharging = d }) in
          cc (
            c.in_ok-lowest.ensures.reads (λ l. field 1 l most_charge (λ h. field 2 0 most_moved (λ m. field 3 1 whole (λ g. field 4 1 whole (λ d. read l h m g d))))),
            c.in_ok-word.ensures.reads (λ h. field 2 0 most_moved (λ m. field 3 1 whole (λ g. field 4 1 whole (λ d. read lowest h m g d)))),
            c.in_ok-word-2.ensures.reads (λ m. field 3 1 whole (λ g. field 4 1 whole (λ d. read lowest highest m g d))),
            c.in_ok-word-3.ensures.reads (λ g. field 4 1 whole (λ d. read lowest highest most g d)),
            c.in_ok-word-4.ensures.reads (λ d. read lowest highest most charging d),
          ),
    )
