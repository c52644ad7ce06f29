use Rattle.std.proofs.Common.{refl, ap, ◌∙◌, sym, Some, inr, rules}
use Rattle.call_list.proofs.notes.Notes.definition.Goals as goal

pub returns-in_err-peak_rule-in-Peak : goal.returns-in_err-peak_rule-in-Peak
returns-in_err-peak_rule-in-Peak c = rw (c.in-Peak.is, c.from_residual-in_err-peak_rule-in-Peak.ensures) (inr (search rules))

pub returns-in_ok-listed_rule-in-Listed : goal.returns-in_ok-listed_rule-in-Listed
returns-in_ok-listed_rule-in-Listed c = rw (c.in-Listed.is) (c.in_ok-listed_rule-in-Listed.field-0, refl, c.in_ok-listed_rule-in-Listed.ensures)

pub returns-in_ok-ok-in-Head : goal.returns-in_ok-ok-in-Head
returns-in_ok-ok-in-Head c = rw (c.in-Head.is) (c.in_ok-ok-in-Head.field-0, refl, search rules)

pub returns-in_ok-period_at-in-Grid : goal.returns-in_ok-period_at-in-Grid
returns-in_ok-period_at-in-Grid c = rw (c.in-Grid.is) (c.on.result, refl, sym c.period_at.ensures ∙ c.in_ok-period_at-in-Grid.was ∙ ap Some (sym c.on.ensures.holds))

pub returns-in_ok-peak_rule-in-Peak : goal.returns-in_ok-peak_rule-in-Peak
returns-in_ok-peak_rule-in-Peak c = rw (c.in-Peak.is) (c.in_ok-peak_rule-in-Peak.field-0, refl, c.in_ok-period-in-Peak.period, sym c.period_at-in-Peak.ensures ∙ c.in_ok-period-in-Peak.was, search rules)
