use Rattle.std.proofs.Common.{true, ℕ, Some, ◌∙◌}
use Rattle.period.proofs.ReadingAlong.{last_answers}
use Rattle.period.specs.Along.{amounts}
use Rattle.period.specs.Reader.{tariff, entry}
use Rattle.period.specs.Words.{export_kind}
use Rattle.period.proofs.cursor.Cursor.first_half_hour.Goals as goal

pub returns : goal.returns
returns c =
    let types = c.args.types in
    let i : ℕ = c.in_ok-word.field-0 in
    let x : ℕ = c.in_ok-word-2.field-0 in
    last_answers (amounts types) (entry true types) (λ v. record { import = Some i; export = Some x; demands = v.0; generation = v.1 })
    c.args.self.now c.word-2.new.self c.amounts.new.self c.amounts.result
    (λ next. c.in_ok-word.ensures.reads (λ i. tariff true export_kind (λ x. amounts types (λ v. next (record { import = Some i; export = x; demands = v.0; generation = v.1 }))))
    ∙ c.in_ok-word-2.ensures.reads (λ x. amounts types (λ v. next (record { import = Some i; export = Some x; demands = v.0; generation = v.1 }))))
    c.amounts.ensures
