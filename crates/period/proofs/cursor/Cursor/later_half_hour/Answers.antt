use Rattle.std.proofs.Common.{false, ◌∙◌}
use Rattle.period.proofs.ReadingAlong.{last_answers}
use Rattle.period.specs.Along.{amounts}
use Rattle.period.specs.Reader.{tariff, entry}
use Rattle.period.specs.Words.{export_kind}
use Rattle.period.proofs.cursor.Cursor.later_half_hour.Goals as goal

pub returns : goal.returns
returns c =
    let types = c.args.types in
    let i = c.take.result in
    let x = c.take-2.result in
    last_answers (amounts types) (entry false types) (λ v. record { import = i; export = x; demands = v.0; generation = v.1 })
    c.args.self.now c.take-2.new.self c.amounts.new.self c.amounts.result
    (λ next. c.take.ensures.reads (λ i. tariff false export_kind (λ x. amounts types (λ v. next (record { import = i; export = x; demands = v.0; generation = v.1 }))))
    ∙ c.take-2.ensures.reads (λ x. amounts types (λ v. next (record { import = i; export = x; demands = v.0; generation = v.1 }))))
    c.amounts.ensures
