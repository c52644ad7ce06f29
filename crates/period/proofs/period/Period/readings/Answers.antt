use Rattle.std.proofs.Common.{◌≡◌, ◌-◌, length, take, drop, arith}
use Rattle.std.proofs.lemmas.List.{take_rest}
use Rattle.period.proofs.AcceptedPages.{begins, says}
use Rattle.period.specs.Filled.{page}
use Rattle.period.specs.InForce.{readings, no_tariffs}
use Rattle.period.specs.Unread.{unread}
use Rattle.period.proofs.period.Period.readings.Goals as goal

pub invariant_of-result : goal.invariant_of-result
invariant_of-result c =
    let p = begins c.args.self.now.words.now c.args.self.now.accepted in
    record { few = omega (arith, c.types.ensures.value, p.within.few_types) }

pub returns : goal.returns
returns c =
    let words = c.args.self.now.words.now in
    let p = begins words c.args.self.now.accepted in
    let half_hours : c.value.result ≡ length (page c.args.self.now).entries = omega (arith, c.value.ensures, p.half_hours) in
    let told : unread c.value.result c.types.result no_tariffs (take (length words - 7) (drop 7 words)) ≡ readings (page c.args.self.now) =
    rw (half_hours, c.types.ensures.value, take_rest words 7) p.readings in
    record { value = told; law = says words c.args.self.now.accepted (λ q. unread c.value.result c.types.result no_tariffs (take (length words - 7) (drop 7 words)) ≡ readings q) told }
