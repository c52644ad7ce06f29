use Rattle.std.proofs.Common.{rules, ◌≡◌, None, Some, Ok, refl, arith}
use Rattle.std.proofs.lemmas.List.{get_or-set_same}
use Rattle.cost_rules.specs.Sums.{both}
use Rattle.rule_book.proofs.Following.{parts_below, told_alone, told_by_both}
use Rattle.rule_book.proofs.Parts.{part_within, parts_fit, parts_priced}
use Rattle.rule_book.specs.Meanings.{means}
use Rattle.rule_book.proofs.book.RuleBook.+answer.Goals as goal

-- ---- an answer that is worked out is kept

pub answer-returns-clause-kept : goal.answer-returns-clause-kept
answer-returns-clause-kept t c =
    get_or-set_same c.worked_out-answer.new.known c.args.number (Some c.worked_out-answer.result) None
    (omega (arith, c.requires.there, c.args.self.now.few, c.requires.room, c.worked_out-answer.auto.known))

-- ---- a rule that asks no other

pub worked_out-returns-in_default-clause-answered : goal.worked_out-returns-in_default-clause-answered
worked_out-returns-in_default-clause-answered t c =
    told_alone c.args.self.now.definitions.items c.args.number c.index.result.now c.args.of.now.counts c.own_cost.result c.args.self.now.ordered c.requires.there c.index.ensures
    c.in_default.not-Sum c.own_cost.ensures

-- ---- the left part of a sum

pub worked_out-answer-requires : goal.worked_out-answer-requires
worked_out-answer-requires t c =
    let book = c.args.self.now in
    let below = parts_below book.definitions.items c.args.number c.index.result.now c.in-Sum.left c.in-Sum.right book.ordered c.requires.there c.index.ensures c.in-Sum.is in
    (omega (arith, c.decreases, below.0), (omega (arith, below.0, c.requires.there), (c.requires.room, c.requires.known)))

pub worked_out-returns-in_err-left-in-Sum-clause-answered : goal.worked_out-returns-in_err-left-in-Sum-clause-answered
worked_out-returns-in_err-left-in-Sum-clause-answered t c =
    let book = c.args.self.now in
    let n = c.args.of.now.counts in
    let other = means book.definitions.items c.in-Sum.right n in
    let passed : c.from_residual.result ≡ both c.answer.result other = search rules in
    told_by_both book.definitions.items c.args.number c.index.result.now c.in-Sum.left c.in-Sum.right n c.answer.result other c.from_residual.result book.ordered c.requires.there c.index.ensures c.in-Sum.is
    c.answer.ensures.answered refl passed

-- ---- the right part

pub worked_out-answer-requires-in-Sum : goal.worked_out-answer-requires-in-Sum
worked_out-answer-requires-in-Sum t c =
    let book = c.args.self.now in
    let below = parts_below book.definitions.items c.args.number c.index.result.now c.in-Sum.left c.in-Sum.right book.ordered c.requires.there c.index.ensures c.in-Sum.is in
    (omega (arith, c.decreases, below.1), (omega (arith, below.1, c.requires.there), (search rules, c.answer.ensures.known)))

pub worked_out-returns-in_err-right-in-Sum-clause-answered : goal.worked_out-returns-in_err-right-in-Sum-clause-answered
worked_out-returns-in_err-right-in-Sum-clause-answered t c =
    let book = c.args.self.now in
    let passed : c.from_residual-in_err-right-in-Sum.result ≡ both c.answer.result c.answer-in-Sum.result = search rules in
    told_by_both book.definitions.items c.args.number c.index.result.now c.in-Sum.left c.in-Sum.right c.args.of.now.counts c.answer.result c.answer-in-Sum.result c.from_residual-in_err-right-in-Sum.result
    book.ordered c.requires.there c.index.ensures c.in-Sum.is c.answer.ensures.answered c.answer-in-Sum.ensures.answered passed

-- ---- both

pub worked_out-overflow_add-left : goal.worked_out-overflow_add-left
worked_out-overflow_add-left t c =
    let ds = c.args.self.now.definitions.items in
    let n = c.args.of.now in
    let left_is : c.answer.result ≡ Ok c.in_ok-left-in-Sum.left = search rules in
    let right_is : c.answer-in-Sum.result ≡ Ok c.in_ok-right-in-Sum.right = search rules in
    parts_fit c.in_ok-left-in-Sum.left c.in_ok-right-in-Sum.right
    (part_within ds c.in-Sum.left n.counts c.answer.result c.in_ok-left-in-Sum.left n.four n.few c.answer.ensures.answered left_is)
    (part_within ds c.in-Sum.right n.counts c.answer-in-Sum.result c.in_ok-right-in-Sum.right n.four n.few c.answer-in-Sum.ensures.answered right_is)

pub worked_out-returns-in_ok-right-in-Sum-clause-answered : goal.worked_out-returns-in_ok-right-in-Sum-clause-answered
worked_out-returns-in_ok-right-in-Sum-clause-answered t c =
    let book = c.args.self.now in
    let ds = book.definitions.items in
    let n = c.args.of.now in
    let left_is : c.answer.result ≡ Ok c.in_ok-left-in-Sum.left = search rules in
    let right_is : c.answer-in-Sum.result ≡ Ok c.in_ok-right-in-Sum.right = search rules in
    let added =
    parts_priced c.in_ok-left-in-Sum.left c.in_ok-right-in-Sum.right c.answer.result c.answer-in-Sum.result c.price.result
    (part_within ds c.in-Sum.left n.counts c.answer.result c.in_ok-left-in-Sum.left n.four n.few c.answer.ensures.answered left_is)
    (part_within ds c.in-Sum.right n.counts c.answer-in-Sum.result c.in_ok-right-in-Sum.right n.four n.few c.answer-in-Sum.ensures.answered right_is)
    left_is right_is c.price.ensures.value
    in
    told_by_both ds c.args.number c.index.result.now c.in-Sum.left c.in-Sum.right n.counts c.answer.result c.answer-in-Sum.result c.price.result book.ordered c.requires.there c.index.ensures c.in-Sum.is
    c.answer.ensures.answered c.answer-in-Sum.ensures.answered added

-- what was known before either part was asked
pub worked_out-returns-in_ok-right-in-Sum-clause-keeps : goal.worked_out-returns-in_ok-right-in-Sum-clause-keeps
worked_out-returns-in_ok-right-in-Sum-clause-keeps t c = λ i answer known. c.answer-in-Sum.ensures.keeps i answer (c.answer.ensures.keeps i answer known)
