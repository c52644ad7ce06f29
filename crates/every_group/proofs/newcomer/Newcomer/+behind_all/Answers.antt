use Rattle.std.proofs.Common.{pos, sym, ap, ◌∙◌, subst, arith}
use Rattle.composition.proofs.Changes.{position_below}
use Rattle.composition.specs.Counts.{total, Inside}
use Rattle.composition.specs.Types.{position}
use Rattle.every_group.proofs.Splitting.{gone_more, gone_small, one_fewer_left, others_few, parted_in, parted_out}
use Rattle.every_group.proofs.Together.{nobody_left, over_nobody, with_nobody}
use Rattle.every_group.specs.Going.{added_by, orders, together, GoneThrough}
use Rattle.every_group.proofs.newcomer.Newcomer.+behind_all.Goals as goal

-- ---- nobody is left

pub behind-requires-clause-inside : goal.behind-requires-clause-inside
behind-requires-clause-inside t c =
    let members = c.args.split.members in
    let none = nobody_left c.args.left.counts c.args.left.four c.in_default.ensures in
    subst (λ n. Inside n c.args.self.now.others.counts) (ap (together members.counts) none ∙ with_nobody members.counts members.four) c.requires.inside

pub returns-in_default : goal.returns-in_default
returns-in_default t c =
    let home = c.args.self.now in
    let members = c.args.split.members in
    let others = total home.others.counts in
    rw (nobody_left c.args.left.counts c.args.left.four c.in_default.ensures)
    (record {
      groups_are = c.behind.ensures.groups_are;
      orders_are = ap pos c.behind.ensures.orders_are ∙ sym (over_nobody members.counts (λ n. pos (orders others n)) members.four);
      added_is = c.behind.ensures.added_is ∙ sym (over_nobody members.counts (added_by home.table home.of others) members.four);
    })

-- ---- one of those left

pub without-requires : goal.without-requires
without-requires t c =
    let home = c.args.self.now in
    omega
    (arith, one_fewer_left home.others.counts _ _ c.in-Some.next c.args.split c.in-Some.ensures c.in-Some.rest.four, c.requires.all, others_few home)

pub behind_all-without-requires : goal.behind_all-without-requires
behind_all-without-requires t c =
    let others = c.args.self.now.others.counts in
    let fewer = one_fewer_left others _ _ c.in-Some.next c.args.split c.in-Some.ensures c.in-Some.rest.four in (
      omega (arith, c.decreases, fewer),
      parted_out others _ _ c.in-Some.next c.args.split c.in-Some.ensures c.in-Some.rest.four c.without.result c.without.ensures.members c.without.ensures.out c.requires,
    )

pub behind_all-with-requires : goal.behind_all-with-requires
behind_all-with-requires t c =
    let others = c.args.self.now.others.counts in
    let fewer = one_fewer_left others _ _ c.in-Some.next c.args.split c.in-Some.ensures c.in-Some.rest.four in (
      omega (arith, c.decreases, fewer),
      parted_in others _ _ c.in-Some.next c.args.split c.in-Some.ensures c.in-Some.rest.four c.with.result c.with.ensures.members c.with.ensures.out c.requires,
    )

pub plus-requires-clause-these : goal.plus-requires-clause-these
plus-requires-clause-these t c =
    let home = c.args.self.now in
    let rest = c.in-Some.rest in
    let without = c.without.result in
    gone_small home.table home.of home.others.counts rest.counts without.members.counts without.out c.behind_all-without.result home.some home.fewer (others_few home) (rest.four ∙ sym without.members.four)
    (parted_out home.others.counts _ _ c.in-Some.next c.args.split c.in-Some.ensures rest.four without c.without.ensures.members c.without.ensures.out c.requires)
    c.behind_all-without.ensures

pub plus-requires-clause-those : goal.plus-requires-clause-those
plus-requires-clause-those t c =
    let home = c.args.self.now in
    let rest = c.in-Some.rest in
    let with = c.with.result in
    gone_small home.table home.of home.others.counts rest.counts with.members.counts with.out c.behind_all-with.result home.some home.fewer (others_few home) (rest.four ∙ sym with.members.four)
    (parted_in home.others.counts _ _ c.in-Some.next c.args.split c.in-Some.ensures rest.four with c.with.ensures.members c.with.ensures.out c.requires)
    c.behind_all-with.ensures

pub returns : goal.returns
returns t c =
    let home = c.args.self.now in
    let members = c.args.split.members.counts in
    rw c.in-Some.ensures
    (gone_more home.table home.of home.others.counts c.in-Some.rest.counts members (position c.in-Some.next) c.behind_all-without.result c.behind_all-with.result c.plus.result
    (position_below c.in-Some.next) c.in-Some.rest.four c.args.split.members.four
    (subst (λ m. GoneThrough home.table home.of home.others.counts c.in-Some.rest.counts m c.behind_all-without.result) (ap (λ m. m.counts) c.without.ensures.members) c.behind_all-without.ensures)
    (subst (λ m. GoneThrough home.table home.of home.others.counts c.in-Some.rest.counts m c.behind_all-with.result) c.with.ensures.members c.behind_all-with.ensures)
    c.plus.ensures.groups c.plus.ensures.orders c.plus.ensures.added)
