use Rattle.std.proofs.Common.{refl, sym, pos, ◌∷◌, [], rules}
use Rattle.figures.proofs.Workings.{drafts, accepted_draft}
use Rattle.figures.proofs.billed.bill.Goals as goal

pub unwrap-draft-requires : goal.unwrap-draft-requires
unwrap-draft-requires g c = drafts (g.R.CostRule.meaning c.args.rule.now) c.args.account _ _ c.draft.result c.requires refl c.draft.ensures

pub returns : goal.returns
returns g c =
    record {
      draft = c.unwrap-draft.result;
      table = pos 0 ∷ pos 0 ∷ pos 0 ∷ pos 0 ∷ pos 0 ∷ pos 0 ∷ [];
      after = c.draft.new.table;
      drafted = accepted_draft (g.R.CostRule.meaning c.args.rule.now) c.args.account _ _ c.draft.result _ c.draft.ensures c.unwrap-draft.ensures;
      told = sym c.of.ensures;
      ended = search rules;
    }
