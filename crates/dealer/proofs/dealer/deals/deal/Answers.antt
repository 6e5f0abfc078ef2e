use Rattle.dealer.proofs.Steps.{lawful_deal}
use Rattle.dealer.proofs.dealer.deals.deal.Goals as goal

pub returns-clause-lawful : goal.returns-clause-lawful
returns-clause-lawful c = lawful_deal c.args.start c.args.counts c.seated.result c.seated-2.result c.seated.ensures c.seated-2.ensures
