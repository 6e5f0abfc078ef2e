use Rattle.dealer.proofs.Steps.{lawful_deal}
use Rattle.dealer.proofs.dealer.deals.dealers_are_lawful.Goals as goal

pub returns : goal.returns
returns c = lawful_deal
