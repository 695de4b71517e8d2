use Rattle.cover_walks.proofs.Covers.{chains_within}
use Rattle.cover_walks.proofs.laws.chains_are_within_the_limit.Goals as goal

pub returns : goal.returns
returns c = λ g component start vertices order outer r h b o. chains_within g r component start order vertices outer h b o.0 o.1
