use Rattle.cover_walks.proofs.Cuts.{chains_concat, chains_are, chains_count}
use Rattle.cover_walks.proofs.laws.chains_are_cut_at_breaks.Goals as goal

pub returns-clause-whole : goal.returns-clause-whole
returns-clause-whole c = chains_concat

pub returns-clause-unbroken : goal.returns-clause-unbroken
returns-clause-unbroken c = chains_are

pub returns-clause-count : goal.returns-clause-count
returns-clause-count c = chains_count
