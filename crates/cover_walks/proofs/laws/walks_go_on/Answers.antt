use Rattle.cover_walks.proofs.Steps.{walking_begin, walking_push, walking_end, pop, settle}
use Rattle.cover_walks.proofs.Parity.{few_edges}
use Rattle.cover_walks.proofs.Finish.{ready_first}
use Rattle.cover_walks.proofs.Roots.{start_walk}
use Rattle.cover_walks.proofs.laws.walks_go_on.Goals as goal

pub returns-clause-first : goal.returns-clause-first
returns-clause-first c = start_walk

pub returns-clause-first_ends : goal.returns-clause-first_ends
returns-clause-first_ends c = λ g component c start avoid y base stack w h k. ready_first g component c start avoid y base stack w h k

pub returns-clause-begins : goal.returns-clause-begins
returns-clause-begins c = λ g component c start avoid x done stack e. walking_begin g component c start avoid x done stack e

pub returns-clause-goes : goal.returns-clause-goes
returns-clause-goes c = λ g component c start avoid x z t done base stack r d w k.
    walking_push g r component c start d avoid x z done base stack t w k.side k.leaves k.unused k.touches

pub returns-clause-ends : goal.returns-clause-ends
returns-clause-ends c = λ g component c start avoid x y done base stack e w h. walking_end g component c start avoid x y done base stack e w h

pub returns-clause-moves : goal.returns-clause-moves
returns-clause-moves c = λ g component c start f done stack d h. pop g component c start d done f stack h

pub returns-clause-exhausted : goal.returns-clause-exhausted
returns-clause-exhausted c = λ g component c start avoid x done stack e h. settle g component c start avoid x done stack e h

pub returns-clause-short : goal.returns-clause-short
returns-clause-short c = λ g component c start order r h. few_edges g r component c order h.inside h.once
