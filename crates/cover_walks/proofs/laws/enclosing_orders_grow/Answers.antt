use Rattle.std.proofs.Common.{IsTrue}
use Rattle.cover_walks.proofs.Growth.{grows_of, encloses_of}
use Rattle.cover_walks.proofs.laws.enclosing_orders_grow.Goals as goal

pub returns : goal.returns
returns c g outer order r = (grows_of g (λ s. IsTrue (outer s)) r order, encloses_of g (λ s. IsTrue (outer s)) r order)
