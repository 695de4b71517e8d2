use Rattle.std.proofs.Common.{◌≡◌, IsTrue, subst, sym}
use Rattle.cover_walks.proofs.Limits.{encloses_wider}
use Rattle.cover_walks.proofs.laws.one_outer_side_is_enough.Goals as goal

pub returns : goal.returns
returns c g start outer order t e = encloses_wider g (λ s. s ≡ start) (λ s. IsTrue (outer s)) (λ s q. subst (λ u. IsTrue (outer u)) (sym q) t) order e
