use Rattle.cover_walks.proofs.Covers.{is_cover_order}
use Rattle.cover_walks.proofs.laws.everything_is_covered.Goals as goal

pub returns : goal.returns
returns c = λ g component start done r some h k few. is_cover_order g r component start done some h k few
