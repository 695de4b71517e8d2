use Rattle.std.proofs.Common.{◌∷◌, [], append_assoc, sym, subst}
use Rattle.cover_walks.specs.Walks.{Laid, IsExhausted}
use Rattle.rotation_systems.specs.RotationSystem.{to}
use Rattle.cover_walks.proofs.Parity.{counted_walk}
use Rattle.cover_walks.proofs.Finish.{counted_pop, counted_settle}
use Rattle.cover_walks.proofs.Roots.{first_within, closed_first, closed_root}
use Rattle.cover_walks.proofs.laws.walks_are_counted.Goals as goal

pub returns-clause-walks : goal.returns-clause-walks
returns-clause-walks c = λ g component c start avoid x y vertices most done base stack r w bx by px h k.
    counted_walk g r component c start avoid x y done base stack w vertices bx by px h most k

pub returns-clause-moves : goal.returns-clause-moves
returns-clause-moves c = λ g component c vertices most f done stack k. counted_pop g component c vertices most done f stack k

pub returns-clause-exhausted : goal.returns-clause-exhausted
returns-clause-exhausted c = λ g component c start vertices most f done stack r laid h k.
    let e = append_assoc done (f ∷ []) stack in
    counted_settle g r component c start vertices most done f stack (subst (λ l. Laid g component c start l) (sym e) laid) k (subst (λ l. IsExhausted g l (to g f)) (sym e) h)

pub returns-clause-first : goal.returns-clause-first
returns-clause-first c = λ g component c start avoid z vertices most base stack r w leaves h odd k.
    first_within g r component c start avoid z base stack w leaves h odd vertices most k

pub returns-clause-closed : goal.returns-clause-closed
returns-clause-closed c = λ g component c start avoid z stack r w leaves h at.
    let f = closed_first g r component c start avoid z stack w leaves h at in
    (f.0, f.1, closed_root g r component c start avoid z stack w leaves h at)
