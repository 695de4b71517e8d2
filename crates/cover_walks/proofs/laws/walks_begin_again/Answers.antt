use Rattle.cover_walks.proofs.Undo.{unburnt, root_odd, counted}
use Rattle.cover_walks.proofs.laws.walks_begin_again.Goals as goal

pub returns-clause-walks : goal.returns-clause-walks
returns-clause-walks c = λ g component c start avoid x y other done base stack r o at.
    unburnt g r component c start avoid x y done base stack o.before o.walk o.exhausted o.unbroken o.even o.even_root o.opened other at

pub returns-clause-odd : goal.returns-clause-odd
returns-clause-odd c = λ g component c start avoid x y done base stack r o.
    root_odd g r component c start avoid x y done base stack o.before o.walk o.exhausted o.unbroken o.even o.even_root o.opened

pub returns-clause-counts : goal.returns-clause-counts
returns-clause-counts c = λ g component c start avoid x y vertices done base stack r o by bx at.
    counted g r component c start avoid x y done base stack o.before o.walk o.exhausted o.unbroken o.even o.even_root o.opened vertices by bx at
