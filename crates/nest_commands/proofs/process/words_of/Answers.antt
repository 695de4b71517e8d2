-- What is left of the arguments once the first is skipped.
use Rattle.std.proofs.Common.{◌≡◌, drop, length, rules, arith, subst, sym}
use Rattle.std.specs.Prelude.{IfOk}
use Rattle.std.proofs.lemmas.Iterator.{items_from_collect}
use Rattle.std.proofs.lemmas.Iterator.Adapters.{YieldsList-from_vec, YieldsList-from_skip}
use Rattle.std.specs.Vec.Iter.{into_iter_items, into_iter_len}
use Rattle.nest_commands.proofs.process.words_of.Goals as goal

pub returns-in-Ok-clause-all : goal.returns-in-Ok-clause-all
returns-in-Ok-clause-all c =
    let args = into_iter_items c.in-Ok.args in
    let as_many : into_iter_len c.in-Ok.args ≡ length args = omega (arith, c.in-Ok.args.rest.ok.0) in
    subst (λ given. IfOk c.collect.result (λ words. IfOk given (λ some. words.items ≡ drop 1 (into_iter_items some)))) (sym c.in-Ok.is)
    (items_from_collect c.collect.result c.collect.ensures.ran
    (YieldsList-from_skip 1 (YieldsList-from_vec args (search (rules, c.skip.ensures.source)) (search (rules, as_many))) c.skip.ensures.count))
