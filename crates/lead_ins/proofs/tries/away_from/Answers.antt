use Rattle.lead_ins.proofs.Tried.{steps, product_fits, sum_fits, sum_exact}
use Rattle.lead_ins.proofs.tries.away_from.Goals as goal

pub overflow_add-result : goal.overflow_add-result
overflow_add-result c =
    sum_fits c.args.v.x c.args.way.x c.args.times (steps c.args.v c.args.way c.args.times c.requires.v_within c.requires.way_near c.requires.times_near).0

pub overflow_mul-result-2 : goal.overflow_mul-result-2
overflow_mul-result-2 c =
    product_fits c.args.v.y c.args.way.y c.args.times (steps c.args.v c.args.way c.args.times c.requires.v_within c.requires.way_near c.requires.times_near).1

pub overflow_add-result-2 : goal.overflow_add-result-2
overflow_add-result-2 c =
    sum_fits c.args.v.y c.args.way.y c.args.times (steps c.args.v c.args.way c.args.times c.requires.v_within c.requires.way_near c.requires.times_near).1

pub returns : goal.returns
returns c =
    let both = steps c.args.v c.args.way c.args.times c.requires.v_within c.requires.way_near c.requires.times_near in
    λ i. record { x = sum_exact c.args.v.x c.args.way.x c.args.times both.0 i; y = sum_exact c.args.v.y c.args.way.y c.args.times both.1 i }
