use Rattle.cover_walks.proofs.Choosing.{chosen_ccw, chosen_cw}
use Rattle.cover_walks.proofs.laws.choices_touch_the_stack.Goals as goal

pub returns : goal.returns
returns c = λ g burnt start avoid z left right t u done stack r k f p q.
    (chosen_ccw g r burnt start avoid z done stack k left right f p, λ e. chosen_cw g r burnt start avoid z done stack k left right f p e q)
