use Rattle.plate_nesting.proofs.Enclosing.{ready_orders_enclose}
use Rattle.plate_nesting.proofs.Finished.{finished_next}
use Rattle.plate_nesting.proofs.laws.ready_orders_enclose.Goals as goal

pub returns-clause-enclose : goal.returns-clause-enclose
returns-clause-enclose c = λ edges marks finished done own c are_marks round sides are order ready.
    ready_orders_enclose edges marks are_marks round sides finished done are c own order ready

pub returns-clause-finished : goal.returns-clause-finished
returns-clause-finished c = λ edges finished done own c are order ready. finished_next edges finished done are c own order ready
