use Rattle.plate_nesting.proofs.Plans.{no_plan, plan_next, trails_of_next, trails_stay, plan_covers}
use Rattle.plate_nesting.proofs.laws.plans_grow.Goals as goal

pub returns-clause-begins : goal.returns-clause-begins
returns-clause-begins c = no_plan

pub returns-clause-grows : goal.returns-clause-grows
returns-clause-grows c = λ edges marks finished plan own c are_marks round sides is covers ready.
    plan_next edges finished plan is c own covers ready marks are_marks round sides

pub returns-clause-own : goal.returns-clause-own
returns-clause-own c = λ edges finished plan own c is covers ready. trails_of_next edges finished plan is c own covers ready

pub returns-clause-stay : goal.returns-clause-stay
returns-clause-stay c = λ edges finished plan own c mark n is covers ready. trails_stay edges finished plan is c own covers ready mark n

pub returns-clause-covers : goal.returns-clause-covers
returns-clause-covers c = λ edges finished plan round is all. plan_covers edges round finished plan is all
