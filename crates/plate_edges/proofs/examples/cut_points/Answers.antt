use Rattle.plate_edges.proofs.Crossings.{first_diagonal, second_diagonal, joint}
use Rattle.plate_edges.proofs.examples.cut_points.Goals as goal

pub returns-clause-of_the_first : goal.returns-clause-of_the_first
returns-clause-of_the_first c = first_diagonal

pub returns-clause-of_the_second : goal.returns-clause-of_the_second
returns-clause-of_the_second c = second_diagonal

pub returns-clause-joint : goal.returns-clause-joint
returns-clause-joint c = joint
