use Rattle.plate_edges.proofs.Crossings.{crosses_off_lattice, diagonals_on_lattice}
use Rattle.plate_edges.proofs.examples.crossings.Goals as goal

pub returns-clause-off_lattice : goal.returns-clause-off_lattice
returns-clause-off_lattice c = crosses_off_lattice

pub returns-clause-on_lattice : goal.returns-clause-on_lattice
returns-clause-on_lattice c = diagonals_on_lattice
