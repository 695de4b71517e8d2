-- Burning leaves the edges as they were.
use Rattle.std.proofs.Common.{◌<◌, length, sym, ap, subst}
use Rattle.std.specs.Prelude.{All}
use Rattle.half_edges.specs.Numbers.{half_edges_of}
use Rattle.half_edges.specs.Graph.{Graph}
use Rattle.plan_tests.proofs.codes.code_of.Goals as goal

pub write_code-requires-clause-within : goal.write_code-requires-clause-within
write_code-requires-clause-within c =
    subst (λ (g : Graph). All (All (λ s. s < length (half_edges_of g.edges))) c.in_ok-plan.plan) (sym c.cover_all.ensures.same) c.in_ok-plan.ensures.within
