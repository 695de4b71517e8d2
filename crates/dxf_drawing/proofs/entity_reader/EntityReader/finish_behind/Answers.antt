use Rattle.std.proofs.Common.{◌≡◌, [], ◌++◌, sym, ◌∙◌, subst}
use Rattle.std.specs.Prelude.{if◌then◌else◌}
use Rattle.dxf_entities.specs.declared.shape.Shape.TheVariants.{Vertex}
use Rattle.dxf_entities.specs.Entities.{shape_of}
use Rattle.dxf_entities.specs.Refusals.{groups_refusal}
use Rattle.dxf_entities.specs.Values.{start_of}
use Rattle.dxf_drawing.specs.Events.{entity_events, unless_refused}
use Rattle.dxf_drawing.specs.DrawingBuilder.{Holds}
use Rattle.dxf_drawing.specs.States.{is_vertex, is_seqend, vertex_events}
use Rattle.dxf_drawing.proofs.entity_reader.EntityReader.finish_behind.Goals as goal

pub returns-in_ok-finish_vertex-in-Vertex-clause-built : goal.returns-in_ok-finish_vertex-in-Vertex-clause-built
returns-in_ok-finish_vertex-in-Vertex-clause-built c = λ e building before held.
    let vertex : Vertex ≡ shape_of e = sym c.in-Vertex.is ∙ c.shape.ensures e building in
    let segment_events = unless_refused (groups_refusal e) (vertex_events c.args.polyline (start_of e)) in
    subst (λ s. Holds c.finish_vertex.new.self.built (before ++ (if is_vertex s then segment_events else (if is_seqend s then [] else entity_events e)))) vertex
    (c.in_ok-finish_vertex-in-Vertex.ensures.built e building (sym vertex) before held)
