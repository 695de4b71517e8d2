use Rattle.std.proofs.Common.{arith, ◌≡◌, ◌<◌, ◌∷◌, [], ◌++◌, length, refl, ap, ◌∙◌}
use Rattle.std.proofs.lemmas.List.{length_push}
use Rattle.half_edges.specs.Floods.{none}
use Rattle.nest_base.specs.NumberLists.{component_numbers, vertex_numbers}
use Rattle.nest_base.proofs.ListReads.{one_read}
use Rattle.nest_base.proofs.NumberLists.{vertex_numbers-push}
use Rattle.half_edges.proofs.Floods.{flood_started, flood_taken, reach_gives}
use Rattle.half_edges.proofs.components.Flood.start.Goals as goal

pub loop-u-init : goal.loop-u-init
loop-u-init c =
    let items = c.args.self.now.of_vertex.items in
    let flood = c.requires.flood c.requires.known.0 c.requires.known.1 in
    let within : c.args.v.0 < length (component_numbers items) = omega (arith, flood.as_many, c.requires.vertex) in
    let reached = rw c.requires.empty at c.in_ok-reach.ensures.reached in
    let given = reach_gives (component_numbers items) [] c.args.v.0 c.len.result (component_numbers c.reach.new.self.of_vertex.items) (vertex_numbers c.reach.new.self.found.items) within c.requires.none reached in
    let marks_are : c.reach.new.self.marks.items ≡ c.args.self.now.marks.items ++ c.place_at.result ∷ [] = c.in_ok-reach.ensures.marks ∙ c.in_ok-push.ensures.items in
    let few : length c.args.self.now.marks.items < none = omega arith in
    let count : c.len.result ≡ length c.args.self.now.marks.items = omega arith in
    record {
      few = omega (arith, ap length marks_are, length_push c.args.self.now.marks.items c.place_at.result, c.requires.few);
      marks_stay = refl;
      kept = given.0;
      numbered = λ bare. omega (arith, given.1, bare);
      flood = λ edges lay. rw marks_are
          (flood_started edges c.args.layout.now.places.keys (component_numbers items) c.args.self.now.marks.items (component_numbers c.reach.new.self.of_vertex.items) (vertex_numbers c.reach.new.self.found.items)
          c.args.v.0 c.len.result c.place_at.result (c.requires.flood edges lay) c.place_at.ensures c.requires.none few count reached);
    }

pub spread-requires-clause-flood : goal.spread-requires-clause-flood
spread-requires-clause-flood c =
    let is : vertex_numbers c.loop-u.self.found.items ≡ vertex_numbers c.pop.new.self.items ++ c.in-Some.u.0 ∷ [] = ap vertex_numbers c.in-Some.ensures.items ∙ vertex_numbers-push c.pop.new.self.items c.in-Some.u in
    λ edges lay. flood_taken edges c.args.layout.now.places.keys (component_numbers c.loop-u.self.of_vertex.items) c.loop-u.self.marks.items (vertex_numbers c.loop-u.self.found.items)
    (vertex_numbers c.pop.new.self.items) c.in-Some.u.0 is (c.loop-u.invariant.flood edges lay)

pub returns-clause-marks : goal.returns-clause-marks
returns-clause-marks c = λ p at. c.loop-u.invariant.marks_stay ∙ c.in_ok-reach.ensures.marks ∙ c.in_ok-push.ensures.items ∙ ap (λ q. c.args.self.now.marks.items ++ q ∷ []) (one_read c.args.layout.now.places.keys c.args.v.0 c.place_at.result p c.place_at.ensures at)
