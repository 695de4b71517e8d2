use Rattle.std.proofs.Common.{subst, refl, IsTrue, ◌≢◌, ◌∙◌, ◌<◌, sym}
use Rattle.rotation_systems.specs.Twins.{twin_number}
use Rattle.rotation_systems.specs.RotationSystem.{mirrored}
use Rattle.half_edges.specs.Graph.{rotations_of}
use Rattle.cover_walks.specs.Choices.{Stops, HasUnburnt}
use Rattle.cover_walks.proofs.Choosing.{chosen_ccw, chosen_cw}
use Rattle.cover_walks.proofs.Scans.{passes_in}
use Rattle.component_route.specs.Scans.{burnt_in, moved_last, avoided_of}
use Rattle.component_route.proofs.Avoiding.{twin_of_moved}
use Rattle.component_route.proofs.choice.choose.Goals as goal
use Rattle.component_route.proofs.choice.choose.Goals.{After-scan-chosen}

pub scan-chosen-requires-clause-free : goal.scan-chosen-requires-clause-free
scan-chosen-requires-clause-free c =
    let (start, z, done, stack, k, f) = c.requires.known in
    subst (λ v. HasUnburnt (rotations_of c.args.graph.now) (burnt_in c.args.graph.now) v) (sym f.left_at) k.free

-- the scan counterclockwise, in the words of its lemmas
stopped : (c : After-scan-chosen) → Stops (rotations_of c.args.graph.now) (burnt_in c.args.graph.now) c.args.reference.left.0 (twin_number (moved_last (rotations_of c.args.graph.now) c.args.avoid)) c.scan-chosen.result.0
stopped c =
    let x = c.args.graph.now in
    subst (λ a. Stops (rotations_of x) (burnt_in x) c.args.reference.left.0 a c.scan-chosen.result.0) (twin_of_moved x c.requires.rotation c.args.avoid) c.scan-chosen.ensures

chosen_in : (c : After-scan-chosen) → c.scan-chosen.result.0 < (rotations_of c.args.graph.now).sides
chosen_in c =
    let (start, z, done, stack, k, f) = c.requires.known in
    let x = c.args.graph.now in
    passes_in (rotations_of x) c.requires.rotation (burnt_in x) c.args.reference.left.0 (avoided_of (rotations_of x).sides c.args.avoid) f.left_in c.scan-chosen.ensures.passes

pub scan-requires-clause-free : goal.scan-requires-clause-free
scan-requires-clause-free c =
    let (start, z, done, stack, k, f) = c.requires.known in
    subst (λ v. HasUnburnt (rotations_of c.args.graph.now) (burnt_in c.args.graph.now) v) (sym f.right_at) k.free

pub returns-then-is_avoided : goal.returns-then-is_avoided
returns-then-is_avoided c start z done stack k f =
    let x = c.args.graph.now in
    let g = rotations_of x in
    let p = (goal.at.returns-then-is_avoided c).After-scan-chosen in
    let avoided = (c.is_avoided.ensures g.sides (chosen_in p)).0 (subst IsTrue (sym c.if-is_avoided.true) refl) in
    chosen_cw g c.requires.rotation (burnt_in x) start (moved_last g c.args.avoid) z done stack k c.args.reference.left.0 c.args.reference.right.0 f
    (stopped p) (avoided ∙ twin_of_moved x c.requires.rotation c.args.avoid)
    (subst (λ a. Stops (mirrored g) (burnt_in x) c.args.reference.right.0 a c.scan.result.0) (twin_of_moved x c.requires.rotation c.args.avoid) c.scan.ensures)

pub returns-else-is_avoided : goal.returns-else-is_avoided
returns-else-is_avoided c start z done stack k f =
    let x = c.args.graph.now in
    let g = rotations_of x in
    let p = (goal.at.returns-else-is_avoided c).After-scan-chosen in
    let other : c.scan-chosen.result.0 ≢ twin_number (moved_last g c.args.avoid) =
    λ e. let t : IsTrue c.is_avoided.result = (c.is_avoided.ensures g.sides (chosen_in p)).1 (e ∙ sym (twin_of_moved x c.requires.rotation c.args.avoid)) in
    let n = c.if-is_avoided.false in cc in
    chosen_ccw g c.requires.rotation (burnt_in x) start (moved_last g c.args.avoid) z done stack k c.args.reference.left.0 c.args.reference.right.0 f (stopped p) other
