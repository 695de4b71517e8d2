-- The slice of the sides from where this cycle begins to where the next one does.
use Rattle.std.proofs.Common.{arith, ◌≡◌, ◌+◌, ◌∙◌}
use Rattle.std.specs.Prelude.{slice_index}
use Rattle.std.proofs.lemmas.List.{get_or_default}
use Rattle.face_nesting.proofs.NumbersOf.{side_numbers-between}
use Rattle.face_nesting.proofs.nesting.Faces.outer_sides.Goals as goal

pub returns : goal.returns
returns c =
    let known = c.self.invariant in
    let sides = c.self.inside.sides.items in
    let starts = c.self.inside.starts.items in
    let below = rw (← c.self.view_is) at c.requires in
    let first : c.index.result.now ≡ slice_index starts c.args.c.0 = c.index.ensures ∙ get_or_default starts c.args.c.0 c.index.result.now 0 (omega (arith, below, known.cycles)) in
    let behind : c.index-2.result.now ≡ slice_index starts (c.args.c.0 + 1) = c.index-2.ensures ∙ get_or_default starts (c.args.c.0 + 1) c.index-2.result.now 0 (omega (arith, below, known.cycles)) in
    rw (← c.self.view_is, c.deref.ensures.value, first, behind) (side_numbers-between sides (slice_index starts c.args.c.0) (slice_index starts (c.args.c.0 + 1)))
