-- The slice of the sides from where this cycle begins is not empty: its first element is read.
use Rattle.std.proofs.Common.{arith, ◌≡◌, ◌+◌, get_or, ap, ◌∙◌}
use Rattle.std.specs.Prelude.{slice_index}
use Rattle.std.proofs.lemmas.List.{length-map, get_or_default}
use Rattle.face_nesting.proofs.NumbersOf.{side_number, first_between}
use Rattle.face_nesting.proofs.nesting.Faces.mark_side.Goals as goal

pub returns : goal.returns
returns c =
    let known = c.self.invariant in
    let sides = c.self.inside.sides.items in
    let starts = c.self.inside.starts.items in
    let below = rw (← c.self.view_is) at c.requires in
    let first : c.index.result.now ≡ slice_index starts c.args.c.0 = c.index.ensures ∙ get_or_default starts c.args.c.0 c.index.result.now 0 (omega (arith, below, known.cycles)) in
    rw (← c.self.view_is)
    (first_between sides (slice_index starts c.args.c.0) (slice_index starts (c.args.c.0 + 1)) c.index-2.result.now (known.rising c.args.c.0 below)
    (omega (arith, known.within c.args.c.0 below, length-map sides side_number)) (c.index-2.ensures ∙ ap (λ at. get_or sides at c.index-2.result.now) first))
