use Rattle.std.proofs.Common.{◌<◌}
use Rattle.plate_sides.specs.Links.{At}
use Rattle.nest_base.proofs.ListReads.{All-read}
use Rattle.face_nesting.proofs.nesting.Faces.face_at.Goals as goal

pub returns-in-Some-clause-at : goal.returns-in-Some-clause-at
returns-in-Some-clause-at c =
    let seen = c.in-Some.ensures.found in
    (At seen.0, seen.2, (c.in-Some.s.0, seen.1, c.face_of.ensures))

pub returns-in-Some-clause-within : goal.returns-in-Some-clause-within
returns-in-Some-clause-within c counted = All-read (λ f. f < c.args.self.now.count) c.args.self.now.faces c.in-Some.s.0 c.face_of.result.0 counted.below c.face_of.ensures
