use Rattle.std.proofs.Common.{[], ◌∷◌, ◌++◌, sym, subst}
use Rattle.dxf_groups.specs.Taking.{Progress, GroupsAt, completed, pairs_so_far}
use Rattle.dxf_groups.proofs.Growth.{come_one_by_one}
use Rattle.dxf_drawing.specs.EntityReader.{EntityReaderAt}
use Rattle.dxf_drawing.specs.Reading.{IsFound}
use Rattle.dxf_drawing.proofs.Readings.{taken_pair}
use Rattle.dxf_drawing.proofs.reader.Reader.take.Goals as goal

pub returns-clause-at : goal.returns-clause-at
returns-clause-at c = λ bytes at.
    let more = bytes ++ c.args.byte ∷ [] in
    let groups = c.take-found.ensures.at bytes at.groups in
    let found : IsFound c.take-found.result c.take-found.new.self.value (completed more) =
    subst (λ f. IsFound f c.take-found.new.self.value (completed more)) (sym (c.take-found.ensures.found bytes at.groups)) (taken_pair more c.take-found.new.self.value groups.value) in
    record {
      groups = subst (λ (g : Progress). GroupsAt g more) (sym c.in_ok-take_found.ensures.groups) groups;
      entities = subst (λ pairs. EntityReaderAt c.take_found.new.self.entities pairs) (sym (come_one_by_one bytes c.args.byte))
          (c.in_ok-take_found.ensures.entities (pairs_so_far bytes) (completed more) found at.entities);
    }
