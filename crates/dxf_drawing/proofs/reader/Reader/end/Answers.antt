use Rattle.std.proofs.Common.{sym, subst}
use Rattle.dxf_groups.specs.Taking.{Progress, EndedAt, completed_by_end, pairs_so_far}
use Rattle.dxf_groups.proofs.Growth.{end_gives_rest}
use Rattle.dxf_drawing.specs.EntityReader.{EntityReaderAt}
use Rattle.dxf_drawing.proofs.Readings.{ended_pair, stop_at_the_end}
use Rattle.dxf_drawing.proofs.reader.Reader.end.Goals as goal

pub returns : goal.returns
returns c = λ bytes at.
    let first = c.end-found.ensures.at bytes at.groups in
    let found = ended_pair c.end-found.new.self bytes c.end-found.result first (c.end-found.ensures.found bytes at.groups) c.end-found.ensures.value in
    let second = subst (λ (g : Progress). EndedAt g bytes) (sym c.in_ok-take_found.ensures.groups) first in
    record {
      stop = stop_at_the_end c.end.new.self bytes c.end.result (c.end.ensures.at_again bytes second) (c.end.ensures.found_again bytes second) c.end.ensures.answered;
      entities = subst (λ pairs. EntityReaderAt c.take_found.new.self.entities pairs) (sym (end_gives_rest bytes))
          (c.in_ok-take_found.ensures.entities (pairs_so_far bytes) (completed_by_end bytes) found at.entities);
    }
