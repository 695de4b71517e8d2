use Rattle.std.proofs.Common.{arith}
use Rattle.cut_desk.proofs.Names.{place_added, file_added, room_added}
use Rattle.cut_desk.proofs.slot.make_place.Goals as goal

pub returns-clause-place : goal.returns-clause-place
returns-clause-place c = grind (arith, place_added)

pub returns-clause-files : goal.returns-clause-files
returns-clause-files c = λ other. grind (arith, file_added)

pub returns-clause-rooms : goal.returns-clause-rooms
returns-clause-rooms c = λ other. grind (arith, room_added)
