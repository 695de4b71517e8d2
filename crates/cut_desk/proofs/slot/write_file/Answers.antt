use Rattle.std.proofs.Common.{◌∙◌, get_or, refl, sym, ap, Some}
use Rattle.cut_desk.specs.Outside.{bytes_after_write}
use Rattle.cut_desk.specs.Memory.{Stored}
use Rattle.cut_desk.proofs.Names.{puts_file, file_at, room_at, room_nowhere}
use Rattle.cut_desk.proofs.slot.write_file.Goals as goal

pub returns-in_default-clause-room : goal.returns-in_default-clause-room
returns-in_default-clause-room c = rw (room_nowhere c.args.slots.now c.args.name.now (sym c.in_default.ensures)) refl

pub returns-then-not-has_room-clause-room : goal.returns-then-not-has_room-clause-room
returns-then-not-has_room-clause-room c =
    rw (room_at c.args.slots.now c.args.name.now c.in-Some.place c.index-slots-place.result (sym c.in-Some.ensures)) c.if-not-has_room.ensures

pub write-requires-clause-end : goal.write-requires-clause-end
write-requires-clause-end c =
    rw (← file_at c.args.slots.now c.args.name.now c.in-Some.place c.index-slots-place.result (sym c.in-Some.ensures)) c.requires

pub returns-clause-room : goal.returns-clause-room
returns-clause-room c =
    rw (room_at c.args.slots.now c.args.name.now c.in-Some.place c.index-slots-place.result (sym c.in-Some.ensures)) c.if-not-has_room.ensures

pub returns-clause-written : goal.returns-clause-written
returns-clause-written c =
    let d : Stored = c.index-slots-place.result in
    let old : Stored = get_or c.args.slots.now c.in-Some.place d in
    rw (file_at c.args.slots.now c.args.name.now c.in-Some.place d (sym c.in-Some.ensures)) (puts_file c.args.slots.now c.args.name.now (bytes_after_write old.file c.args.at c.args.piece.now) c.in-Some.place d c.write.new.self (sym c.in-Some.ensures) c.index-slots-place.is (c.write.ensures ∙ ap (λ (slot : Stored). record slot { file = Some (bytes_after_write old.file c.args.at c.args.piece.now) }) (sym c.index-slots-place.is)))
