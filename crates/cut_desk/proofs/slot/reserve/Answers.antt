use Rattle.cut_desk.proofs.Names.{grows_room, room_set}
use Rattle.cut_desk.proofs.slot.reserve.Goals as goal

pub returns-in_err-reserve-clause-grows : goal.returns-in_err-reserve-clause-grows
returns-in_err-reserve-clause-grows c =
    let made = c.in_ok-place.ensures in
    let kept = c.in_err-reserve.ensures in
    grows_room c.args.slots.now.items c.make_place.new.slots.items c.args.name.now c.in_ok-place.place c.index_mut-slot.result.now c.reserve.new.self made.files made.rooms made.place c.index_mut-slot.ensures.value kept.rest kept.grows

pub returns-clause-ok : goal.returns-clause-ok
returns-clause-ok c =
    let kept = c.in_ok-reserve.ensures in
    rw (room_set c.make_place.new.slots.items c.args.name.now c.in_ok-place.place c.index_mut-slot.result.now c.reserve.new.self c.in_ok-place.ensures.place c.index_mut-slot.ensures.value kept.rest) kept.ok

pub returns-clause-grows : goal.returns-clause-grows
returns-clause-grows c =
    let made = c.in_ok-place.ensures in
    let kept = c.in_ok-reserve.ensures in
    grows_room c.args.slots.now.items c.make_place.new.slots.items c.args.name.now c.in_ok-place.place c.index_mut-slot.result.now c.reserve.new.self made.files made.rooms made.place c.index_mut-slot.ensures.value kept.rest kept.grows
