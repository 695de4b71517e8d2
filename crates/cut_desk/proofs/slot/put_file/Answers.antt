use Rattle.cut_desk.proofs.Names.{puts_new}
use Rattle.cut_desk.proofs.slot.put_file.Goals as goal

pub returns-clause-ok : goal.returns-clause-ok
returns-clause-ok c =
    let made = c.in_ok-place.ensures in
    puts_new c.args.slots.now.items c.make_place.new.slots.items c.args.name.now c.args.bytes.now c.in_ok-place.place c.index_mut-slot.result.now c.put.new.self made.files made.rooms made.place c.index_mut-slot.ensures.value c.in_ok-put.ensures.ok
