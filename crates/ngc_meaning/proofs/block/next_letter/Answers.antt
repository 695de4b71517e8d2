use Rattle.std.specs.Char.{is_ascii_alphabetic}
use Rattle.ngc_meaning.proofs.Letters.{none_passes}
use Rattle.ngc_meaning.proofs.block.next_letter.Goals as goal

pub returns-in-None-clause-place : goal.returns-in-None-clause-place
returns-in-None-clause-place c = none_passes is_ascii_alphabetic c.args.text.now c.in-None.ensures.place
