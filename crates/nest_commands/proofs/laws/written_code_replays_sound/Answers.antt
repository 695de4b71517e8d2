use Rattle.nest_commands.proofs.Circle.{written_code_replays_sound, written_report_tells_one_total}
use Rattle.nest_commands.proofs.laws.written_code_replays_sound.Goals as goal

pub returns : goal.returns
returns c = record { sound = written_code_replays_sound; one_total = written_report_tells_one_total }
