-- What the planner writes is judged sound, with the pierces of its report.
use Rattle.std.proofs.Common.{◌≡◌, List, sym, subst, ◌∙◌}
use Rattle.std.specs.Prelude.{IsTrue, All}
use Rattle.std.proofs.lemmas.List.Elements.{All-weaker}
use Rattle.nest_base.specs.declared.places.Edge.{Edge}
use Rattle.plate_edges.proofs.OneList.{one_list}
use Rattle.code_moves.specs.declared.moves.Move.{Move}
use Rattle.code_moves.specs.Meaning.{moves_of}
use Rattle.code_moves.specs.Moves.{lit_moves}
use Rattle.dxf_drawing.specs.Drawings.{segments_of, names_of}
use Rattle.part_scrap.specs.Naming.{places_of}
use Rattle.pierce_report.specs.Report.{total_pierces}
use Rattle.ngc_meaning.specs.CodeMoves.{IsCodeMove}
use Rattle.ngc_meaning.proofs.EachMove.{each}
use Rattle.ngc_meaning.proofs.InOrder.{in_order}
use Rattle.sound_code.specs.Lightings.{cut_before_fresh}
use Rattle.sound_code.specs.Sound.{IsSoundCode}
use Rattle.nest_commands.specs.Circle.{TellsTotal, WrittenCodeReplaysSound, WrittenReportTellsOneTotal}
use Rattle.nest_commands.proofs.CircleVerdict.{tells_sound}
use Rattle.nest_commands.proofs.CircleLightings.{parts_are_fresh}
use Rattle.nest_commands.proofs.CircleTotals.{sum_is_lightings}
use Rattle.nest_commands.proofs.CircleLines.{tells_total, one_total}

pub written_code_replays_sound : WrittenCodeReplaysSound
written_code_replays_sound file code report edges verdict output drawing is =
    let promise = output.promise in
    let rows = promise.reported.rows in
    let places = places_of (names_of file) in
    let moves = moves_of code in
    let same : promise.edges ≡ edges = one_list (segments_of file) promise.edges edges promise.are_edges drawing.cuts.split.are_edges in
    let sound : IsSoundCode edges places moves = subst (λ (own : List Edge). IsSoundCode own places moves) same promise.sound in
    let (pierces, is_sound, fresh) = tells_sound edges places moves (in_order code) sound verdict is in
    let lit_if_fresh : All (λ (m : Move). IsTrue m.fresh → IsTrue m.lit) moves =
    All-weaker IsCodeMove (λ (m : Move). IsTrue m.fresh → IsTrue m.lit) (λ m of_code. of_code.fresh_is_lit) moves (each code output.has_no_fault) in
    let parts = cut_before_fresh (lit_moves moves) in
    let total = sum_is_lightings promise.edges (names_of file) parts promise.lightings report promise.reported promise.are_lightings
    ∙ parts_are_fresh moves pierces (in_order code) lit_if_fresh fresh in
    let tells : TellsTotal report (total_pierces rows) =
    subst (λ text. TellsTotal text (total_pierces rows)) (sym promise.reported.is_text) (tells_total rows promise.reported.parts) in
    (pierces, is_sound, subst (TellsTotal report) total tells)

pub written_report_tells_one_total : WrittenReportTellsOneTotal
written_report_tells_one_total file code report m n output m_small n_small tells tells_too =
    let reported = output.promise.reported in
    one_total reported.rows reported.parts m n m_small n_small (subst (λ text. TellsTotal text m) reported.is_text tells)
    (subst (λ text. TellsTotal text n) reported.is_text tells_too)
