use Rattle.std.proofs.Common.{◌∙◌, subst}
use Rattle.segment_split.specs.Splits.{IsSplit}
use Rattle.part_scrap.specs.Naming.{places_of}
use Rattle.nest_commands.specs.Outputs.{AreCutsOf}
use Rattle.nest_commands.specs.Reasons.{IsReplayReason, replay_error_of}
use Rattle.nest_commands.proofs.Results.{if_err_same}
use Rattle.nest_commands.proofs.RefusedOutputs.{naming_reason}
use Rattle.nest_commands.proofs.JudgedCode.{drawing_reason, code_reason, drawing_read, judged_read}
use Rattle.nest_commands.proofs.judging.verdict_of.Goals as goal

pub returns-in_err-parts-clause-refused : goal.returns-in_err-parts-clause-refused
returns-in_err-parts-clause-refused c =
    let read = c.in_ok-drawing.ensures.read in
    let cuts : AreCutsOf c.args.bytes.now c.in_ok-edges.edges = record { read = read.accepted; split = subst (λ ss. IsSplit ss c.in_ok-edges.edges) read.segments c.in_ok-edges.ensures.split } in
    if_err_same (IsReplayReason c.args.bytes.now c.args.code.now) c.from_residual-in_err-parts.result (replay_error_of c.in_err-parts.field-0.0) c.from_residual-in_err-parts.ensures.1
    (drawing_reason c.args.bytes.now c.args.code.now c.in_err-parts.field-0.0 (naming_reason c.args.bytes.now c.in_ok-edges.edges c.in_ok-graph.graph.edges c.names.result.now c.in_err-parts.field-0.0
    cuts c.in_ok-graph.ensures.edges (c.names.ensures ∙ read.names) c.in_err-parts.ensures.refused))

pub returns-in_err-moves-clause-refused : goal.returns-in_err-moves-clause-refused
returns-in_err-moves-clause-refused c =
    let read = c.in_ok-drawing.ensures.read in
    let cuts : AreCutsOf c.args.bytes.now c.in_ok-edges.edges = record { read = read.accepted; split = subst (λ ss. IsSplit ss c.in_ok-edges.edges) read.segments c.in_ok-edges.ensures.split } in
    let drawing = drawing_read c.args.bytes.now c.in_ok-edges.edges c.in_ok-graph.graph.edges c.names.result.now cuts c.in_ok-graph.ensures.edges (c.names.ensures ∙ read.names) c.in_ok-parts.ensures.distinct in
    if_err_same (IsReplayReason c.args.bytes.now c.args.code.now) c.from_residual-in_err-moves.result c.in_err-moves.field-0.0 c.from_residual-in_err-moves.ensures.1
    (code_reason c.args.bytes.now c.args.code.now c.in_err-moves.field-0.0 (c.in_ok-edges.edges, drawing) c.in_err-moves.ensures.refused)

pub returns-clause-judged : goal.returns-clause-judged
returns-clause-judged c =
    let read = c.in_ok-drawing.ensures.read in
    let cuts : AreCutsOf c.args.bytes.now c.in_ok-edges.edges = record { read = read.accepted; split = subst (λ ss. IsSplit ss c.in_ok-edges.edges) read.segments c.in_ok-edges.ensures.split } in
    let drawing = drawing_read c.args.bytes.now c.in_ok-edges.edges c.in_ok-graph.graph.edges c.names.result.now cuts c.in_ok-graph.ensures.edges (c.names.ensures ∙ read.names) c.in_ok-parts.ensures.distinct in
    judged_read c.args.bytes.now c.args.code.now c.in_ok-edges.edges c.in_ok-graph.graph.edges c.names.result.now c.as_slice.result.now c.in_ok-verdict.verdict drawing c.in_ok-graph.ensures.edges
    (c.names.ensures ∙ read.names) c.in_ok-moves.ensures.accepted (c.as_slice.ensures ∙ c.in_ok-moves.ensures.moves) (c.in_ok-verdict.ensures (places_of c.names.result.now) c.in_ok-parts.ensures.tells_scrap)
