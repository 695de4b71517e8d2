-- An accepted drawing is refused for no reason, so where nothing failed it's planned, or memory ran out.
use Rattle.std.proofs.Common.{ap, arith, ◌≡◌, ◌≢◌, ◌≤◌, ◌∙◌, inl, inr, ℕ, List, refl, sym, subst}
use Rattle.std.specs.Prelude.{Some, None}
use Rattle.std.specs.Option.{is_some}
use Rattle.std.proofs.lemmas.Bool.{true≢false}
use Rattle.nest_base.proofs.ListReads.{Contains-from_read}
use Rattle.plate_edges.proofs.Counts.{one_number_of_pieces}
use Rattle.cut_desk.specs.Outside.{Outside, Told, WhereTold, Rose, Later}
use Rattle.nest_base.specs.declared.places.Edge.{Edge}
use Rattle.plate_edges.proofs.OneList.{one_list}
use Rattle.plate_parts.specs.Parts.{AreDistinct}
use Rattle.part_scrap.specs.Naming.{places_of}
use Rattle.part_scrap.specs.Refusals.{IsPartRefusal}
use Rattle.part_scrap.specs.declared.error.PartError.{PartError}
use Rattle.part_scrap.specs.declared.error.PartError.TheVariants.{OutOfMemory as NoRoom}
use Rattle.dxf_drawing.specs.Drawings.{segments_of, names_of}
use Rattle.segment_split.specs.Splits.{IsSplitRefusal}
use Rattle.segment_split.specs.declared.splitting.SplitError.{SplitError}
use Rattle.segment_split.specs.declared.splitting.SplitError.TheVariants.{Crossing, TooManyPieces, OutOfMemory as NoMemory}
use Rattle.nest_commands.specs.Outputs.{AreCutsOf, IsAccepted}
use Rattle.nest_commands.proofs.RefusedNames.{names_not_refused}
use Rattle.nest_commands.specs.Statuses.{IsRefused, IsDecided, HasCause, NoFaultRose, IsComplete}
use Rattle.nest_commands.specs.declared.status.Refusal.{Refusal}
use Rattle.nest_commands.specs.declared.status.Refusal.TheVariants.{Reading, Splitting, Naming}
use Rattle.nest_commands.specs.declared.status.Status.{Status}
use Rattle.nest_commands.specs.declared.status.Status.TheVariants.{Done, Words, ReadFault, TooLong, Drawing, WriteFault, PrintFault, Memory, Code, Unsound}

-- a drawing that is split isn't refused by splitting
split_not_refused : (file : List ℕ) (e : SplitError) → IsSplitRefusal e (segments_of file) → e ≢ NoMemory → IsAccepted file → ⊥
split_not_refused file (Crossing first second place) refused some accepted =
    let c = refused.crossing in
    accepted.1.cuts.split.on_lattice c.s c.t (Contains-from_read (segments_of file) c.i c.s c.found.0) (Contains-from_read (segments_of file) c.j c.t c.found.1) c.crosses.crosses
split_not_refused file TooManyPieces refused some accepted =
    omega (arith, one_number_of_pieces (segments_of file) refused.pieces accepted.1.cuts.split.pieces refused.have_pieces accepted.1.cuts.split.have_pieces, refused.many, accepted.1.cuts.split.few)
split_not_refused file NoMemory refused some accepted = some refl

-- the names of a drawing that is accepted aren't refused
named_not_refused : (file : List ℕ) (e : PartError) (edges : List Edge) → AreCutsOf file edges → IsPartRefusal edges (names_of file) e → e ≢ NoRoom → IsAccepted file → ⊥
named_not_refused file e edges cuts refused some (own, drawing) =
    let same : own ≡ edges = one_list (segments_of file) own edges drawing.cuts.split.are_edges cuts.split.are_edges in
    names_not_refused edges (names_of file) e (subst (λ (l : List Edge). AreDistinct l (places_of (names_of file))) same drawing.named) refused some

pub refused_not_accepted : (file : List ℕ) (refusal : Refusal) → IsRefused file refusal → IsAccepted file → ⊥
refused_not_accepted file (Reading e) refused accepted = true≢false (ap is_some (sym refused.0 ∙ accepted.1.cuts.read))
refused_not_accepted file (Splitting e) refused accepted = split_not_refused file e refused.1 refused.2 accepted
refused_not_accepted file (Naming e) (edges, cuts, refused, some) accepted = named_not_refused file e edges cuts refused some accepted

-- a count that rose is above itself later on too
pub rose_later : (before now later : ℕ) → Rose before now → now ≤ later → Rose before later
rose_later before now later rose after = omega (arith, rose, after)

-- what each status says of an accepted drawing
by_status : (status : Status) (input output : List ℕ) (old now new : Outside) (file : List ℕ) → status ≢ Words → IsDecided status file →
    HasCause status input output old now → Later now new → NoFaultRose input output old new → IsComplete status file
by_status Done input output old now new file command decided cause later none small accepted = inl refl
by_status Words input output old now new file command decided cause later none small accepted = absurd (command refl)
by_status ReadFault input output old now new file command decided cause later none small accepted =
    absurd (none.reads (rose_later (old.read_faults input) (now.read_faults input) (new.read_faults input) cause (later.reads input)))
by_status TooLong input output old now new file command decided cause later none small accepted = absurd (omega (arith, decided, small))
by_status (Drawing refusal) input output old now new file command decided cause later none small accepted = absurd (refused_not_accepted file refusal decided.1 accepted)
by_status WriteFault input output old now new file command decided cause later none small accepted =
    absurd (none.writes (rose_later (old.write_faults output) (now.write_faults output) (new.write_faults output) cause (later.writes output)))
by_status PrintFault input output old now new file command decided cause later none small accepted =
    absurd (none.prints (rose_later old.print_faults now.print_faults new.print_faults cause later.prints))
by_status Memory input output old now new file command decided cause later none small accepted = inr refl
by_status (Code fault) input output old now new file command decided cause later none small accepted = absurd cause
by_status (Unsound verdict) input output old now new file command decided cause later none small accepted = absurd cause

pub complete : (status : Status) (input output : List ℕ) (old now new : Outside) (told : Told) → status ≢ Words → WhereTold told (IsDecided status) →
    HasCause status input output old now → Later now new → NoFaultRose input output old new → WhereTold told (IsComplete status)
complete status input output old now new None command decided cause later none = tt
complete status input output old now new (Some None) command decided cause later none = tt
complete status input output old now new (Some (Some file)) command decided cause later none = by_status status input output old now new file command decided cause later none
