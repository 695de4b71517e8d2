-- The lines of one chain more.
use Rattle.std.proofs.Common.{arith, ◌≡◌, ◌<◌, ◌+◌, ℕ, zero, suc, List, [], ◌∷◌, ◌++◌, map, take, flat_map, sym, ap, ◌∙◌, append_assoc}
use Rattle.std.specs.Prelude.{Option, Some, slice_get, All}
use Rattle.std.proofs.lemmas.List.{append-nil}
use Rattle.std.proofs.lemmas.Option.{none-some, same_Some}
use Rattle.nest_base.specs.declared.numbers.Side.{Side}
use Rattle.nest_base.specs.declared.places.Point.{Point}
use Rattle.nest_base.specs.Plane.{HalfEdge}
use Rattle.nest_base.proofs.ListReads.{All-read, All-from_reads, read-map}
use Rattle.plate_sides.specs.Paths.{path_from, paths_of}
use Rattle.nest_base.specs.NumberLists.{side_numbers}
use Rattle.code_moves.specs.CodeText.{chain_text}

module _ (half : ℕ → HalfEdge) where
  -- the lines of the first n chains
  abbrev pub lines_of : List (Option Point) → List (List ℕ) → ℕ → List ℕ
  lines_of leads chains n = flat_map chain_text (paths_of (take n leads) (map (map half) (take n chains)))

  one_more : (leads : List (Option Point)) (chains : List (List ℕ)) (i : ℕ) (lead : Option Point) (chain : List ℕ) → slice_get leads i ≡ Some lead → slice_get chains i ≡ Some chain →
      lines_of leads chains (suc i) ≡ lines_of leads chains i ++ chain_text (path_from lead (map half chain))
  one_more [] chains i lead chain is_lead is_chain = absurd (none-some lead is_lead)
  one_more (first ∷ leads) [] i lead chain is_lead is_chain = absurd (none-some chain is_chain)
  one_more (first ∷ leads) (one ∷ chains) zero lead chain is_lead is_chain =
      append-nil (chain_text (path_from first (map half one)))
      ∙ ap (λ (l : Option Point). chain_text (path_from l (map half one))) (same_Some first lead is_lead)
      ∙ ap (λ c. chain_text (path_from lead (map half c))) (same_Some one chain is_chain)
  one_more (first ∷ leads) (one ∷ chains) (suc i) lead chain is_lead is_chain =
      let front : List ℕ = chain_text (path_from first (map half one)) in
      ap (λ l. front ++ l) (one_more leads chains i lead chain is_lead is_chain)
      ∙ sym (append_assoc front (lines_of leads chains i) (chain_text (path_from lead (map half chain))))

  pub next_chain : (leads : List (Option Point)) (chains : List (List ℕ)) (i : ℕ) (lead : Option Point) (chain : List ℕ) (head before after : List ℕ) →
      slice_get leads i ≡ Some lead → slice_get chains i ≡ Some chain → before ≡ head ++ lines_of leads chains i →
      after ≡ before ++ chain_text (path_from lead (map half chain)) → after ≡ head ++ lines_of leads chains (i + 1)
  next_chain leads chains i lead chain head before after is_lead is_chain is_before is_after =
      let next : suc i ≡ i + 1 = omega arith in
      is_after ∙ ap (λ l. l ++ chain_text (path_from lead (map half chain))) is_before
      ∙ append_assoc head (lines_of leads chains i) (chain_text (path_from lead (map half chain)))
      ∙ ap (λ l. head ++ l) (sym (one_more leads chains i lead chain is_lead is_chain))
      ∙ ap (λ n. head ++ lines_of leads chains n) next

-- the half-edges of a chain of the plan are those of the graph
pub chain_within : (n : ℕ) (chains : List (List ℕ)) (i : ℕ) (chain : List Side) → All (λ sides. All (λ s. s < n) sides) chains →
    slice_get chains i ≡ Some (side_numbers chain) → All (λ (s : Side). s.0 < n) chain
chain_within n chains i chain within at =
    let below = All-read (λ sides. All (λ s. s < n) sides) chains i (side_numbers chain) within at in
    All-from_reads (λ (s : Side). s.0 < n) chain (λ k s at_k. All-read (λ m. m < n) (side_numbers chain) k s.0 below (read-map (λ (t : Side). t.0) chain k s at_k))
