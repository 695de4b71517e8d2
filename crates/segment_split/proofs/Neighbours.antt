-- The pieces between neighbours of a list of places.
use Rattle.std.proofs.Common.{arith, ◌≡◌, ◌≢◌, ℕ, zero, suc, ◌+◌, ◌-◌, ◌<◌, inl, inr, List, [], ◌∷◌, ◌++◌, length, take, get_or, append_assoc, Contains, refl, ap, sym, subst, ◌∙◌}
use Rattle.std.specs.Prelude.{AllPairs}
use Rattle.std.proofs.lemmas.List.Kept.{AllPairs-cons}
use Rattle.nest_base.specs.declared.places.Point.{Point}
use Rattle.nest_base.specs.declared.places.Edge.{Edge}
use Rattle.nest_base.specs.Order.{IsBefore}
use Rattle.nest_base.proofs.Lists.{Contains-head, Contains-later, Contains-cases, Contains-none, All-from_contains, AllPairs-none, AllPairs-to_later, AllPairs-rest}
use Rattle.nest_base.proofs.Orders.{IsBefore-asym, IsBefore-irrefl}
use Rattle.plate_edges.proofs.Orders.{same_edge}
use Rattle.segment_split.specs.Pieces.{pieces_between}

-- one place more at the end gives the piece between the last two
more_behind : (p : Point) (places : List Point) (k : ℕ) (d e : Point) → k < length places →
    pieces_between (p ∷ take (suc k) places) ≡ pieces_between (p ∷ take k places) ++ record { low = get_or (p ∷ places) k d; high = get_or places k e } ∷ []
more_behind p [] k d e within = absurd (omega arith)
more_behind p (q ∷ places) zero d e within = refl
more_behind p (q ∷ places) (suc k) d e within = ap (λ later. record { low = p; high = q } ∷ later) (more_behind q places k d e (omega arith))

pieces_more : (places : List Point) (k : ℕ) (d e : Point) → 0 < k → k < length places →
    pieces_between (take (k + 1) places) ≡ pieces_between (take k places) ++ record { low = get_or places (k - 1) d; high = get_or places k e } ∷ []
pieces_more [] k d e some within = absurd (omega arith)
pieces_more (p ∷ places) zero d e some within = absurd (omega arith)
pieces_more (p ∷ places) (suc k) d e some within =
    let next : suc k + 1 ≡ suc (suc k) = omega arith in
    let before : suc k - 1 ≡ k = omega arith in
    rw (next, before) (more_behind p places k d e (omega arith))

-- a piece more behind those of the places in front
pub piece_pushed : (before edges : List Edge) (places : List Point) (k : ℕ) (d e : Point) → 0 < k → k < length places → edges ≡ before ++ pieces_between (take k places) →
    edges ++ record { low = get_or places (k - 1) d; high = get_or places k e } ∷ [] ≡ before ++ pieces_between (take (k + 1) places)
piece_pushed before edges places k d e some within so_far = rw (so_far, pieces_more places k d e some within) (append_assoc before (pieces_between (take k places)) _)

-- there is one piece less than there are places
pub pieces_length : (places : List Point) → length (pieces_between places) ≡ length places - 1
pieces_length [] = omega arith
pieces_length (p ∷ []) = omega arith
pieces_length (p ∷ q ∷ places) = omega (arith, pieces_length (q ∷ places))

-- the ends of a piece are places of the list
pub piece_ends : (places : List Point) (e : Edge) → Contains (pieces_between places) e → Contains places e.low × Contains places e.high
piece_ends [] e c = absurd (Contains-none e c)
piece_ends (p ∷ []) e c = absurd (Contains-none e c)
piece_ends (p ∷ q ∷ places) e c = elim (Contains-cases (record { low = p; high = q }) e (pieces_between (q ∷ places)) c) [
  | inl same ↦ (
    subst (λ (f : Edge). Contains (p ∷ q ∷ places) f.low) same (Contains-head p (q ∷ places)),
    subst (λ (f : Edge). Contains (p ∷ q ∷ places) f.high) same (Contains-later p q (q ∷ places) (Contains-head q places)),
  )
  | inr later ↦
      let ends = piece_ends (q ∷ places) e later in
      (Contains-later p e.low (q ∷ places) ends.0, Contains-later p e.high (q ∷ places) ends.1)
]

-- where the places are in order, so are the ends of each piece
pub piece_order : (places : List Point) → AllPairs IsBefore places → (e : Edge) → Contains (pieces_between places) e → IsBefore e.low e.high
piece_order [] order e c = absurd (Contains-none e c)
piece_order (p ∷ []) order e c = absurd (Contains-none e c)
piece_order (p ∷ q ∷ places) order e c = elim (Contains-cases (record { low = p; high = q }) e (pieces_between (q ∷ places)) c) [
  | inl same ↦ subst (λ (f : Edge). IsBefore f.low f.high) same (AllPairs-to_later IsBefore p q (q ∷ places) order (Contains-head q places))
  | inr later ↦ piece_order (q ∷ places) (AllPairs-rest IsBefore p (q ∷ places) order) e later
]

-- no piece comes twice
pub pieces_once : (places : List Point) → AllPairs IsBefore places → AllPairs (λ e f. e ≢ f) (pieces_between places)
pieces_once [] order = AllPairs-none (λ e f. e ≢ f)
pieces_once (p ∷ []) order = AllPairs-none (λ e f. e ≢ f)
pieces_once (p ∷ q ∷ places) order =
    let first : Edge = record { low = p; high = q } in
    let later : List Edge = pieces_between (q ∷ places) in
    let apart : (e : Edge) → Contains later e → first ≢ e = λ e c same.
    IsBefore-irrefl p e.low (AllPairs-to_later IsBefore p e.low (q ∷ places) order (piece_ends (q ∷ places) e c).0) (ap (λ (f : Edge). f.low) same) in
    AllPairs-cons (λ e f. e ≢ f) first later (All-from_contains (λ e. first ≢ e) later apart) (pieces_once (q ∷ places) (AllPairs-rest IsBefore p (q ∷ places) order))

-- no place of the list comes between the ends of a piece
pub none_between : (places : List Point) → AllPairs IsBefore places → (e : Edge) → Contains (pieces_between places) e → (m : Point) → Contains places m →
    IsBefore e.low m → IsBefore m e.high → ⊥
none_between [] order e c m among low high = Contains-none m among
none_between (p ∷ []) order e c m among low high = Contains-none e c
none_between (p ∷ q ∷ places) order e c m among low high = elim (Contains-cases (record { low = p; high = q }) e (pieces_between (q ∷ places)) c) [
  | inl same ↦
      let after_p : IsBefore p m = subst (λ (f : Edge). IsBefore f.low m) (sym same) low in
      let before_q : IsBefore m q = subst (λ (f : Edge). IsBefore m f.high) (sym same) high in
      elim (Contains-cases p m (q ∷ places) among) [
        | inl is ↦ IsBefore-irrefl p m after_p is
        | inr behind ↦ elim (Contains-cases q m places behind) [
          | inl is ↦ IsBefore-irrefl m q before_q (sym is)
          | inr further ↦ IsBefore-asym m q before_q (AllPairs-to_later IsBefore q m places (AllPairs-rest IsBefore p (q ∷ places) order) further)
        ]
      ]
  | inr later ↦ elim (Contains-cases p m (q ∷ places) among) [
    | inl is ↦ IsBefore-asym p e.low (AllPairs-to_later IsBefore p e.low (q ∷ places) order (piece_ends (q ∷ places) e later).0) (subst (IsBefore e.low) (sym is) low)
    | inr behind ↦ none_between (q ∷ places) (AllPairs-rest IsBefore p (q ∷ places) order) e later m behind low high
  ]
]

-- two places of the list with none between them are the ends of a piece
pub neighbours_are_piece : (places : List Point) → AllPairs IsBefore places → (e : Edge) → Contains places e.low → Contains places e.high → IsBefore e.low e.high →
    ((m : Point) → Contains places m → IsBefore e.low m → IsBefore m e.high → ⊥) → Contains (pieces_between places) e
neighbours_are_piece [] order e low high up none = absurd (Contains-none e.low low)
neighbours_are_piece (p ∷ []) order e low high up none = elim (Contains-cases p e.low [] low) [
  | inl is_low ↦ elim (Contains-cases p e.high [] high) [
    | inl is_high ↦ absurd (IsBefore-irrefl e.low e.high up (sym is_low ∙ is_high))
    | inr nowhere ↦ absurd (Contains-none e.high nowhere)
  ]
  | inr nowhere ↦ absurd (Contains-none e.low nowhere)
]
neighbours_are_piece (p ∷ q ∷ places) order e low high up none =
    let first : Edge = record { low = p; high = q } in
    let rest = AllPairs-rest IsBefore p (q ∷ places) order in
    let after_p : (m : Point) → Contains (q ∷ places) m → IsBefore p m = λ m c. AllPairs-to_later IsBefore p m (q ∷ places) order c in
    elim (Contains-cases p e.low (q ∷ places) low) [
      | inl is_low ↦ elim (Contains-cases p e.high (q ∷ places) high) [
        | inl is_high ↦ absurd (IsBefore-irrefl e.low e.high up (sym is_low ∙ is_high))
        | inr behind ↦ elim (Contains-cases q e.high places behind) [
          | inl is_high ↦ subst (Contains (pieces_between (p ∷ q ∷ places))) (same_edge {e = first} {f = e} is_low is_high) (Contains-head first (pieces_between (q ∷ places)))
          | inr further ↦ absurd (none q (Contains-later p q (q ∷ places) (Contains-head q places)) (subst (λ m. IsBefore m q) is_low (after_p q (Contains-head q places))) (AllPairs-to_later IsBefore q e.high places rest further))
        ]
      ]
      | inr behind ↦ elim (Contains-cases p e.high (q ∷ places) high) [
        | inl is_high ↦ absurd (IsBefore-asym p e.low (after_p e.low behind) (subst (IsBefore e.low) (sym is_high) up))
        | inr further ↦ Contains-later first e (pieces_between (q ∷ places)) (neighbours_are_piece (q ∷ places) rest e behind further up (λ m c. none m (Contains-later p m (q ∷ places) c)))
      ]
    ]
