-- Faces that are reached, by flags; and a scan of what burns from its end.
use Rattle.std.proofs.Common.{arith, ◌≡◌, ◌≢◌, ℕ, ◌+◌, ◌<◌, ◌≤◌, ◌⊎◌, inl, inr, Bool, true, false, List, [], ◌∷◌, ◌++◌, length, drop, get_or, set, length-set, get_or-set_same, get_or-set_other, refl, sym, ap, ◌∙◌, subst, append_assoc}
use Rattle.std.specs.Prelude.{slice_get, slice_index, slice_index_or, Some, IsTrue}
use Rattle.std.proofs.lemmas.Bool.{cases_eq}
use Rattle.std.proofs.lemmas.List.{length-map, map-append, length-append, append-nil}
use Rattle.std.proofs.lemmas.Option.{get_or_from_slice_get}
use Rattle.std.proofs.Math.Seq.{drop-append-add}
use Rattle.nest_base.proofs.Lists.{Contains-head, Contains-later, Contains-cases}
use Rattle.nest_base.proofs.ListReads.{one_read, All-read}
use Rattle.rotation_systems.specs.Twins.{twin_number}
use Rattle.face_nesting.specs.Nesting.{IsFaceCount}
use Rattle.replay_check.specs.declared.burns.Burn.{Burn}
use Rattle.replay_check.specs.Burning.{burnt_sides, IsFaceReached, AreReached, GrowsAt, GrowsThroughout, IsLastCut}
use Rattle.replay_check.proofs.Selecting.{split_is_there}

-- the face of a half-edge, as it is read
face_read : (faces : List ℕ) (s f : ℕ) → slice_get faces s ≡ Some f → slice_index faces s ≡ f
face_read faces s f at = get_or_from_slice_get faces s f 0 at

pub face_below : (faces : List ℕ) (count s f : ℕ) → IsFaceCount faces count → slice_get faces s ≡ Some f → f < count
face_below faces count s f counts at = All-read (λ f. f < count) faces s f counts.below at

pub twin_read : (faces : List ℕ) (s t f : ℕ) → t ≡ twin_number s → slice_get faces t ≡ Some f → slice_get faces (twin_number s) ≡ Some f
twin_read faces s t f is at = subst (λ n. slice_get faces n ≡ Some f) is at

not_both : (b : Bool) → b ≡ false → IsTrue b → ⊥
not_both b off on = grind (arith, off, on)

-- a flag that is set, and one that stays
flag_set : (flags : List Bool) (f g h : ℕ) → f < length flags → g < length flags → (h ≡ f) ⊎ (h ≡ g) → IsTrue (slice_index_or (set (set flags f true) g true) h false)
flag_set flags f g h f_below g_below same = elim (cases_eq h g) [
  | inl at_g ↦ subst (λ n. IsTrue (get_or (set (set flags f true) g true) n false)) (sym at_g) (get_or-set_same (set flags f true) g true false (omega (arith, g_below, length-set flags f true)))
  | inr not_g ↦ get_or-set_other (set flags f true) g h true false not_g ∙ elim same [
    | inl at_f ↦ subst (λ n. IsTrue (get_or (set flags f true) n false)) (sym at_f) (get_or-set_same flags f true false f_below)
    | inr at_g ↦ absurd (not_g at_g)
  ]
]

one_kept : (flags : List Bool) (f h : ℕ) → f < length flags → IsTrue (slice_index_or flags h false) → IsTrue (slice_index_or (set flags f true) h false)
one_kept flags f h below on = elim (cases_eq h f) [
  | inl same ↦ subst (λ n. IsTrue (get_or (set flags f true) n false)) (sym same) (get_or-set_same flags f true false below)
  | inr other ↦ get_or-set_other flags f h true false other ∙ on
]

flag_kept : (flags : List Bool) (f g h : ℕ) → f < length flags → g < length flags → IsTrue (slice_index_or flags h false) → IsTrue (slice_index_or (set (set flags f true) g true) h false)
flag_kept flags f g h f_below g_below on = one_kept (set flags f true) g h (omega (arith, g_below, length-set flags f true)) (one_kept flags f h f_below on)

flag_before : (flags : List Bool) (f g h : ℕ) → h ≢ f → h ≢ g → IsTrue (slice_index_or (set (set flags f true) g true) h false) → IsTrue (slice_index_or flags h false)
flag_before flags f g h not_f not_g on = sym (get_or-set_other flags f h true false not_f) ∙ sym (get_or-set_other (set flags f true) g h true false not_g) ∙ on

reached_later : (faces : List ℕ) (s : ℕ) (sides : List ℕ) (f : ℕ) → IsFaceReached faces sides f → IsFaceReached faces (s ∷ sides) f
reached_later faces s sides f (inl outer) = inl outer
reached_later faces s sides f (inr (t, stands, face)) = inr (t, Contains-later s t sides stands, face)

-- the faces f and g of the half-edge s and its twin
module _ (faces : List ℕ) (count s f g : ℕ) (flags : List Bool) (f_is : slice_get faces s ≡ Some f) (g_is : slice_get faces (twin_number s) ≡ Some g) (f_below : f < count) (g_below : g < count)
    (later : List ℕ) (are : AreReached faces count later flags) where
  pub none_grows : slice_index_or flags f false ≡ false → slice_index_or flags g false ≡ false →
      IsFaceReached faces later (slice_index faces s) ⊎ IsFaceReached faces later (slice_index faces (twin_number s)) → ⊥
  none_grows f_off g_off (inl one) = not_both _ f_off ((are.flag f f_below).1 (subst (IsFaceReached faces later) (face_read faces s f f_is) one))
  none_grows f_off g_off (inr other) = not_both _ g_off ((are.flag g g_below).1 (subst (IsFaceReached faces later) (face_read faces (twin_number s) g g_is) other))

  pub one_grows : IsTrue (slice_index_or flags f false) → IsFaceReached faces later (slice_index faces s)
  one_grows on = subst (IsFaceReached faces later) (sym (face_read faces s f f_is)) ((are.flag f f_below).0 on)

  pub other_grows : IsTrue (slice_index_or flags g false) → IsFaceReached faces later (slice_index faces (twin_number s))
  other_grows on = subst (IsFaceReached faces later) (sym (face_read faces (twin_number s) g g_is)) ((are.flag g g_below).0 on)

  f_within : f < length flags
  f_within = omega (arith, f_below, are.as_many)

  g_within : g < length flags
  g_within = omega (arith, g_below, are.as_many)

  new_reached : (h : ℕ) → h < count → IsTrue (slice_index_or (set (set flags f true) g true) h false) → IsFaceReached faces (s ∷ later) h
  new_reached h below on = elim (cases_eq h f) [
    | inl same ↦ inr (s, Contains-head s later, inl (face_read faces s f f_is ∙ sym same))
    | inr not_f ↦ elim (cases_eq h g) [
      | inl same ↦ inr (s, Contains-head s later, inr (face_read faces (twin_number s) g g_is ∙ sym same))
      | inr not_g ↦ reached_later faces s later h ((are.flag h below).0 (flag_before flags f g h not_f not_g on))
    ]
  ]

  reached_new : (h : ℕ) → h < count → IsFaceReached faces (s ∷ later) h → IsTrue (slice_index_or (set (set flags f true) g true) h false)
  reached_new h below (inl outer) = flag_kept flags f g h f_within g_within ((are.flag h below).1 (inl outer))
  reached_new h below (inr (t, stands, face)) = elim (Contains-cases s t later stands) [
    | inl same ↦ of_s (subst (λ n. (slice_index faces n ≡ h) ⊎ (slice_index faces (twin_number n) ≡ h)) (sym same) face)
    | inr before ↦ flag_kept flags f g h f_within g_within ((are.flag h below).1 (inr (t, before, face)))
  ]
    where
      of_s : (slice_index faces s ≡ h) ⊎ (slice_index faces (twin_number s) ≡ h) → IsTrue (slice_index_or (set (set flags f true) g true) h false)
      of_s (inl one) = flag_set flags f g h f_within g_within (inl (sym one ∙ face_read faces s f f_is))
      of_s (inr other) = flag_set flags f g h f_within g_within (inr (sym other ∙ face_read faces (twin_number s) g g_is))

  pub both_reached : AreReached faces count (s ∷ later) (set (set flags f true) g true)
  both_reached = record {
    as_many = length-set (set flags f true) g true ∙ length-set flags f true ∙ are.as_many;
    flag = λ h below. (new_reached h below, reached_new h below);
  }

-- the edges of `rest` are still to be looked at, from its end on, and all behind them grow
pub record IsScanned (faces : List ℕ) (count : ℕ) (burns rest : List Burn) (flags : List Bool) : Type 0 where
  pub scanned : List Burn
  pub joined : burns ≡ rest ++ scanned
  pub reached : AreReached faces count (burnt_sides scanned) flags
  pub grows : (k : ℕ) → length rest ≤ k → k < length burns → GrowsAt faces (burnt_sides burns) k

pub scan_begun : (faces : List ℕ) (count : ℕ) (burns rest : List Burn) (flags : List Bool) → rest ≡ burns → AreReached faces count [] flags → IsScanned faces count burns rest flags
scan_begun faces count burns rest flags all reached = record {
  scanned = [];
  joined = sym all ∙ sym (append-nil rest);
  reached = reached;
  grows = λ k above below. absurd (omega (arith, above, below, ap length all));
}

pub scan_done : (faces : List ℕ) (count : ℕ) (burns rest : List Burn) (flags : List Bool) → length rest ≡ 0 → IsScanned faces count burns rest flags → GrowsThroughout faces burns
scan_done faces count burns rest flags none scan k below = scan.grows k (omega (arith, none)) below

-- the last edge of the rest
module _ (faces : List ℕ) (count : ℕ) (burns rest front : List Burn) (b : Burn) (flags : List Bool) (last : rest ≡ front ++ b ∷ []) (scan : IsScanned faces count burns rest flags) where
  split : burns ≡ front ++ b ∷ scan.scanned
  split = scan.joined ∙ ap (λ l. l ++ scan.scanned) last ∙ append_assoc front (b ∷ []) scan.scanned

  abbrev side : Burn → ℕ
  side b = b.side.0

  sides : burnt_sides burns ≡ burnt_sides front ++ b.side.0 ∷ burnt_sides scan.scanned
  sides = ap burnt_sides split ∙ map-append side front (b ∷ scan.scanned)

  pub there : slice_get (burnt_sides burns) (length front) ≡ Some b.side.0
  there = let same : length (burnt_sides front) ≡ length front = length-map front side in
      subst (λ n. slice_get (burnt_sides burns) n ≡ Some b.side.0) same (ap (λ l. slice_get l (length (burnt_sides front))) sides ∙ split_is_there (burnt_sides front) b.side.0 (burnt_sides scan.scanned))

  behind : drop (length front + 1) (burnt_sides burns) ≡ burnt_sides scan.scanned
  behind = let same : length (burnt_sides front) ≡ length front = length-map front side in
      ap (drop (length front + 1)) sides ∙ subst (λ n. drop (n + 1) (burnt_sides front ++ b.side.0 ∷ burnt_sides scan.scanned) ≡ burnt_sides scan.scanned) same
      (drop-append-add (burnt_sides front) (b.side.0 ∷ burnt_sides scan.scanned) 1)

  abbrev pub Grown : Type 0
  Grown = IsFaceReached faces (burnt_sides scan.scanned) (slice_index faces b.side.0) ⊎ IsFaceReached faces (burnt_sides scan.scanned) (slice_index faces (twin_number b.side.0))

  pub scan_grown : (new : List Bool) → Grown → AreReached faces count (b.side.0 ∷ burnt_sides scan.scanned) new → IsScanned faces count burns front new
  scan_grown new grown reached = record {
    scanned = b ∷ scan.scanned;
    joined = split;
    reached = reached;
    grows = λ k above below. elim (cases_eq k (length front)) [
      | inl same ↦ subst (GrowsAt faces (burnt_sides burns)) (sym same) grown_at
      | inr other ↦ scan.grows k (omega (arith, above, other, length_rest)) below
    ];
  }
    where
      length_rest : length rest ≡ length front + 1
      length_rest = ap length last ∙ length-append front (b ∷ [])

      grown_at : GrowsAt faces (burnt_sides burns) (length front)
      grown_at = (
        b.side.0,
        there,
        elim grown [
          | inl one ↦ inl (subst (λ l. IsFaceReached faces l (slice_index faces b.side.0)) (sym behind) one)
          | inr other ↦ inr (subst (λ l. IsFaceReached faces l (slice_index faces (twin_number b.side.0))) (sym behind) other)
        ],
      )

  pub scan_cut : (Grown → ⊥) → IsLastCut faces burns b.line
  scan_cut stays = record {
    place = length front;
    burn = b;
    at = ap (λ l. slice_get l (length front)) split ∙ split_is_there front b scan.scanned;
    line_is = refl;
    cut = λ grows. stays (grown_by (subst Reached (one_read (burnt_sides burns) (length front) grows.0 b.side.0 grows.1 there) grows.2));
    later = λ k above below. scan.grows k (omega (arith, above, length_rest)) below;
  }
    where
      length_rest : length rest ≡ length front + 1
      length_rest = ap length last ∙ length-append front (b ∷ [])

      Reached : ℕ → Type 0
      Reached n = IsFaceReached faces (drop (length front + 1) (burnt_sides burns)) (slice_index faces n) ⊎ IsFaceReached faces (drop (length front + 1) (burnt_sides burns)) (slice_index faces (twin_number n))

      grown_by : Reached b.side.0 → Grown
      grown_by (inl one) = inl (subst (λ l. IsFaceReached faces l (slice_index faces b.side.0)) behind one)
      grown_by (inr other) = inr (subst (λ l. IsFaceReached faces l (slice_index faces (twin_number b.side.0))) behind other)

-- flags that are one list are of one meaning
pub reached_same : (faces : List ℕ) (count : ℕ) (sides : List ℕ) (flags given : List Bool) → given ≡ flags → AreReached faces count sides flags → AreReached faces count sides given
reached_same faces count sides flags given same are = subst (AreReached faces count sides) (sym same) are
