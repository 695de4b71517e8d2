-- Half-edges that go along to one another, and the cycles that they make.
use Rattle.std.proofs.Common.{arith, ◌≡◌, ◌⊎◌, inl, inr, ℕ, zero, suc, ◌+◌, ◌-◌, ◌<◌, List, [], ◌∷◌, ◌++◌, length, get_or, sym, ap, subst, ◌∙◌, length-append}
use Rattle.std.specs.Prelude.{Contains, All, Some, slice_get}
use Rattle.std.specs.List.{AllAdjacentBelow}
use Rattle.std.proofs.lemmas.List.{get_or_append_left, get_or-append-add}
use Rattle.std.proofs.lemmas.List.Elements.{All-contains}
use Rattle.std.proofs.lemmas.Option.{get_or_from_slice_get, slice_get_within, slice_get-get_or}
use Rattle.std.proofs.lemmas.Bool.{cases_lt}
use Rattle.nest_base.specs.Walks.{Walk, here, on}
use Rattle.nest_base.proofs.Walks.{Walk-then}
use Rattle.rotation_systems.specs.RotationSystem.{RotationSystem, IsRotationSystem, along}
use Rattle.nest_base.proofs.ListReads.{Contains-from_read, read_from_Contains, one_read, read_pushed, read_kept}
use Rattle.face_nesting.specs.Cycles.{GoesTo, OnOneCycle, IsCycleFrom}

module _ {g : RotationSystem} (known : IsRotationSystem g) where
  pub along_below : (s : ℕ) → s < g.sides → along g s < g.sides
  along_below s below = known.cw_in (g.twin s) (known.twin_in s below)

  -- one alone goes along to each
  pub along_one : (s t : ℕ) → s < g.sides → t < g.sides → along g s ≡ along g t → s ≡ t
  along_one s t below_s below_t same =
      let twins = sym (known.ccw_cw (g.twin s) (known.twin_in s below_s)) ∙ ap g.ccw same ∙ known.ccw_cw (g.twin t) (known.twin_in t below_t) in
      sym (known.twin_twin s) ∙ ap g.twin twins ∙ known.twin_twin t

-- each element of a path and the one behind it
abbrev pub IsPath : RotationSystem → List ℕ → ℕ → Type 0
IsPath g path s = AllAdjacentBelow (GoesTo g) (path ++ s ∷ []) (length path + 1)

pub path_begun : (g : RotationSystem) (s : ℕ) → IsPath g [] s
path_begun g s k d less = absurd (omega (arith, less))

-- the elements by their places
pub path_goes : (g : RotationSystem) (path : List ℕ) (s k x y : ℕ) → IsPath g path s →
    slice_get (path ++ s ∷ []) k ≡ Some x → slice_get (path ++ s ∷ []) (k + 1) ≡ Some y → along g x ≡ y
path_goes g path s k x y goes at_x at_y =
    let within = slice_get_within (path ++ s ∷ []) (k + 1) y at_y in
    let long = length-append path (s ∷ []) in
    sym (ap (along g) (get_or_from_slice_get (path ++ s ∷ []) k x 0 at_x)) ∙ goes k 0 (omega (arith, within, long)) ∙ get_or_from_slice_get (path ++ s ∷ []) (k + 1) y 0 at_y

pub path_more : (g : RotationSystem) (path : List ℕ) (s : ℕ) → IsPath g path s → IsPath g (path ++ s ∷ []) (along g s)
path_more g path s goes k d less =
    let old = path ++ s ∷ [] in
    let t = along g s in
    let long = length-append path (s ∷ []) in
    elim (cases_lt (k + 1) (length old)) [
      | inl before ↦
          ap (along g) (get_or_append_left old (t ∷ []) d k (omega (arith, before))) ∙ goes k d (omega (arith, before, long)) ∙ sym (get_or_append_left old (t ∷ []) d (k + 1) before)
      | inr last ↦
          let at : k ≡ length path + 0 = omega (arith, last, less, long) in
          let behind : k + 1 ≡ length old + 0 = omega (arith, last, less, long) in
          let first = get_or_append_left old (t ∷ []) d k (omega (arith, last, less, long)) ∙ ap (λ j. get_or old j d) at ∙ get_or-append-add path (s ∷ []) 0 d in
          let second = ap (λ j. get_or (old ++ t ∷ []) j d) behind ∙ get_or-append-add old (t ∷ []) 0 d in
          ap (along g) first ∙ sym second
    ]

module _ {g : RotationSystem} (known : IsRotationSystem g) where
  -- to what a path comes, it has been or there it began
  pub path_met : (path : List ℕ) (s first t : ℕ) → IsPath g path s → All (λ x. x < g.sides) path → s < g.sides →
      slice_get (path ++ s ∷ []) 0 ≡ Some first → Contains (path ++ s ∷ []) t → t ≡ along g s → (t ≡ first) ⊎ Contains path s
  path_met path s first t goes within below begins stands is = of (read_from_Contains (path ++ s ∷ []) t stands)
    where
      of : (k : ℕ) × (slice_get (path ++ s ∷ []) k ≡ Some t) → (t ≡ first) ⊎ Contains path s
      of (zero, at) = inl (one_read (path ++ s ∷ []) 0 t first at begins)
      of (suc k, at) =
          let inside : k < length path = omega (arith, slice_get_within (path ++ s ∷ []) (suc k) t at, length-append path (s ∷ [])) in
          let x = get_or path k 0 in
          let at_x = slice_get-get_or path k 0 inside in
          let stands_x = Contains-from_read path k x at_x in
          let next : suc k ≡ k + 1 = omega arith in
          let comes = path_goes g path s k x t goes (read_kept path s k x at_x) (ap (slice_get (path ++ s ∷ [])) (sym next) ∙ at) in
          let same = along_one known x s (All-contains (λ y. y < g.sides) path x within stands_x) below (comes ∙ is) in
          inr (subst (Contains path) same stands_x)

  -- what goes along to a half-edge of a cycle stands in it too
  pub cycle_before : (first : ℕ) (cycle : List ℕ) (t : ℕ) → IsCycleFrom g first cycle → All (λ x. x < g.sides) cycle → t < g.sides →
      Contains cycle (along g t) → Contains cycle t
  cycle_before first cycle t is within below stands = of (read_from_Contains cycle (along g t) stands)
    where
      -- the element at a place that goes on to this one
      from : (k x : ℕ) → slice_get cycle k ≡ Some x → along g x ≡ along g t → Contains cycle t
      from k x at same =
          let stands_x = Contains-from_read cycle k x at in
          subst (Contains cycle) (along_one known x t (All-contains (λ y. y < g.sides) cycle x within stands_x) below same) stands_x

      of : (k : ℕ) × (slice_get cycle k ≡ Some (along g t)) → Contains cycle t
      of (zero, at) =
          let some = slice_get_within cycle 0 (along g t) at in
          let last = length cycle - 1 in
          let at_last = slice_get-get_or cycle last 0 (omega (arith, some)) in
          let next : last + 1 ≡ length cycle = omega (arith, some) in
          let turns = path_goes g cycle first last (get_or cycle last 0) first is.goes_round (read_kept cycle first last (get_or cycle last 0) at_last)
          (ap (slice_get (cycle ++ first ∷ [])) next ∙ read_pushed cycle first) in
          from last (get_or cycle last 0) at_last (turns ∙ one_read cycle 0 first (along g t) is.begins at)
      of (suc k, at) =
          let inside : k < length cycle = omega (arith, slice_get_within cycle (suc k) (along g t) at) in
          let at_x = slice_get-get_or cycle k 0 inside in
          let next : k + 1 ≡ suc k = omega arith in
          from k (get_or cycle k 0) at_x (path_goes g cycle first k (get_or cycle k 0) (along g t) is.goes_round (read_kept cycle first k (get_or cycle k 0) at_x)
          (ap (slice_get (cycle ++ first ∷ [])) next ∙ read_kept cycle first (suc k) (along g t) at))

-- the first of a cycle leads to each of it
pub cycle_walk : (g : RotationSystem) (first : ℕ) (cycle : List ℕ) (t : ℕ) → IsCycleFrom g first cycle → Contains cycle t → OnOneCycle g first t
cycle_walk g first cycle t is stands = let place = read_from_Contains cycle t stands in to place.0 t place.1
  where
    to : (k x : ℕ) → slice_get cycle k ≡ Some x → Walk (GoesTo g) x first
    to zero x at = subst (λ y. Walk (GoesTo g) y first) (one_read cycle 0 first x is.begins at) here
    to (suc k) x at =
        let inside : k < length cycle = omega (arith, slice_get_within cycle (suc k) x at) in
        let at_y = slice_get-get_or cycle k 0 inside in
        let next : k + 1 ≡ suc k = omega arith in
        let goes = path_goes g cycle first k (get_or cycle k 0) x is.goes_round (read_kept cycle first k (get_or cycle k 0) at_y)
        (ap (slice_get (cycle ++ first ∷ [])) next ∙ read_kept cycle first (suc k) x at) in
        Walk-then (to k (get_or cycle k 0) at_y) (on goes here)
