-- Walks from the root, with nothing done.
use Rattle.std.proofs.Common.{◌≡◌, ℕ, ◌≤◌, ◌≢◌, ◌+◌, ◌%◌, List, [], ◌∷◌, refl, sym, ap, subst, arith, ◌∙◌, inl, suc}
use Rattle.rotation_systems.specs.RotationSystem.{RotationSystem, IsRotationSystem, same, degree}
use Rattle.cover_walks.specs.Walks.{IsExhausted, TopLeaves, Walking, IsCounted, breaks, breaks_after, ends, is_odd, odd_count}
use Rattle.cover_walks.proofs.Numbers.{differ_same, same_same, same_other}
use Rattle.cover_walks.proofs.Parity.{walk_flips, exhausted_even}
use Rattle.cover_walks.proofs.Steps.{follow_again}
use Rattle.cover_walks.proofs.Finish.{counted_first}

-- the first one begins
pub start_walk : (g : RotationSystem) (component : ℕ → ℕ) (start avoid : ℕ) → Walking g component (component (g.from start)) start avoid (g.from start) (g.from start) [] [] []
start_walk g component start avoid = record {
  laid = record { inside = tt; once = tt; grows = tt; last = tt };
  place = refl;
  stands = inl (refl, refl);
  finished = tt;
  follow = refl;
  shape = tt;
  breaks = refl;
  ends = λ v. omega arith;
}

-- the top of the stack makes no break with the vertex that it leaves
pub breaks_of_top : (g : RotationSystem) (z : ℕ) (stack : List ℕ) → TopLeaves g z stack → breaks g stack ≡ breaks_after g z stack
breaks_of_top g z [] k = absurd k
breaks_of_top g z (a ∷ l) k = let e = differ_same z (g.from a) (sym k) in omega arith

module _ (g : RotationSystem) (component : ℕ → ℕ) (c start avoid z : ℕ) (base stack : List ℕ)
    (w : Walking g component c start avoid (g.from start) z [] base stack) (leaves : TopLeaves g z stack) where
  pub root_breaks : breaks g stack ≡ breaks_after g (g.from start) base
  root_breaks = breaks_of_top g z stack leaves ∙ w.breaks

  -- another may begin
  pub root_again : component (g.from start) ≡ c → (other : ℕ) → IsExhausted g stack z → Walking g component c start other (g.from start) (g.from start) [] stack stack
  root_again at other h = record {
    laid = w.laid;
    place = at;
    stands = inl (refl, refl);
    finished = tt;
    follow = follow_again g (g.from start) stack (g.from start) z base stack w.stands h w.follow;
    shape = w.shape;
    breaks = refl;
    ends = λ v. omega arith;
  }

module _ (g : RotationSystem) (r : IsRotationSystem g) (component : ℕ → ℕ) (c start avoid z : ℕ) (base stack : List ℕ)
    (w : Walking g component c start avoid (g.from start) z [] base stack) (leaves : TopLeaves g z stack) (h : IsExhausted g stack z) where
  pub root_flips : (v : ℕ) → (is_odd g stack v + (same (g.from start) v + same z v)) % 2 ≡ is_odd g base v
  root_flips = walk_flips g r component c start avoid (g.from start) z [] base stack w

  end_even : is_odd g stack z ≡ 0
  end_even = exhausted_even g r component c stack z w.laid.inside w.laid.once h

  -- a walk that begins where the root is odd is open, and leaves it even
  module _ (odd : is_odd g base (g.from start) ≡ 1) where
    pub open_end : z ≢ g.from start
    open_end e =
        let f = root_flips (g.from start) in
        let even : is_odd g stack (g.from start) ≡ 0 = subst (λ v. is_odd g stack v ≡ 0) e end_even in
        let one = same_same (g.from start) (g.from start) refl in
        let two = same_same z (g.from start) e in
        omega arith

    pub root_even : is_odd g stack (g.from start) ≡ 0
    root_even =
        let f = root_flips (g.from start) in
        let one = same_same (g.from start) (g.from start) refl in
        let none = same_other z (g.from start) open_end in
        omega arith

    -- so the count is one less
    pub first_within : (vertices most : ℕ) → IsCounted g component c vertices most (g.from start) [] stack → suc (breaks g stack + odd_count g component c vertices stack) ≤ most
    first_within vertices most k = counted_first g component c (g.from start) vertices most z stack k leaves open_end root_even

  -- an open walk that begins where the root is even leaves it odd
  pub then_odd : z ≢ g.from start → is_odd g base (g.from start) ≡ 0 → is_odd g stack (g.from start) ≡ 1
  then_odd n even =
      let f = root_flips (g.from start) in
      let one = same_same (g.from start) (g.from start) refl in
      let none = same_other z (g.from start) n in
      omega arith

-- the first walk was closed: all parities are as at first, and the root has an even number of edges
module _ (g : RotationSystem) (r : IsRotationSystem g) (component : ℕ → ℕ) (c start avoid z : ℕ) (stack : List ℕ)
    (w : Walking g component c start avoid (g.from start) z [] [] stack) (leaves : TopLeaves g z stack) (h : IsExhausted g stack z) (at_root : z ≡ g.from start) where
  pub closed_first : (breaks g stack ≡ 0) × ((v : ℕ) → ends g stack v % 2 ≡ 0)
  closed_first = (
    root_breaks g component c start avoid z [] stack w leaves,
    λ v.
        let e = w.ends v in
        let s : same z v ≡ same (g.from start) v = ap (λ u. same u v) at_root in
        omega arith,
  )

  pub closed_root : degree g (g.from start) % 2 ≡ 0
  closed_root =
      let even = exhausted_even g r component c stack (g.from start) w.laid.inside w.laid.once (subst (λ v. IsExhausted g stack v) at_root h) in
      let e = closed_first.1 (g.from start) in
      omega arith
