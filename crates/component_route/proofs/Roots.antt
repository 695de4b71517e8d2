-- Walks from the root, with nothing done.
use Rattle.std.proofs.Common.{◌≡◌, ℕ, ◌<◌, ◌≤◌, ◌+◌, ◌-◌, suc, List, [], ◌++◌, inl, inr, refl, sym, ap, subst, arith, ◌∙◌, length, None}
use Rattle.half_edges.specs.Graph.{Graph, rotations_of, component_of, origin_of}
use Rattle.cover_walks.specs.Walks.{Walking, Ready, IsExhausted, IsCounted, AreBelow, breaks, is_odd, odd_count}
use Rattle.cover_walks.specs.Choices.{IsReference}
use Rattle.cover_walks.proofs.Finish.{ready_first}
use Rattle.cover_walks.proofs.Roots.{first_within}
use Rattle.component_route.specs.Courses.{Course, order_of, StackGrows}
use Rattle.component_route.specs.Scans.{moved_last}
use Rattle.component_route.specs.States.{IsFresh, component_from, WalkHead, MainHead, FromRoot, RootWalk, CountsWithin, CountsWithinAt}
use Rattle.component_route.proofs.WalkSteps.{same_rotation, walk_again, walk_counted, grows_done}

module _ (o : Graph) (start : ℕ) (x : Graph) (r : Course) (h : FromRoot o start x r) where
  -- the outer corner is the reference
  pub root_reference : (u : ℕ) → u ≡ (rotations_of x).ccw start → IsReference (rotations_of o) start r.stack (origin_of o start) start u
  root_reference u e =
      let here = same_rotation o start None (origin_of o start) (origin_of o start) r.stack x r h.head in
      let next : u ≡ (rotations_of o).ccw start = e ∙ ap (λ g. g.ccw start) here in
      record {
        left_in = h.head.fresh.outer;
        right_in = subst (λ s. s < (rotations_of o).sides) (sym next) (h.head.fresh.rotation.ccw_in start h.head.fresh.outer);
        left_at = refl;
        right_at = ap (rotations_of o).from next ∙ h.head.fresh.rotation.ccw_from start h.head.fresh.outer;
        between = inr (refl, next);
      }

  pub start_in : start < (rotations_of x).sides
  start_in = subst (λ g. start < g.sides) (sym (same_rotation o start None (origin_of o start) (origin_of o start) r.stack x r h.head)) h.head.fresh.outer

  module _ (y : Graph) (q : Course) (last : ℕ) (w : WalkHead o start None (origin_of o start) (origin_of o last) r.stack y q) (end : IsExhausted (rotations_of o) (order_of q) (origin_of o last))
      (grows : StackGrows r q) (longer : length r.stack < length q.stack) where
    none : q.done ≡ []
    none = grows_done r q grows ∙ h.done

    alone : order_of q ≡ q.stack
    alone = ap (λ d. d ++ q.stack) none

    pub root_walk : RootWalk o start last r.stack q.stack
    root_walk = record {
      walking = subst (λ d. Walking (rotations_of o) (component_of o) (component_from o start) start (moved_last (rotations_of o) None) (origin_of o start) (origin_of o last) d r.stack q.stack) none w.walking;
      leaves = elim w.walking.stands [
        | inl e ↦ absurd (let same : length q.stack ≡ length r.stack = ap length e.1 in omega (arith, longer))
        | inr k ↦ k
      ];
      exhausted = subst (λ l. IsExhausted (rotations_of o) l (origin_of o last)) alone end;
    }

    pub root_main : MainHead o start y q
    root_main = record {
      fresh = w.fresh;
      burnt = w.burnt;
      ready = subst (λ d. Ready (rotations_of o) (component_of o) (component_from o start) start d q.stack) (sym none)
          (ready_first (rotations_of o) (component_of o) (component_from o start) start (moved_last (rotations_of o) None) (origin_of o last) r.stack q.stack root_walk.walking root_walk.exhausted root_walk.leaves);
      some = let e : length (order_of q) ≡ length q.stack = ap length alone in omega (arith, longer);
      room = w.room;
    }

    pub root_again : FromRoot o start y q
    root_again = record {
      head = walk_again o start None (origin_of o start) (origin_of o last) r.stack r.stack y x q r h.head w end;
      done = none;
    }

    pub root_counted : (vertices most : ℕ) → AreBelow (rotations_of o) vertices → last < (rotations_of y).sides → CountsWithinAt o start vertices most (origin_of o start) r → CountsWithinAt o start vertices most (origin_of o start) q
    root_counted vertices most b k c =
        walk_counted o start None (origin_of o start) (origin_of o last) r.stack y x q r h.head w grows end vertices most (b start h.head.fresh.outer)
        (b last (subst (λ g. last < g.sides) (same_rotation o start None (origin_of o start) (origin_of o last) r.stack y q w) k)) c

-- the count after a walk that began where the root was odd
pub within_first : (o : Graph) (start last : ℕ) (base : List ℕ) (q : Course) → IsFresh o start → RootWalk o start last base q.stack → q.done ≡ [] → is_odd (rotations_of o) base (origin_of o start) ≡ 1 →
    (vertices most : ℕ) → CountsWithinAt o start vertices most (origin_of o start) q → CountsWithin o start vertices (most - 1) q × (1 ≤ most)
within_first o start last base q f w none odd vertices most c =
    let k = first_within (rotations_of o) f.rotation (component_of o) (component_from o start) start (moved_last (rotations_of o) None) (origin_of o last) base q.stack w.walking w.leaves w.exhausted odd vertices most
    (subst (λ d. IsCounted (rotations_of o) (component_of o) (component_from o start) vertices most (origin_of o start) d q.stack) none c) in
    let all : suc (breaks (rotations_of o) (order_of q) + odd_count (rotations_of o) (component_of o) (component_from o start) vertices (order_of q)) ≤ most =
    subst (λ d. suc (breaks (rotations_of o) (d ++ q.stack) + odd_count (rotations_of o) (component_of o) (component_from o start) vertices (d ++ q.stack)) ≤ most) (sym none) k in
    (omega (arith, all), omega (arith, all))
