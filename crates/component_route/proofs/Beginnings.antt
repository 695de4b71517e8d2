-- The beginning of a cover, and the undo.
use Rattle.std.proofs.Common.{◌≡◌, ℕ, ◌<◌, ◌≤◌, ◌+◌, ◌%◌, List, [], ◌++◌, inl, inr, refl, sym, ap, subst, arith, ◌∙◌, length, length-append, reverse, take, append-nil, None}
use Rattle.std.proofs.lemmas.List.{take-append-le, take_all, reverse-reverse}
use Rattle.rotation_systems.specs.RotationSystem.{IsRotationSystem, degree}
use Rattle.half_edges.specs.Graph.{Graph, rotations_of, component_of, origin_of}
use Rattle.half_edges.specs.Burns.{IsBurnt, with_burnt}
use Rattle.cover_walks.specs.Orders.{Has, Once}
use Rattle.cover_walks.specs.Walks.{Walking, IsCounted, AreBelow, Laid, breaks, is_odd, odd_count, ends}
use Rattle.cover_walks.specs.Choices.{AllBurnt, HasUnburnt}
use Rattle.cover_walks.proofs.Holdings.{has_inside, has_component}
use Rattle.cover_walks.proofs.Parity.{exhausted_even}
use Rattle.cover_walks.proofs.Roots.{start_walk, closed_first, closed_root, then_odd}
use Rattle.cover_walks.proofs.Scans.{find_unburnt}
use Rattle.cover_walks.proofs.Undo.{unburnt, counted, root_odd, laid_rest}
use Rattle.component_route.specs.Courses.{Course, order_of}
use Rattle.component_route.specs.Scans.{burnt_in, moved_last}
use Rattle.component_route.specs.States.{IsFresh, IsBurntBy, component_from, FromRoot, RootWalk, CountsWithinAt, IsUnbroken, HasOpened, CanReburn}
use Rattle.component_route.proofs.Burning.{tells, edge_from_has, has_reversed, exhausted_of, one_rotation}

module _ (o : Graph) (start : ℕ) (fresh : IsFresh o start) where
  -- at first nothing is burnt
  nothing_burnt : IsBurntBy o o []
  nothing_burnt = record { laid = []; graph = ap (with_burnt o) (sym (append-nil o.burnt)); edges = λ s. ((λ h. h), (λ h. h)) }

  module _ (r : Course) (done : r.done ≡ []) (stack : r.stack ≡ []) where
    pub nothing_laid : order_of r ≡ []
    nothing_laid = ap (λ d. d ++ r.stack) done ∙ stack

    pub fresh_root : (rotations_of o).sides ≤ r.room + r.room → FromRoot o start o r
    fresh_root room = record {
      head = record {
        fresh = fresh;
        burnt = subst (IsBurntBy o o) (sym nothing_laid) nothing_burnt;
        walking = subst (λ d. Walking (rotations_of o) (component_of o) (component_from o start) start (moved_last (rotations_of o) None) (origin_of o start) (origin_of o start) d r.stack r.stack) (sym done)
            (subst (λ s. Walking (rotations_of o) (component_of o) (component_from o start) start (moved_last (rotations_of o) None) (origin_of o start) (origin_of o start) [] s s) (sym stack)
            (start_walk (rotations_of o) (component_of o) start (moved_last (rotations_of o) None)));
        avoided = tt;
        room = room;
      };
      done = done;
    }

    -- the count at first
    pub fresh_counted : (vertices most : ℕ) → odd_count (rotations_of o) (component_of o) (component_from o start) vertices [] ≤ most + is_odd (rotations_of o) [] (origin_of o start) →
        CountsWithinAt o start vertices most (origin_of o start) r
    fresh_counted vertices most k =
        subst (λ d. IsCounted (rotations_of o) (component_of o) (component_from o start) vertices most (origin_of o start) d r.stack) (sym done)
        (subst (λ s. IsCounted (rotations_of o) (component_of o) (component_from o start) vertices most (origin_of o start) [] s) (sym stack) (omega (arith, k)))

  -- start itself is unburnt
  pub fresh_free : HasUnburnt (rotations_of o) (burnt_in o) (origin_of o start)
  fresh_free = (start, fresh.outer, refl, λ t. fresh.unburnt start fresh.outer refl (edge_from_has o fresh.rotation o.burnt start ((tells o o.burnt start).0 t)))

-- where an odd number of edges is unburnt at the root, one is
pub odd_free : (o : Graph) (start : ℕ) (x : Graph) (r : Course) → FromRoot o start x r → is_odd (rotations_of o) (order_of r) (origin_of o start) ≡ 1 →
    HasUnburnt (rotations_of x) (burnt_in x) (origin_of x start)
odd_free o start x r h odd =
    let here = one_rotation o x (order_of r) h.head.burnt in
    elim (find_unburnt (rotations_of x) (burnt_in x) (origin_of x start)) [
      | inl all ↦
          let end = exhausted_of o start h.head.fresh x (order_of r) h.head.burnt (origin_of o start) refl (subst (AllBurnt (rotations_of x) (burnt_in x)) (ap (λ g. g.from start) here) all) in
          let even = exhausted_even (rotations_of o) h.head.fresh.rotation (component_of o) (component_from o start) (order_of r) (origin_of o start) h.head.walking.laid.inside h.head.walking.laid.once end in
          absurd (omega (arith, odd, even))
      | inr free ↦ free
    ]

-- a closed first walk leaves all unbroken, and the root has an even number of edges
pub first_closed : (o : Graph) (start last : ℕ) (base : List ℕ) (q : Course) → IsFresh o start → base ≡ [] → RootWalk o start last base q.stack → q.done ≡ [] → origin_of o last ≡ origin_of o start →
    IsUnbroken (rotations_of o) q × (degree (rotations_of o) (origin_of o start) % 2 ≡ 0)
first_closed o start last base q fresh none w done at =
    let walking = subst (λ b. Walking (rotations_of o) (component_of o) (component_from o start) start (moved_last (rotations_of o) None) (origin_of o start) (origin_of o last) [] b q.stack) none w.walking in
    let k = closed_first (rotations_of o) fresh.rotation (component_of o) (component_from o start) start (moved_last (rotations_of o) None) (origin_of o last) q.stack walking w.leaves w.exhausted at in
    let alone : order_of q ≡ q.stack = ap (λ d. d ++ q.stack) done in (
      record {
        breaks = subst (λ l. breaks (rotations_of o) l ≡ 0) (sym alone) k.0;
        even = λ v. subst (λ l. ends (rotations_of o) l v % 2 ≡ 0) (sym alone) (k.1 v);
      },
      closed_root (rotations_of o) fresh.rotation (component_of o) (component_from o start) start (moved_last (rotations_of o) None) (origin_of o last) q.stack walking w.leaves w.exhausted at,
    )

-- the first open walk has come: what is done is given up
module _ (o : Graph) (start : ℕ) (x : Graph) (r : Course) (h : HasOpened o start x r) where
  rest : Laid (rotations_of o) (component_of o) (component_from o start) start r.stack
  rest = laid_rest (rotations_of o) (component_of o) (component_from o start) start r.done r.stack h.opened.walk.walking.laid

  took : take (length o.burnt) x.burnt ≡ o.burnt
  took =
      ap (λ (y : Graph). take (length o.burnt) y.burnt) h.opened.walk.burnt.graph
      ∙ (take-append-le (length o.burnt) o.burnt h.opened.walk.burnt.laid (omega arith) ∙ take_all (length o.burnt) o.burnt (omega arith))

  as_before : with_burnt x (take (length o.burnt) x.burnt) ≡ o
  as_before = ap (with_burnt x) took ∙ ap (λ (y : Graph). with_burnt y o.burnt) h.opened.walk.burnt.graph

  pub can_reburn : (checkpoint : ℕ) → checkpoint ≡ length o.burnt → CanReburn x checkpoint r.stack
  can_reburn checkpoint e =
      let here = one_rotation o x (order_of r) h.opened.walk.burnt in
      let f = h.opened.walk.fresh in
      record {
        rotation = subst IsRotationSystem (sym here) f.rotation;
        checkpoint_in = let long : length x.burnt ≡ length (o.burnt ++ h.opened.walk.burnt.laid) = ap (λ (y : Graph). length y.burnt) h.opened.walk.burnt.graph in
            omega (arith, length-append o.burnt h.opened.walk.burnt.laid);
        within = λ s k. subst (λ g. s < g.sides) (sym here)
            (has_inside (rotations_of o) f.rotation (component_of o) (component_from o start) r.stack s rest.inside (subst (λ g. Has g r.stack s) here k));
        once = subst (λ g. Once g r.stack) (sym here) rest.once;
        unburnt = λ s k b.
            let has = subst (λ g. Has g r.stack s) here k in
            let back : with_burnt x (take checkpoint x.burnt) ≡ o = ap (λ n. with_burnt x (take n x.burnt)) e ∙ as_before in
            f.unburnt s (has_inside (rotations_of o) f.rotation (component_of o) (component_from o start) r.stack s rest.inside has)
            (has_component (rotations_of o) f.rotation (component_of o) (component_from o start) f.divides r.stack s rest.inside has)
            (subst (λ y. IsBurnt y s) back b);
      }

  module _ (checkpoint : ℕ) (marked : checkpoint ≡ length o.burnt) (y : Graph) (q : Course) (graph : y ≡ with_burnt x (take checkpoint x.burnt ++ reverse r.stack)) (route : q ≡ record r { done = [] })
      (even : degree (rotations_of o) (origin_of o start) % 2 ≡ 0) where
    new_stack : order_of q ≡ r.stack
    new_stack = ap order_of route

    reburnt : IsBurntBy o y r.stack
    reburnt = record {
      laid = reverse r.stack;
      graph = graph ∙ (ap (λ n. with_burnt x (take n x.burnt ++ reverse r.stack)) marked
          ∙ (ap (λ l. with_burnt x (l ++ reverse r.stack)) took ∙ ap (λ (z : Graph). with_burnt z (o.burnt ++ reverse r.stack)) h.opened.walk.burnt.graph));
      edges = λ s. (
        (λ k. subst (λ l. Has (rotations_of o) l s) (reverse-reverse r.stack) (has_reversed (rotations_of o) (reverse r.stack) s k)),
        (λ k. has_reversed (rotations_of o) r.stack s k),
      );
    }

    pub undone_root : FromRoot o start y q
    undone_root = record {
      head = record {
        fresh = h.opened.walk.fresh;
        burnt = subst (IsBurntBy o y) (sym new_stack) reburnt;
        walking = subst (λ (c : Course). Walking (rotations_of o) (component_of o) (component_from o start) start (moved_last (rotations_of o) None) (origin_of o start) (origin_of o start) c.done c.stack c.stack) (sym route)
            (unburnt (rotations_of o) h.opened.walk.fresh.rotation (component_of o) (component_from o start) start (moved_last (rotations_of o) h.avoid) h.vertex (origin_of o h.opened.last) r.done h.opened.base r.stack
            h.opened.before h.opened.walk.walking h.opened.exhausted h.opened.unbroken h.opened.even even h.opened.open_walk (moved_last (rotations_of o) None) refl);
        avoided = tt;
        room = subst (λ n. (rotations_of o).sides ≤ n + n) (sym (ap (λ c. c.room) route)) h.opened.walk.room;
      };
      done = ap (λ c. c.done) route;
    }

    pub undone_odd : is_odd (rotations_of o) (order_of q) (origin_of o start) ≡ 1
    undone_odd = subst (λ l. is_odd (rotations_of o) l (origin_of o start) ≡ 1) (sym new_stack)
        (root_odd (rotations_of o) h.opened.walk.fresh.rotation (component_of o) (component_from o start) start (moved_last (rotations_of o) h.avoid) h.vertex (origin_of o h.opened.last) r.done h.opened.base r.stack
        h.opened.before h.opened.walk.walking h.opened.exhausted h.opened.unbroken h.opened.even even h.opened.open_walk)

    pub undone_counted : (vertices : ℕ) → AreBelow (rotations_of o) vertices →
        CountsWithinAt o start vertices (odd_count (rotations_of o) (component_of o) (component_from o start) vertices []) (origin_of o start) q
    undone_counted vertices b =
        subst (λ (c : Course). CountsWithinAt o start vertices (odd_count (rotations_of o) (component_of o) (component_from o start) vertices []) (origin_of o start) c) (sym route)
        (counted (rotations_of o) h.opened.walk.fresh.rotation (component_of o) (component_from o start) start (moved_last (rotations_of o) h.avoid) h.vertex (origin_of o h.opened.last) r.done h.opened.base r.stack
        h.opened.before h.opened.walk.walking h.opened.exhausted h.opened.unbroken h.opened.even even h.opened.open_walk vertices
        (b h.opened.last h.opened.last_in) (b start h.opened.walk.fresh.outer) refl)

-- an open first walk leaves the root odd, where it was even
pub odd_after : (o : Graph) (start last : ℕ) (base : List ℕ) (q : Course) → IsFresh o start → base ≡ [] → RootWalk o start last base q.stack → q.done ≡ [] →
    (origin_of o last ≡ origin_of o start → ⊥) → degree (rotations_of o) (origin_of o start) % 2 ≡ 0 → is_odd (rotations_of o) (order_of q) (origin_of o start) ≡ 1
odd_after o start last base q fresh none w done apart even =
    let before : is_odd (rotations_of o) base (origin_of o start) ≡ 0 = subst (λ b. is_odd (rotations_of o) b (origin_of o start) ≡ 0) (sym none) (omega (arith, even)) in
    let alone : order_of q ≡ q.stack = ap (λ d. d ++ q.stack) done in
    subst (λ l. is_odd (rotations_of o) l (origin_of o start) ≡ 1) (sym alone)
    (then_odd (rotations_of o) fresh.rotation (component_of o) (component_from o start) start (moved_last (rotations_of o) None) (origin_of o last) base q.stack w.walking w.leaves w.exhausted apart before)
