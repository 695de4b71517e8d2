-- The top of the stack moves, and the vertex to which it leads is exhausted.
use Rattle.std.proofs.Common.{◌≡◌, ℕ, ◌<◌, ◌≤◌, ◌+◌, ◌%◌, List, [], ◌∷◌, ◌++◌, refl, sym, ap, subst, arith, ◌∙◌, length, length-append, append_assoc, Some, inl}
use Rattle.nest_base.specs.declared.numbers.Side.{Side}
use Rattle.rotation_systems.specs.Twins.{twin_number}
use Rattle.rotation_systems.specs.RotationSystem.{RotationSystem, to}
use Rattle.half_edges.specs.Graph.{Graph, rotations_of, component_of, origin_of}
use Rattle.cover_walks.specs.Orders.{Has}
use Rattle.cover_walks.specs.Walks.{Walking, Exhausting, Ready, IsExhausted, IsCounted, Laid, CanFollow, breaks, breaks_after, ends, odd_count}
use Rattle.cover_walks.proofs.Holdings.{Has-after, Has-twin}
use Rattle.cover_walks.proofs.Parity.{breaks_append}
use Rattle.cover_walks.proofs.Steps.{walking_begin, pop, settle}
use Rattle.cover_walks.proofs.Finish.{counted_pop, counted_settle}
use Rattle.component_route.specs.Courses.{Course, order_of, StackGrows, weight}
use Rattle.component_route.specs.Scans.{moved_last}
use Rattle.component_route.specs.States.{IsBurntBy, component_from, WalkHead, MainHead, JustMoved, CountsWithin, CountsWithinAt, IsUnbroken, IsUnbrokenAt}
use Rattle.component_route.proofs.Burning.{has_before}
use Rattle.component_route.proofs.WalkSteps.{within_room, grows_done, grows_length}

some_of : (g : RotationSystem) (l : List ℕ) (s : ℕ) → Has g l s → 0 < length l
some_of g [] s h = absurd h
some_of g (a ∷ l) s h = omega arith

-- what is done and the stack are within the room
pub weight_within : (o : Graph) (start : ℕ) (x : Graph) (r : Course) → MainHead o start x r → weight r ≤ r.room + r.room
weight_within o start x r h =
    let all = within_room o start r h.fresh h.ready.laid h.room in
    omega (arith, length-append r.done r.stack)

pub both_within : (o : Graph) (start : ℕ) (x : Graph) (r : Course) → MainHead o start x r → length r.done + length r.stack ≤ r.room
both_within o start x r h =
    let all = within_room o start r h.fresh h.ready.laid h.room in
    omega (arith, length-append r.done r.stack)

module _ (o : Graph) (start : ℕ) (x : Graph) (r : Course) (f : ℕ) (rest : List ℕ) (q : Course) (top : r.stack ≡ f ∷ rest)
    (moved : q ≡ record r { done = r.done ++ (f ∷ []); stack = rest }) where
  -- the order stays
  same_order : order_of q ≡ order_of r
  same_order = ap order_of moved ∙ (append_assoc r.done (f ∷ []) rest ∙ ap (λ l. r.done ++ l) (sym top))

  pub moved_weight : weight q ≡ weight r + 1
  moved_weight =
      let w : weight q ≡ length (r.done ++ (f ∷ [])) + (length (r.done ++ (f ∷ [])) + length rest) = ap weight moved in
      let long : length r.stack ≡ length (f ∷ rest) = ap length top in
      omega (arith, length-append r.done (f ∷ []))

  module _ (h : MainHead o start x r) where
    ready : Ready (rotations_of o) (component_of o) (component_from o start) start r.done (f ∷ rest)
    ready = subst (Ready (rotations_of o) (component_of o) (component_from o start) start r.done) top h.ready

    pub just_moved : JustMoved o start f x q
    just_moved = record {
      fresh = h.fresh;
      burnt = subst (IsBurntBy o x) (sym same_order) h.burnt;
      exhausting = subst (λ (c : Course). Exhausting (rotations_of o) (component_of o) (component_from o start) start f (to (rotations_of o) f) c.done c.stack) (sym moved)
          (pop (rotations_of o) (component_of o) (component_from o start) start h.fresh.divides r.done f rest ready);
      follow = subst (λ (c : Course). CanFollow (rotations_of o) (order_of c) (origin_of o start) (origin_of o start) (to (rotations_of o) f) c.stack) (sym moved)
          (subst (λ l. CanFollow (rotations_of o) l (origin_of o start) (origin_of o start) (to (rotations_of o) f) rest) (sym (append_assoc r.done (f ∷ []) rest)) ready.shape.0);
      before = r.done;
      moved = ap (λ c. c.done) moved;
      room = subst (λ n. (rotations_of o).sides ≤ n + n) (sym (ap (λ c. c.room) moved)) h.room;
    }

    pub moved_within : (vertices most : ℕ) → CountsWithin o start vertices most r → CountsWithinAt o start vertices most (to (rotations_of o) f) q
    moved_within vertices most k =
        subst (λ (c : Course). CountsWithinAt o start vertices most (to (rotations_of o) f) c) (sym moved)
        (counted_pop (rotations_of o) (component_of o) (component_from o start) vertices most r.done f rest
        (subst (λ l. breaks (rotations_of o) (r.done ++ l) + odd_count (rotations_of o) (component_of o) (component_from o start) vertices (r.done ++ l) ≤ most) top k))

  pub moved_unbroken : IsUnbroken (rotations_of o) r → IsUnbrokenAt (rotations_of o) f (to (rotations_of o) f) q
  moved_unbroken u =
      let split = breaks_append (rotations_of o) r.done f rest in
      let none : breaks (rotations_of o) (r.done ++ (f ∷ rest)) ≡ 0 = subst (λ l. breaks (rotations_of o) (r.done ++ l) ≡ 0) top u.breaks in
      record {
        ends_at = refl;
        done_breaks = let e : breaks (rotations_of o) q.done ≡ breaks (rotations_of o) (r.done ++ (f ∷ [])) = ap (λ (c : Course). breaks (rotations_of o) c.done) moved in omega arith;
        breaks = let e : breaks_after (rotations_of o) (to (rotations_of o) f) q.stack ≡ breaks_after (rotations_of o) (to (rotations_of o) f) rest = ap (λ (c : Course). breaks_after (rotations_of o) (to (rotations_of o) f) c.stack) moved in omega arith;
        even = λ v. subst (λ l. ends (rotations_of o) l v % 2 ≡ 0) (sym same_order) (u.even v);
      }

-- walks from the vertex to which the half-edge leads
module _ (o : Graph) (start f : ℕ) (x : Graph) (r : Course) (h : JustMoved o start f x r) where
  pub moved_in_order : Has (rotations_of o) (order_of r) f
  moved_in_order = subst (λ d. Has (rotations_of o) (d ++ r.stack) f) (sym h.moved)
      (has_before (rotations_of o) (h.before ++ (f ∷ [])) r.stack f (Has-after (rotations_of o) h.before (f ∷ []) f (inl refl)))

  pub some_moved : (q : Course) → StackGrows r q → 0 < length (order_of q)
  some_moved q a =
      let some = some_of (rotations_of o) (order_of r) f moved_in_order in
      let long = grows_length r q a in
      let done : length q.done ≡ length r.done = ap length (grows_done r q a) in
      omega (arith, length-append r.done r.stack, length-append q.done q.stack)

  module _ (a : Side) (is_twin : a.0 ≡ twin_number f) where
    pub is_moved : moved_last (rotations_of o) (Some a) ≡ f
    is_moved = ap twin_number is_twin ∙ h.fresh.rotation.twin_twin f

    pub moved_head : (v : ℕ) → v ≡ to (rotations_of o) f → WalkHead o start (Some a) v v r.stack x r
    moved_head v e = record {
      fresh = h.fresh;
      burnt = h.burnt;
      walking = subst (λ u. Walking (rotations_of o) (component_of o) (component_from o start) start (moved_last (rotations_of o) (Some a)) u u r.done r.stack r.stack) (sym e)
          (subst (λ m. Walking (rotations_of o) (component_of o) (component_from o start) start m (to (rotations_of o) f) (to (rotations_of o) f) r.done r.stack r.stack) (sym is_moved)
          (walking_begin (rotations_of o) (component_of o) (component_from o start) start f (to (rotations_of o) f) r.done r.stack h.exhausting));
      avoided = subst (Has (rotations_of o) (order_of r)) (sym is_twin) (Has-twin (rotations_of o) h.fresh.rotation (order_of r) f moved_in_order);
      room = h.room;
    }

    -- when it is exhausted no walk is under way
    pub turned_head : (v : ℕ) → v ≡ to (rotations_of o) f → (y : Graph) (q : Course) → StackGrows r q → WalkHead o start (Some a) v v q.stack y q →
        IsExhausted (rotations_of o) (order_of q) v → MainHead o start y q
    turned_head v e y q grows w end = record {
      fresh = w.fresh;
      burnt = w.burnt;
      ready = settle (rotations_of o) (component_of o) (component_from o start) start (moved_last (rotations_of o) (Some a)) v q.done q.stack
          (record {
            laid = w.walking.laid;
            place = w.walking.place;
            finished = w.walking.finished;
            ends_at = ap (to (rotations_of o)) is_moved ∙ sym e;
            follow = w.walking.follow;
            shape = w.walking.shape;
          }) end;
      some = some_moved q grows;
      room = w.room;
    }

  module _ (v : ℕ) (e : v ≡ to (rotations_of o) f) (y : Graph) (q : Course) (grows : StackGrows r q)
      (laid : Laid (rotations_of o) (component_of o) (component_from o start) start (order_of q)) (end : IsExhausted (rotations_of o) (order_of q) v) where
    done_is : q.done ≡ h.before ++ (f ∷ [])
    done_is = grows_done r q grows ∙ h.moved

    order_is : order_of q ≡ h.before ++ (f ∷ q.stack)
    order_is = ap (λ d. d ++ q.stack) done_is ∙ append_assoc h.before (f ∷ []) q.stack

    pub turned_within : (vertices most : ℕ) → CountsWithinAt o start vertices most v q → CountsWithin o start vertices most q
    turned_within vertices most k =
        subst (λ l. breaks (rotations_of o) l + odd_count (rotations_of o) (component_of o) (component_from o start) vertices l ≤ most) (sym order_is)
        (counted_settle (rotations_of o) h.fresh.rotation (component_of o) (component_from o start) start vertices most h.before f q.stack
        (subst (λ d. Laid (rotations_of o) (component_of o) (component_from o start) start (d ++ q.stack)) done_is laid)
        (subst (λ d. IsCounted (rotations_of o) (component_of o) (component_from o start) vertices most (to (rotations_of o) f) d q.stack) done_is
        (subst (λ u. CountsWithinAt o start vertices most u q) e k))
        (subst (λ d. IsExhausted (rotations_of o) (d ++ q.stack) (to (rotations_of o) f)) done_is (subst (IsExhausted (rotations_of o) (order_of q)) e end)))

    pub turned_unbroken : (moved : ℕ) → IsUnbrokenAt (rotations_of o) moved v q → IsUnbroken (rotations_of o) q
    turned_unbroken moved u = record {
      breaks =
          let split = breaks_append (rotations_of o) h.before f q.stack in
          let all : breaks (rotations_of o) (order_of q) ≡ breaks (rotations_of o) (h.before ++ (f ∷ q.stack)) = ap (breaks (rotations_of o)) order_is in
          let done : breaks (rotations_of o) q.done ≡ breaks (rotations_of o) (h.before ++ (f ∷ [])) = ap (breaks (rotations_of o)) done_is in
          let stack : breaks_after (rotations_of o) v q.stack ≡ breaks_after (rotations_of o) (to (rotations_of o) f) q.stack = ap (λ u. breaks_after (rotations_of o) u q.stack) e in
          omega (arith, u.done_breaks, u.breaks);
      even = u.even;
    }
