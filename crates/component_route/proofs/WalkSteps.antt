-- One step of a walk in the graph, the end of a walk, and what walks from one vertex add up to.
use Rattle.std.proofs.Common.{◌≡◌, ℕ, ◌<◌, ◌≤◌, ◌≢◌, ◌+◌, ◌%◌, List, [], ◌∷◌, ◌++◌, inl, inr, refl, sym, ap, subst, arith, ◌∙◌, length, length-append, append_assoc, IsTrue, Option, None, Some}
use Rattle.std.specs.Prelude.{IfSome}
use Rattle.nest_base.specs.declared.numbers.Side.{Side}
use Rattle.rotation_systems.specs.Twins.{twin_number}
use Rattle.rotation_systems.specs.RotationSystem.{RotationSystem, to, same}
use Rattle.half_edges.specs.Graph.{Graph, rotations_of, component_of, origin_of}
use Rattle.half_edges.specs.Burns.{IsBurnt, with_burnt}
use Rattle.cover_walks.specs.Orders.{Has}
use Rattle.cover_walks.specs.Walks.{Walking, Exhausting, IsExhausted, IsCounted, Laid, breaks, breaks_after, ends}
use Rattle.cover_walks.specs.Choices.{HasUnburnt, AllBurnt, CanChoose, IsChosen, IsReference}
use Rattle.cover_walks.proofs.Holdings.{Has-after, Has-insert, Has-twin}
use Rattle.cover_walks.proofs.Parity.{few_edges, ends_append, counted_walk}
use Rattle.cover_walks.proofs.Steps.{walking_push, follow_again}
use Rattle.component_route.specs.Courses.{Course, order_of, StackGrows, weight}
use Rattle.component_route.specs.Scans.{burnt_in, moved_last}
use Rattle.component_route.specs.States.{IsFresh, component_from, WalkHead, CountsWithinAt, IsUnbrokenAt, Opened}
use Rattle.component_route.proofs.Burning.{one_rotation, marks, laid_is_burnt, exhausted_of, unburnt_of, burnt_more}

-- a course has no more edges than it has room for
pub within_room : (o : Graph) (start : ℕ) (r : Course) → IsFresh o start → Laid (rotations_of o) (component_of o) (component_from o start) start (order_of r) →
    (rotations_of o).sides ≤ r.room + r.room → length (order_of r) ≤ r.room
within_room o start r f laid room =
    let few = few_edges (rotations_of o) f.rotation (component_of o) (component_from o start) (order_of r) laid.inside laid.once in
    omega (arith, room, few)

module _ (o : Graph) (start : ℕ) (avoid : Option Side) (v z : ℕ) (base : List ℕ) (x : Graph) (r : Course) (h : WalkHead o start avoid v z base x r) where
  g : RotationSystem
  g = rotations_of o

  pub same_rotation : rotations_of x ≡ rotations_of o
  same_rotation = one_rotation o x (order_of r) h.burnt

  pub stack_within : length r.stack ≤ r.room
  stack_within =
      let all = within_room o start r h.fresh h.walking.laid h.room in
      omega (arith, length-append r.done r.stack)

  avoided_burnt : (a : Option Side) → IfSome a (λ s. Has (rotations_of o) (order_of r) s.0) →
      twin_number (moved_last (rotations_of o) a) < (rotations_of o).sides → IsTrue (burnt_in x (twin_number (moved_last (rotations_of o) a)))
  avoided_burnt None k b = absurd (omega (arith, h.fresh.rotation.twin_twin (rotations_of o).sides))
  avoided_burnt (Some s) k b = subst (λ t. IsTrue (burnt_in x t)) (sym (h.fresh.rotation.twin_twin s.0)) (laid_is_burnt o start h.fresh x (order_of r) h.burnt s.0 k)

  choice_here : HasUnburnt (rotations_of o) (burnt_in x) z → CanChoose (rotations_of o) (burnt_in x) (moved_last (rotations_of o) avoid) z r.done r.stack
  choice_here f = record {
    marks = λ s b e. marks o start h.fresh x (order_of r) h.burnt s b (ap (component_of o) e ∙ h.walking.place);
    finished = h.walking.finished;
    free = f;
    avoided = avoided_burnt avoid h.avoided;
  }

  pub can_choose : HasUnburnt (rotations_of x) (burnt_in x) z → CanChoose (rotations_of x) (burnt_in x) (moved_last (rotations_of x) avoid) z r.done r.stack
  can_choose f =
      subst (λ q. CanChoose q (burnt_in x) (moved_last q avoid) z r.done r.stack) (sym same_rotation)
      (choice_here (subst (λ q. HasUnburnt q (burnt_in x) z) same_rotation f))

  -- a choice can be made beside a reference at z
  pub choice_known : (left right : ℕ) → z ≡ origin_of o left → HasUnburnt (rotations_of x) (burnt_in x) (origin_of x left) → IsReference (rotations_of o) start r.stack z left right →
      CanChoose (rotations_of x) (burnt_in x) (moved_last (rotations_of x) avoid) z r.done r.stack × IsReference (rotations_of x) start r.stack z left right
  choice_known left right at f k =
      let here : origin_of x left ≡ z = ap (λ q. q.from left) same_rotation ∙ sym at in
      (can_choose (subst (HasUnburnt (rotations_of x) (burnt_in x)) here f), subst (λ q. IsReference q start r.stack z left right) (sym same_rotation) k)

  -- a vertex of the component at which all is burnt is exhausted
  pub exhausted_at : (s : ℕ) → component_of o (origin_of o s) ≡ component_from o start → AllBurnt (rotations_of x) (burnt_in x) (origin_of x s) → IsExhausted (rotations_of o) (order_of r) (origin_of o s)
  exhausted_at s at k =
      exhausted_of o start h.fresh x (order_of r) h.burnt (origin_of o s) at (subst (AllBurnt (rotations_of x) (burnt_in x)) (ap (λ q. q.from s) same_rotation) k)

  module _ (t : ℕ) (chosen : IsChosen (rotations_of x) start z r.done r.stack t) where
    chosen_here : IsChosen (rotations_of o) start z r.done r.stack t
    chosen_here = subst (λ q. IsChosen q start z r.done r.stack t) same_rotation chosen

    pub pushed_in : twin_number t < (rotations_of o).sides
    pushed_in = h.fresh.rotation.twin_in t chosen_here.side

    pushed_at : component_of o (origin_of o (twin_number t)) ≡ component_from o start
    pushed_at = h.fresh.divides t chosen_here.side ∙ (ap (component_of o) chosen_here.leaves ∙ h.walking.place)

    pub pushed_unburnt : IsBurnt x (twin_number t) → ⊥
    pushed_unburnt = unburnt_of o start h.fresh x (order_of r) h.burnt (twin_number t) pushed_in pushed_at
        (λ k. chosen_here.unused (subst (λ s. Has (rotations_of o) (order_of r) s) (h.fresh.rotation.twin_twin t) (Has-twin (rotations_of o) h.fresh.rotation (order_of r) (twin_number t) k)))

    stepped : Walking (rotations_of o) (component_of o) (component_from o start) start (moved_last (rotations_of o) avoid) v (to (rotations_of o) t) r.done base (twin_number t ∷ r.stack)
    stepped = walking_push (rotations_of o) h.fresh.rotation (component_of o) (component_from o start) start h.fresh.divides (moved_last (rotations_of o) avoid) v z r.done base r.stack t
        h.walking chosen_here.side chosen_here.leaves chosen_here.unused chosen_here.touches

    pub room_for : length r.stack < r.room
    room_for =
        let all = within_room o start (record r { stack = twin_number t ∷ r.stack }) h.fresh stepped.laid h.room in
        omega (arith, length-append r.done (twin_number t ∷ r.stack))

    pub advanced : (y : Graph) → y ≡ with_burnt x (x.burnt ++ (twin_number t ∷ [])) →
        WalkHead o start avoid v (origin_of o (twin_number t)) base y (record r { stack = twin_number t ∷ r.stack })
    advanced y e = record {
      fresh = h.fresh;
      burnt = burnt_more o x y r.done r.stack (twin_number t) h.burnt e;
      walking = stepped;
      avoided = avoided_more avoid h.avoided;
      room = h.room;
    }
      where
        avoided_more : (a : Option Side) → IfSome a (λ s. Has (rotations_of o) (order_of r) s.0) → IfSome a (λ s. Has (rotations_of o) (r.done ++ (twin_number t ∷ r.stack)) s.0)
        avoided_more None k = tt
        avoided_more (Some s) k = Has-insert (rotations_of o) r.done r.stack (twin_number t) s.0 k

    pub advanced_to : (b : ℕ) → b ≡ twin_number t → (y : Graph) → y ≡ with_burnt x (x.burnt ++ (b ∷ [])) → (q : Course) → q ≡ record r { stack = b ∷ r.stack } →
        WalkHead o start avoid v (origin_of o b) base y q
    advanced_to b e y f q k =
        subst (WalkHead o start avoid v (origin_of o b) base y) (sym k)
        (subst (λ s. WalkHead o start avoid v (origin_of o s) base y (record r { stack = s ∷ r.stack })) (sym e)
        (advanced y (f ∙ ap (λ s. with_burnt x (x.burnt ++ (s ∷ []))) e)))

-- the half-edge just pushed is the next reference
pub next_reference : (g : RotationSystem) (start b : ℕ) (rest stack : List ℕ) → b < g.sides → stack ≡ b ∷ rest → IsReference g start stack (g.from b) b b
next_reference g start b rest stack k e =
    subst (λ l. IsReference g start l (g.from b) b b) (sym e)
    (record { left_in = k; right_in = k; left_at = refl; right_at = refl; between = inl (refl, inl refl) })

-- the stack only grows
pub grows_more : (p q r : Course) → StackGrows p q → StackGrows q r → StackGrows p r
grows_more p q r a b = (b.0 ++ a.0, b.1 ∙ (ap (λ s. grown s b.0) a.1 ∙ ap (λ l. on_stack p l) (sym (append_assoc b.0 a.0 p.stack))))
  where
    grown : Course → List ℕ → Course
    grown s l = record s { stack = l ++ s.stack }

    on_stack : Course → List ℕ → Course
    on_stack s l = record s { stack = l }

pub grows_room : (p q : Course) → StackGrows p q → q.room ≡ p.room
grows_room p q a = ap (λ r. r.room) a.1

pub grows_done : (p q : Course) → StackGrows p q → q.done ≡ p.done
grows_done p q a = ap (λ r. r.done) a.1

pub grows_length : (p q : Course) → StackGrows p q → length p.stack ≤ length q.stack
grows_length p q a = let e : length q.stack ≡ length (a.0 ++ p.stack) = ap (λ r. length r.stack) a.1 in omega (arith, length-append a.0 p.stack)

-- so a half-edge that stood in it still does
pub reference_still : (g : RotationSystem) (start z left right : ℕ) (p q : Course) → StackGrows p q → IsReference g start p.stack z left right → IsReference g start q.stack z left right
reference_still g start z left right p q a f = record {
  left_in = f.left_in;
  right_in = f.right_in;
  left_at = f.left_at;
  right_at = f.right_at;
  between = elim f.between [
    | inl k ↦ inl (k.0, subst (λ l. Has g l left) (sym (ap (λ r. r.stack) a.1)) (Has-after g a.0 p.stack left k.1))
    | inr k ↦ inr k
  ];
}

-- where a walk from v has come to an exhausted vertex, another may begin
module _ (o : Graph) (start : ℕ) (avoid : Option Side) (v y : ℕ) (base before : List ℕ) (x earlier : Graph) (r p : Course)
    (h : WalkHead o start avoid v v before earlier p) (w : WalkHead o start avoid v y base x r) (end : IsExhausted (rotations_of o) (order_of r) y) where
  pub walk_again : WalkHead o start avoid v v r.stack x r
  walk_again = record {
    fresh = w.fresh;
    burnt = w.burnt;
    walking = record {
      laid = w.walking.laid;
      place = h.walking.place;
      stands = inl (refl, refl);
      finished = w.walking.finished;
      follow = follow_again (rotations_of o) (origin_of o start) (order_of r) v y base r.stack w.walking.stands end w.walking.follow;
      shape = w.walking.shape;
      breaks = refl;
      ends = λ u. omega arith;
    };
    avoided = w.avoided;
    room = w.room;
  }

module _ (o : Graph) (start : ℕ) (avoid : Option Side) (v y : ℕ) (before : List ℕ) (x earlier : Graph) (r p : Course)
    (h : WalkHead o start avoid v v before earlier p) (w : WalkHead o start avoid v y p.stack x r) (grows : StackGrows p r) where
  -- the count over a walk
  pub walk_counted : IsExhausted (rotations_of o) (order_of r) y → (vertices most : ℕ) → v < vertices → y < vertices → CountsWithinAt o start vertices most v p → CountsWithinAt o start vertices most v r
  walk_counted end vertices most bv by c =
      counted_walk (rotations_of o) w.fresh.rotation (component_of o) (component_from o start) start (moved_last (rotations_of o) avoid) v y r.done p.stack r.stack w.walking vertices bv by h.walking.place end most
      (subst (λ d. IsCounted (rotations_of o) (component_of o) (component_from o start) vertices most v d p.stack) (sym (grows_done p r grows)) c)

  -- a closed walk leaves all unbroken
  pub walk_closed : y ≡ v → IsUnbrokenAt (rotations_of o) (moved_last (rotations_of o) avoid) v p → IsUnbrokenAt (rotations_of o) (moved_last (rotations_of o) avoid) v r
  walk_closed q u = record {
    ends_at = u.ends_at;
    done_breaks = subst (λ d. breaks (rotations_of o) d ≡ 0) (sym (grows_done p r grows)) u.done_breaks;
    breaks = subst (λ z. breaks_after (rotations_of o) z r.stack ≡ 0) q (w.walking.breaks ∙ u.breaks);
    even = λ s.
        let a = ends_append (rotations_of o) r.done r.stack s in
        let b = ends_append (rotations_of o) p.done p.stack s in
        let d : ends (rotations_of o) r.done s ≡ ends (rotations_of o) p.done s = ap (λ k. ends (rotations_of o) k s) (grows_done p r grows) in
        let e : same v s ≡ same y s = ap (λ k. same k s) (sym q) in
        let m = w.walking.ends s in
        let z = u.even s in
        omega arith;
  }

-- an open one ends the unbroken state
pub walk_opened : (o : Graph) (start : ℕ) (avoid : Option Side) (v last : ℕ) (before : List ℕ) (x earlier : Graph) (r p : Course) →
    WalkHead o start avoid v v before earlier p → WalkHead o start avoid v (origin_of o last) p.stack x r → StackGrows p r →
    IsExhausted (rotations_of o) (order_of r) (origin_of o last) → last < (rotations_of o).sides → v ≢ origin_of o last →
    IsUnbrokenAt (rotations_of o) (moved_last (rotations_of o) avoid) v p → Opened o start avoid v x r
walk_opened o start avoid v last before x earlier r p h w grows end b n u =
    let d : p.done ≡ r.done = sym (grows_done p r grows) in
    record {
      last = last;
      base = p.stack;
      last_in = b;
      before = subst (λ k. Exhausting (rotations_of o) (component_of o) (component_from o start) start (moved_last (rotations_of o) avoid) v k p.stack) d
          (record { laid = h.walking.laid; place = h.walking.place; finished = h.walking.finished; ends_at = u.ends_at; follow = h.walking.follow; shape = h.walking.shape });
      walk = w;
      exhausted = end;
      unbroken = u.breaks;
      even = λ s. subst (λ k. ends (rotations_of o) (k ++ p.stack) s % 2 ≡ 0) d (u.even s);
      open_walk = n;
    }

pub grows_weight : (p q : Course) → StackGrows p q → weight p ≤ weight q
grows_weight p q a =
    let long = grows_length p q a in
    let done : length q.done ≡ length p.done = ap length (grows_done p q a) in
    omega arith
