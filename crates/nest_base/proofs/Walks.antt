-- Walks over links of any kind: one after another, back, and over more links.
use Rattle.nest_base.specs.Walks.{Walk, here, on, against}

-- one walk, and then another
pub Walk-then : {X : Type 0} {R : X → X → Type 0} {c b a : X} → Walk R b a → Walk R c b → Walk R c a
Walk-then here k = k
Walk-then (on l h) k = on l (Walk-then h k)
Walk-then (against l h) k = against l (Walk-then h k)

pub Walk-back : {X : Type 0} {R : X → X → Type 0} {b a : X} → Walk R b a → Walk R a b
Walk-back here = here
Walk-back (on l h) = Walk-then (Walk-back h) (against l here)
Walk-back (against l h) = Walk-then (Walk-back h) (on l here)

-- a walk over some links is a walk over what these links become
pub Walk-map : {X Y : Type 0} {R : X → X → Type 0} {S : Y → Y → Type 0} {b a : X} (f : X → Y) →
    ((a b : X) → R a b → S (f a) (f b)) → Walk R b a → Walk S (f b) (f a)
Walk-map f g here = here
Walk-map f g (on {a} {b} l h) = on (g a b l) (Walk-map f g h)
Walk-map f g (against {a} {b} l h) = against (g b a l) (Walk-map f g h)

-- what each link keeps either way, a walk keeps
pub Walk-keeps : {X : Type 0} {R : X → X → Type 0} (P : X → Type 0) {b a : X} →
    ((a b : X) → R a b → (P a → P b) × (P b → P a)) → Walk R b a → P b → P a
Walk-keeps P f here p = p
Walk-keeps P f (on {a} {b} l h) p = (f a b l).1 (Walk-keeps P f h p)
Walk-keeps P f (against {a} {b} l h) p = (f b a l).0 (Walk-keeps P f h p)
