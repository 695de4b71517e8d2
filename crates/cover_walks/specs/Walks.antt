-- What stands while a component is being covered: `done`, the edges whose place in the burning order is settled, in that order,
-- and `stack`, its top first. The burning order so far is done ++ stack. Each half-edge is the one in burning direction. `start` is
-- an outer half-edge; the root is the vertex that it leaves.
use Rattle.std.specs.Prelude.{◌≡◌, ℕ, ◌+◌, ◌<◌, ◌≤◌, ◌%◌, ◌≢◌, List, [], ◌∷◌, ◌++◌, ◌⊎◌, cond, ◌==◌}
use Rattle.rotation_systems.specs.RotationSystem.{RotationSystem, to, same, total, degree}
use Rattle.cover_walks.specs.Orders.{Has, Once, Grows}

-- half-edges of the rotation system that leave vertices of the component c
abbrev pub Inside : RotationSystem → (ℕ → ℕ) → ℕ → List ℕ → Type 0
Inside g component c [] = Unit {0}
Inside g component c (a ∷ l) = (a < g.sides) × (component (g.from a) ≡ c) × Inside g component c l

-- the vertices that half-edges leave have numbers below `vertices`
abbrev pub AreBelow : RotationSystem → ℕ → Type 0
AreBelow g vertices = (s : ℕ) → s < g.sides → g.from s < vertices

-- round its vertex t is next to a half-edge of the stack, or to the outer corner, which lies between start and the next one
-- counterclockwise
abbrev pub Touches : RotationSystem → ℕ → List ℕ → ℕ → Type 0
Touches g start stack t = Has g stack (g.cw t) ⊎ Has g stack (g.ccw t) ⊎ (g.cw t ≡ start) ⊎ (t ≡ start)

-- each edge at v stands in the order
abbrev pub IsExhausted : RotationSystem → List ℕ → ℕ → Type 0
IsExhausted g order v = (s : ℕ) → s < g.sides → g.from s ≡ v → Has g order s

-- both ends of each edge of the list are exhausted, but maybe the second end of `avoid`
abbrev pub AllFinished : RotationSystem → List ℕ → ℕ → List ℕ → Type 0
AllFinished g order avoid [] = Unit {0}
AllFinished g order avoid (a ∷ l) =
    IsExhausted g order (g.from a) × ((a ≡ avoid) ⊎ IsExhausted g order (to g a)) × AllFinished g order avoid l

-- v is the root, or exhausted, or the vertex x that is being exhausted
abbrev pub IsSettled : RotationSystem → List ℕ → ℕ → ℕ → ℕ → Type 0
IsSettled g order root x v = (v ≡ root) ⊎ IsExhausted g order v ⊎ (v ≡ x)

-- a half-edge that leads to z may be put on this stack
abbrev pub CanFollow : RotationSystem → List ℕ → ℕ → ℕ → ℕ → List ℕ → Type 0
CanFollow g order root x z [] = z ≡ root
CanFollow g order root x z (a ∷ l) = (g.from a ≡ z) ⊎ (IsExhausted g order (g.from a) × IsSettled g order root x z)

-- each half-edge of the stack may stand on what lies below it
abbrev pub IsStack : RotationSystem → List ℕ → ℕ → ℕ → List ℕ → Type 0
IsStack g order root x [] = Unit {0}
IsStack g order root x (a ∷ l) = CanFollow g order root x (to g a) l × IsStack g order root x l

-- 1 where two numbers differ, else 0
abbrev pub differ : ℕ → ℕ → ℕ
differ u v = cond (u == v) 0 1

-- how often an order goes on at another vertex than the one to which it has come; before it came to z, or came from nowhere
abbrev pub breaks_after : RotationSystem → ℕ → List ℕ → ℕ
breaks_after g z [] = 0
breaks_after g z (a ∷ l) = differ z (g.from a) + breaks_after g (to g a) l

abbrev pub breaks : RotationSystem → List ℕ → ℕ
breaks g [] = 0
breaks g (a ∷ l) = breaks_after g (to g a) l

-- how many ends of the edges of the order lie at v
abbrev pub ends : RotationSystem → List ℕ → ℕ → ℕ
ends g [] v = 0
ends g (a ∷ l) v = same (g.from a) v + (same (to g a) v + ends g l v)

-- 1 where the number of edges at v that don't stand in the order is odd, else 0
abbrev pub is_odd : RotationSystem → List ℕ → ℕ → ℕ
is_odd g order v = (degree g v + ends g order v) % 2

-- the same, but 0 outside the component c
abbrev pub odd_within : RotationSystem → (ℕ → ℕ) → ℕ → List ℕ → ℕ → ℕ
odd_within g component c order v = cond (component v == c) (is_odd g order v) 0

-- how many vertices of the component c, of those with numbers below `vertices`, are odd so
abbrev pub odd_count : RotationSystem → (ℕ → ℕ) → ℕ → ℕ → List ℕ → ℕ
odd_count g component c vertices order = total (λ v. odd_within g component c order v) vertices

-- the last half-edge leads to v
abbrev pub EndsAt : RotationSystem → ℕ → List ℕ → Type 0
EndsAt g v [] = Unit {0}
EndsAt g v (a ∷ []) = to g a ≡ v
EndsAt g v (a ∷ b ∷ l) = EndsAt g v (b ∷ l)

-- the top of the stack leaves z
abbrev pub TopLeaves : RotationSystem → ℕ → List ℕ → Type 0
TopLeaves g z [] = ⊥
TopLeaves g z (a ∷ l) = g.from a ≡ z

-- what holds of an order at all times: edges of the component, each once; it grows, and leads to the root
pub record Laid (g : RotationSystem) (component : ℕ → ℕ) (c start : ℕ) (order : List ℕ) : Type 0 where
  pub inside : Inside g component c order
  pub once : Once g order
  pub grows : Grows g (λ s. s ≡ start) order
  pub last : EndsAt g (g.from start) order

-- breaks and odd vertices together are at most `most`, or one more while x is odd
abbrev pub IsCounted : RotationSystem → (ℕ → ℕ) → ℕ → ℕ → ℕ → ℕ → List ℕ → List ℕ → Type 0
IsCounted g component c vertices most x done stack =
    breaks g done + (breaks_after g x stack + odd_count g component c vertices (done ++ stack)) ≤ most + is_odd g (done ++ stack) x

-- a walk from x that stands at z; `base` is the stack on which it began
pub record Walking (g : RotationSystem) (component : ℕ → ℕ) (c start avoid x z : ℕ) (done base stack : List ℕ) : Type 0 where
  pub laid : Laid g component c start (done ++ stack)
  pub place : component z ≡ c
  pub stands : ((z ≡ x) × (stack ≡ base)) ⊎ TopLeaves g z stack
  pub finished : AllFinished g (done ++ stack) avoid done
  pub follow : CanFollow g (done ++ stack) (g.from start) x z stack
  pub shape : IsStack g (done ++ stack) (g.from start) x stack
  pub breaks : breaks_after g z stack ≡ breaks_after g x base
  pub ends : (v : ℕ) → (ends g stack v + (same x v + same z v)) % 2 ≡ ends g base v % 2

-- the top of the stack leaves an exhausted vertex
abbrev pub TopIsExhausted : RotationSystem → List ℕ → List ℕ → Type 0
TopIsExhausted g order [] = Unit {0}
TopIsExhausted g order (a ∷ l) = IsExhausted g order (g.from a)

-- no walk is under way: the top of the stack may move to what is done
pub record Ready (g : RotationSystem) (component : ℕ → ℕ) (c start : ℕ) (done stack : List ℕ) : Type 0 where
  pub laid : Laid g component c start (done ++ stack)
  pub finished : AllFinished g (done ++ stack) g.sides done
  pub shape : IsStack g (done ++ stack) (g.from start) (g.from start) stack
  pub top : TopIsExhausted g (done ++ stack) stack

-- between the walks that exhaust x; `avoid`, which leads to x, was moved last
pub record Exhausting (g : RotationSystem) (component : ℕ → ℕ) (c start avoid x : ℕ) (done stack : List ℕ) : Type 0 where
  pub laid : Laid g component c start (done ++ stack)
  pub place : component x ≡ c
  pub finished : AllFinished g (done ++ stack) avoid done
  pub ends_at : to g avoid ≡ x
  pub follow : CanFollow g (done ++ stack) (g.from start) x x stack
  pub shape : IsStack g (done ++ stack) (g.from start) x stack

-- all walks were closed, and the first open one has ended: from x to y
pub record HasOpenedAt (g : RotationSystem) (component : ℕ → ℕ) (c start avoid x y : ℕ) (done base stack : List ℕ) : Type 0 where
  pub before : Exhausting g component c start avoid x done base
  pub walk : Walking g component c start avoid x y done base stack
  pub exhausted : IsExhausted g (done ++ stack) y
  pub unbroken : breaks_after g x base ≡ 0
  pub even : (v : ℕ) → ends g (done ++ base) v % 2 ≡ 0
  pub even_root : degree g (g.from start) % 2 ≡ 0
  pub opened : x ≢ y
