-- RotationSystem systems: half-edges by number, their twins, and the next of each round its vertex.
use Rattle.std.specs.Prelude.{◌≡◌, ◌≢◌, ℕ, zero, suc, ◌+◌, ◌<◌, ◌==◌, cond}

pub record RotationSystem : Type 0 where
  -- how many half-edges there are; they are the numbers below
  pub sides : ℕ
  pub twin : ℕ → ℕ
  -- the next round the vertex, counterclockwise and clockwise
  pub ccw : ℕ → ℕ
  pub cw : ℕ → ℕ
  -- the vertex that is left
  pub from : ℕ → ℕ

-- the vertex to which a half-edge leads
abbrev pub to : RotationSystem → ℕ → ℕ
to g s = g.from (g.twin s)

-- the half-edge by which the face to the left goes on
abbrev pub along : RotationSystem → ℕ → ℕ
along g s = g.cw (g.twin s)

-- k steps counterclockwise from r
abbrev pub turn : RotationSystem → ℕ → ℕ → ℕ
turn g zero r = r
turn g (suc k) r = g.ccw (turn g k r)

-- the system seen from behind: clockwise and counterclockwise change places
abbrev pub mirrored : RotationSystem → RotationSystem
mirrored g = record g { ccw = g.cw; cw = g.ccw }

-- 1 where two numbers are one, else 0
abbrev pub same : ℕ → ℕ → ℕ
same u v = cond (u == v) 1 0

-- f 0 + .. + f (n - 1)
abbrev pub total : (ℕ → ℕ) → ℕ → ℕ
total f zero = 0
total f (suc n) = f n + total f n

-- how many half-edges leave v
abbrev pub degree : RotationSystem → ℕ → ℕ
degree g v = total (λ s. same (g.from s) v) g.sides

-- no edge joins a vertex to itself, and the half-edges that leave a vertex are one cycle
pub record IsRotationSystem (g : RotationSystem) : Type 0 where
  pub twin_in : (s : ℕ) → s < g.sides → g.twin s < g.sides
  pub ccw_in : (s : ℕ) → s < g.sides → g.ccw s < g.sides
  pub cw_in : (s : ℕ) → s < g.sides → g.cw s < g.sides
  pub twin_twin : (s : ℕ) → g.twin (g.twin s) ≡ s
  pub no_loop : (s : ℕ) → s < g.sides → to g s ≢ g.from s
  pub cw_ccw : (s : ℕ) → s < g.sides → g.cw (g.ccw s) ≡ s
  pub ccw_cw : (s : ℕ) → s < g.sides → g.ccw (g.cw s) ≡ s
  pub ccw_from : (s : ℕ) → s < g.sides → g.from (g.ccw s) ≡ g.from s
  pub cw_from : (s : ℕ) → s < g.sides → g.from (g.cw s) ≡ g.from s
  pub whole : (r s : ℕ) → r < g.sides → s < g.sides → g.from s ≡ g.from r →
      (k : ℕ) × (k < degree g (g.from r)) × (turn g (suc k) r ≡ s)

-- a number of each vertex that is the same at both ends of each edge
abbrev pub Divides : RotationSystem → (ℕ → ℕ) → Type 0
Divides g component = (s : ℕ) → s < g.sides → component (to g s) ≡ component (g.from s)
