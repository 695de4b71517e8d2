-- What holds of orders and walks.
use Rattle.std.specs.Prelude.{◌≡◌, ◌≢◌, ℕ, ◌+◌, ◌<◌, ◌≤◌, ◌%◌, suc, List, [], ◌∷◌, ◌++◌, ◌↔◌, Bool, true, IsTrue, length}
use Rattle.std.specs.List.{concat, AllByRecursion}
use Rattle.rotation_systems.specs.RotationSystem.{RotationSystem, IsRotationSystem, Divides, mirrored, to, degree}
use Rattle.cover_walks.specs.Orders.{Encloses, Grows}
use Rattle.cover_walks.specs.Walks.{IsExhausted, TopLeaves, Laid, Walking, Ready, Exhausting, IsCounted, AreBelow, HasOpenedAt, breaks, ends, is_odd, odd_count}
use Rattle.cover_walks.specs.Choices.{AllBurnt, HasUnburnt, Turned, Passes, Stops, IsReference, CanChoose, IsChosen}
use Rattle.cover_walks.specs.Chains.{IsSideChain, chains_of, IsConnected, limit_of}
use Rattle.cover_walks.specs.Covers.{HasFewChains, IsCoverOrder}

-- an order encloses exactly where it grows
abbrev pub EnclosingOrdersGrow : Type 0
EnclosingOrdersGrow =
    (g : RotationSystem) (outer : ℕ → Bool) (order : List ℕ) → IsRotationSystem g → Encloses g (λ s. IsTrue (outer s)) order ↔ Grows g (λ s. IsTrue (outer s)) order

-- an order that encloses with one outer half-edge encloses with all
abbrev pub OneOuterSideIsEnough : Type 0
OneOuterSideIsEnough =
    (g : RotationSystem) (start : ℕ) (outer : ℕ → Bool) (order : List ℕ) → IsTrue (outer start) → Encloses g (λ s. s ≡ start) order → Encloses g (λ s. IsTrue (outer s)) order

-- the chains of an order, one after another, are the order
abbrev pub ChainsAreTheOrder : Type 0
ChainsAreTheOrder = (g : RotationSystem) (order : List ℕ) → concat (chains_of g order) ≡ order

-- each half-edge of a chain leaves the vertex to which the one before it leads
abbrev pub ChainsAreUnbroken : Type 0
ChainsAreUnbroken = (g : RotationSystem) (order : List ℕ) → AllByRecursion (IsSideChain g) (chains_of g order)

-- there is one more of them than there are breaks
abbrev pub ChainsAreCounted : Type 0
ChainsAreCounted = (g : RotationSystem) (order : List ℕ) → 0 < length order → length (chains_of g order) ≡ breaks g order + 1

-- a choice ends at an unused half-edge that touches the stack: counterclockwise at t, or clockwise at u where t is the one to avoid
abbrev pub ChoicesTouchTheStack : Type 0
ChoicesTouchTheStack =
    (g : RotationSystem) (burnt : ℕ → Bool) (start avoid z left right t u : ℕ) (done stack : List ℕ) → IsRotationSystem g →
    CanChoose g burnt avoid z done stack → IsReference g start stack z left right →
    Stops g burnt left (g.twin avoid) t → Stops (mirrored g) burnt right (g.twin avoid) u →
    (t ≢ g.twin avoid → IsChosen g start z done stack t) × (t ≡ g.twin avoid → IsChosen g start z done stack u)

-- a scan, whichever way, comes to an end before it has passed as many half-edges as there are
abbrev pub ScansEnd : Type 0
ScansEnd =
    (g : RotationSystem) (burnt : ℕ → Bool) (a avoid k t : ℕ) → IsRotationSystem g → a < g.sides → HasUnburnt g burnt (g.from a) → degree g (g.from a) ≤ k →
    (Passes g burnt a avoid k t → ⊥) × (Passes (mirrored g) burnt a avoid k t → ⊥)

-- a turn past as many burnt ones says that all are burnt
abbrev pub TurnsSeeAll : Type 0
TurnsSeeAll =
    (g : RotationSystem) (burnt : ℕ → Bool) (a k t : ℕ) → IsRotationSystem g → a < g.sides → Turned g burnt a k t → degree g (g.from a) ≤ k → AllBurnt g burnt (g.from a)

-- and if it comes to an unburnt one, not all are
abbrev pub TurnsSeeOne : Type 0
TurnsSeeOne =
    (g : RotationSystem) (burnt : ℕ → Bool) (a k t : ℕ) → IsRotationSystem g → a < g.sides → Turned g burnt a k t → (IsTrue (burnt (g.ccw t)) → ⊥) →
    HasUnburnt g burnt (g.from a)

-- the first walk begins at the root, with nothing done
abbrev pub FirstWalkBegins : Type 0
FirstWalkBegins =
    (g : RotationSystem) (component : ℕ → ℕ) (start avoid : ℕ) → Walking g component (component (g.from start)) start avoid (g.from start) (g.from start) [] [] []

-- a walk begins where a vertex is to be exhausted
abbrev pub WalksBegin : Type 0
WalksBegin =
    (g : RotationSystem) (component : ℕ → ℕ) (c start avoid x : ℕ) (done stack : List ℕ) →
    Exhausting g component c start avoid x done stack → Walking g component c start avoid x x done stack stack

-- it goes on by an unused half-edge that touches the stack
abbrev pub WalksGoOn : Type 0
WalksGoOn =
    (g : RotationSystem) (component : ℕ → ℕ) (c start avoid x z t : ℕ) (done base stack : List ℕ) → IsRotationSystem g → Divides g component →
    Walking g component c start avoid x z done base stack → IsChosen g start z done stack t →
    Walking g component c start avoid x (to g t) done base (g.twin t ∷ stack)

-- it ends at an exhausted vertex
abbrev pub WalksEnd : Type 0
WalksEnd =
    (g : RotationSystem) (component : ℕ → ℕ) (c start avoid x y : ℕ) (done base stack : List ℕ) →
    Exhausting g component c start avoid x done base → Walking g component c start avoid x y done base stack → IsExhausted g (done ++ stack) y →
    Exhausting g component c start avoid x done stack

-- the top of the stack moves, and the vertex to which it leads is to be exhausted
abbrev pub TopsMove : Type 0
TopsMove =
    (g : RotationSystem) (component : ℕ → ℕ) (c start f : ℕ) (done stack : List ℕ) → Divides g component →
    Ready g component c start done (f ∷ stack) → Exhausting g component c start f (to g f) (done ++ f ∷ []) stack

-- when it's exhausted the next top may move
abbrev pub VerticesAreExhausted : Type 0
VerticesAreExhausted =
    (g : RotationSystem) (component : ℕ → ℕ) (c start avoid x : ℕ) (done stack : List ℕ) →
    Exhausting g component c start avoid x done stack → IsExhausted g (done ++ stack) x → Ready g component c start done stack

-- so it may after the first walk
abbrev pub FirstWalkEnds : Type 0
FirstWalkEnds =
    (g : RotationSystem) (component : ℕ → ℕ) (c start avoid y : ℕ) (base stack : List ℕ) →
    Walking g component c start avoid (g.from start) y [] base stack → IsExhausted g stack y → TopLeaves g y stack → Ready g component c start [] stack

-- no order has more edges than there are
abbrev pub OrdersAreShort : Type 0
OrdersAreShort =
    (g : RotationSystem) (component : ℕ → ℕ) (c start : ℕ) (order : List ℕ) → IsRotationSystem g → Laid g component c start order → length order + length order ≤ g.sides

-- a walk keeps the count
abbrev pub WalksAreCounted : Type 0
WalksAreCounted =
    (g : RotationSystem) (component : ℕ → ℕ) (c start avoid x y vertices most : ℕ) (done base stack : List ℕ) → IsRotationSystem g →
    Walking g component c start avoid x y done base stack → x < vertices → y < vertices → component x ≡ c → IsExhausted g (done ++ stack) y →
    IsCounted g component c vertices most x done base → IsCounted g component c vertices most x done stack

-- the move of the top keeps it
abbrev pub MovesAreCounted : Type 0
MovesAreCounted =
    (g : RotationSystem) (component : ℕ → ℕ) (c vertices most f : ℕ) (done stack : List ℕ) →
    breaks g (done ++ f ∷ stack) + odd_count g component c vertices (done ++ f ∷ stack) ≤ most →
    IsCounted g component c vertices most (to g f) (done ++ f ∷ []) stack

-- and what is counted when the vertex is exhausted
abbrev pub ExhaustedAreCounted : Type 0
ExhaustedAreCounted =
    (g : RotationSystem) (component : ℕ → ℕ) (c start vertices most f : ℕ) (done stack : List ℕ) → IsRotationSystem g →
    Laid g component c start (done ++ f ∷ stack) → IsExhausted g (done ++ f ∷ stack) (to g f) →
    IsCounted g component c vertices most (to g f) (done ++ f ∷ []) stack →
    breaks g (done ++ f ∷ stack) + odd_count g component c vertices (done ++ f ∷ stack) ≤ most

-- a walk from the root, which is odd then, makes room for one more chain
abbrev pub FirstWalksAreCounted : Type 0
FirstWalksAreCounted =
    (g : RotationSystem) (component : ℕ → ℕ) (c start avoid z vertices most : ℕ) (base stack : List ℕ) → IsRotationSystem g →
    Walking g component c start avoid (g.from start) z [] base stack → TopLeaves g z stack → IsExhausted g stack z → is_odd g base (g.from start) ≡ 1 →
    IsCounted g component c vertices most (g.from start) [] stack → suc (breaks g stack + odd_count g component c vertices stack) ≤ most

-- a closed first walk leaves no break, all parities as they were, and a root with an even number of edges
abbrev pub ClosedWalksAreEven : Type 0
ClosedWalksAreEven =
    (g : RotationSystem) (component : ℕ → ℕ) (c start avoid z : ℕ) (stack : List ℕ) → IsRotationSystem g →
    Walking g component c start avoid (g.from start) z [] [] stack → TopLeaves g z stack → IsExhausted g stack z → z ≡ g.from start →
    (breaks g stack ≡ 0) × ((v : ℕ) → ends g stack v % 2 ≡ 0) × (degree g (g.from start) % 2 ≡ 0)

-- when the first open walk has ended what is done may be given up, and a walk from the root begins on the stack
abbrev pub WalksBeginAgain : Type 0
WalksBeginAgain =
    (g : RotationSystem) (component : ℕ → ℕ) (c start avoid x y other : ℕ) (done base stack : List ℕ) → IsRotationSystem g →
    HasOpenedAt g component c start avoid x y done base stack → component (g.from start) ≡ c →
    Walking g component c start other (g.from start) (g.from start) [] stack stack

-- the root is odd then
abbrev pub RootsAreOddAgain : Type 0
RootsAreOddAgain =
    (g : RotationSystem) (component : ℕ → ℕ) (c start avoid x y : ℕ) (done base stack : List ℕ) → IsRotationSystem g →
    HasOpenedAt g component c start avoid x y done base stack → is_odd g stack (g.from start) ≡ 1

-- and the count is the number of odd vertices
abbrev pub CountsBeginAgain : Type 0
CountsBeginAgain =
    (g : RotationSystem) (component : ℕ → ℕ) (c start avoid x y vertices : ℕ) (done base stack : List ℕ) → IsRotationSystem g →
    HasOpenedAt g component c start avoid x y done base stack → y < vertices → g.from start < vertices → component (g.from start) ≡ c →
    IsCounted g component c vertices (odd_count g component c vertices []) (g.from start) [] stack

-- when the stack is empty what is done covers the component
abbrev pub EverythingIsCovered : Type 0
EverythingIsCovered =
    (g : RotationSystem) (component : ℕ → ℕ) (start : ℕ) (done : List ℕ) → IsRotationSystem g → 0 < length done →
    Ready g component (component (g.from start)) start done [] → IsConnected g component (g.from start) →
    HasFewChains g component start done → IsCoverOrder g component start done

-- one edge is covered by one chain, so all this speaks of something
pub record OneEdgeIsCovered : Type 0 where
  pub edge : RotationSystem
  pub is_rotation : IsRotationSystem edge
  pub divides : Divides edge (λ _. 0)
  pub covered : IsCoverOrder edge (λ _. 0) 0 (1 ∷ [])
  pub one : length (chains_of edge (1 ∷ [])) ≡ 1

-- the chains of a cover are within the limit, where start leaves an odd vertex exactly if an odd vertex lies outside
abbrev pub ChainsAreWithinTheLimit : Type 0
ChainsAreWithinTheLimit =
    (g : RotationSystem) (component : ℕ → ℕ) (start vertices : ℕ) (order : List ℕ) (outer : Bool) → IsRotationSystem g → IsCoverOrder g component start order → AreBelow g vertices →
    (outer ≡ true ↔ is_odd g [] (g.from start) ≡ 1) →
    length (chains_of g order) ≤ limit_of (odd_count g component (component (g.from start)) vertices []) outer
