-- The entities of pairs that grow by one.
use Rattle.std.proofs.Common.{◌≡◌, Bool, true, false, cond, List, [], ◌∷◌, ◌++◌, refl, sym, ap, ◌∙◌}
use Rattle.std.specs.Prelude.{not, take_while}
use Rattle.std.proofs.lemmas.List.Sums.{take_while-cons}
use Rattle.dxf_groups.specs.Pairs.{Pair, has_code}
use Rattle.dxf_entities.specs.Entities.{Entity, entities_of, with_pair}

-- some entities, the last with one pair more
abbrev pub grown : Pair → List Entity → List Entity
grown p [] = []
grown p (e ∷ []) = with_pair p e ∷ []
grown p (e ∷ f ∷ more) = e ∷ grown p (f ∷ more)

-- some entities, the first with one pair more, directly behind its name
abbrev widened : Pair → List Entity → List Entity
widened q [] = []
widened q (e ∷ more) = record e { rest = q ∷ e.rest } ∷ more

-- the pairs up to the next one with code 0
abbrev own_pairs : List Pair → List Pair
own_pairs pairs = take_while (λ q. not (has_code 0 q)) pairs

-- the entity that x begins, and those behind it
abbrev headed : Pair → List Pair → List Entity
headed x pairs = record { head = x; rest = own_pairs pairs } ∷ entities_of pairs

-- by whether q has code 0
front_step : (b : Bool) (x q : Pair) (own rest : List Pair) (own_of_q more : List Entity) → own ≡ cond (not b) (q ∷ rest) [] →
    record { head = x; rest = own } ∷ cond b own_of_q more ≡ cond b (record { head = x; rest = [] } ∷ own_of_q) (record { head = x; rest = q ∷ rest } ∷ more)
front_step true x q own rest own_of_q more h = ap (λ r. record { head = x; rest = r } ∷ own_of_q) h
front_step false x q own rest own_of_q more h = ap (λ r. record { head = x; rest = r } ∷ more) h

-- one more pair directly behind the name
headed-front : (x q : Pair) (pairs : List Pair) → headed x (q ∷ pairs) ≡ cond (has_code 0 q) (record { head = x; rest = [] } ∷ headed q pairs) (widened q (headed x pairs))
headed-front x q pairs = front_step (has_code 0 q) x q (own_pairs (q ∷ pairs)) (own_pairs pairs) (headed q pairs) (entities_of pairs) (take_while-cons (λ r. not (has_code 0 r)) q pairs)

begin_step : (b : Bool) (x q p : Pair) (pairs now : List Pair) →
    headed x now ≡ headed x pairs ++ record { head = p; rest = [] } ∷ [] → headed q now ≡ headed q pairs ++ record { head = p; rest = [] } ∷ [] →
    cond b (record { head = x; rest = [] } ∷ headed q now) (widened q (headed x now)) ≡
    cond b (record { head = x; rest = [] } ∷ headed q pairs) (widened q (headed x pairs)) ++ record { head = p; rest = [] } ∷ []
begin_step true x q p pairs now hx hq = ap (λ es. record { head = x; rest = [] } ∷ es) hq
begin_step false x q p pairs now hx hq = ap (widened q) hx

headed-begin : (p : Pair) → has_code 0 p ≡ true → (x : Pair) (pairs : List Pair) → headed x (pairs ++ p ∷ []) ≡ headed x pairs ++ record { head = p; rest = [] } ∷ []
headed-begin p h x [] = rw h refl
headed-begin p h x (q ∷ pairs) =
    headed-front x q (pairs ++ p ∷ [])
    ∙ begin_step (has_code 0 q) x q p pairs (pairs ++ p ∷ []) (headed-begin p h x pairs) (headed-begin p h q pairs)
    ∙ ap (λ es. es ++ record { head = p; rest = [] } ∷ []) (sym (headed-front x q pairs))

-- the first of both lists, or the second
either_begins : (b : Bool) (p : Pair) (own more own_now more_now : List Entity) →
    own_now ≡ own ++ record { head = p; rest = [] } ∷ [] → more_now ≡ more ++ record { head = p; rest = [] } ∷ [] →
    cond b own_now more_now ≡ cond b own more ++ record { head = p; rest = [] } ∷ []
either_begins true p own more own_now more_now h k = h
either_begins false p own more own_now more_now h k = k

-- a pair with code 0 begins one more entity
pub entities_of-begin : (p : Pair) → has_code 0 p ≡ true → (pairs : List Pair) → entities_of (pairs ++ p ∷ []) ≡ entities_of pairs ++ record { head = p; rest = [] } ∷ []
entities_of-begin p h [] = rw h refl
entities_of-begin p h (q ∷ pairs) =
    either_begins (has_code 0 q) p (headed q pairs) (entities_of pairs) (headed q (pairs ++ p ∷ [])) (entities_of (pairs ++ p ∷ []))
    (headed-begin p h q pairs) (entities_of-begin p h pairs)

widened-grown : (q p : Pair) (e : Entity) (more : List Entity) → widened q (grown p (e ∷ more)) ≡ grown p (widened q (e ∷ more))
widened-grown q p e [] = refl
widened-grown q p e (f ∷ more) = refl

grow_step : (b : Bool) (x q p : Pair) (pairs now : List Pair) → headed x now ≡ grown p (headed x pairs) → headed q now ≡ grown p (headed q pairs) →
    cond b (record { head = x; rest = [] } ∷ headed q now) (widened q (headed x now)) ≡
    grown p (cond b (record { head = x; rest = [] } ∷ headed q pairs) (widened q (headed x pairs)))
grow_step true x q p pairs now hx hq = ap (λ es. record { head = x; rest = [] } ∷ es) hq
grow_step false x q p pairs now hx hq = ap (widened q) hx ∙ widened-grown q p (record { head = x; rest = own_pairs pairs }) (entities_of pairs)

headed-grow : (p : Pair) → has_code 0 p ≡ false → (x : Pair) (pairs : List Pair) → headed x (pairs ++ p ∷ []) ≡ grown p (headed x pairs)
headed-grow p h x [] = rw h refl
headed-grow p h x (q ∷ pairs) =
    headed-front x q (pairs ++ p ∷ [])
    ∙ grow_step (has_code 0 q) x q p pairs (pairs ++ p ∷ []) (headed-grow p h x pairs) (headed-grow p h q pairs)
    ∙ ap (grown p) (sym (headed-front x q pairs))

either_grows : (b : Bool) (p : Pair) (own more own_now more_now : List Entity) → own_now ≡ grown p own → more_now ≡ grown p more →
    cond b own_now more_now ≡ grown p (cond b own more)
either_grows true p own more own_now more_now h k = h
either_grows false p own more own_now more_now h k = k

-- any other pair belongs to the last entity, where there is one
pub entities_of-grow : (p : Pair) → has_code 0 p ≡ false → (pairs : List Pair) → entities_of (pairs ++ p ∷ []) ≡ grown p (entities_of pairs)
entities_of-grow p h [] = rw h refl
entities_of-grow p h (q ∷ pairs) =
    either_grows (has_code 0 q) p (headed q pairs) (entities_of pairs) (headed q (pairs ++ p ∷ [])) (entities_of (pairs ++ p ∷ []))
    (headed-grow p h q pairs) (entities_of-grow p h pairs)
