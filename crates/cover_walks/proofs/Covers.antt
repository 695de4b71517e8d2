-- The work is done.
use Rattle.std.proofs.Common.{◌≡◌, ℕ, ◌<◌, ◌≤◌, List, [], ◌∷◌, sym, subst, arith, length, append-nil, Bool, true}
use Rattle.rotation_systems.specs.RotationSystem.{RotationSystem, IsRotationSystem}
use Rattle.cover_walks.specs.Orders.{Has}
use Rattle.cover_walks.specs.Walks.{Laid, Ready, AreBelow, breaks, is_odd, odd_count}
use Rattle.cover_walks.specs.Chains.{IsConnected, chains_of, limit_of}
use Rattle.cover_walks.specs.Covers.{HasFewChains, IsCoverOrder}
use Rattle.cover_walks.proofs.Growth.{encloses_of}
use Rattle.cover_walks.proofs.Finish.{all_used}
use Rattle.cover_walks.proofs.Limits.{within_limit}
use Rattle.cover_walks.proofs.Cuts.{chains_count}

module _ (g : RotationSystem) (r : IsRotationSystem g) (component : ℕ → ℕ) (start : ℕ) where
  pub final_all : (done : List ℕ) → 0 < length done → Ready g component (component (g.from start)) start done [] → IsConnected g component (g.from start) →
      (s : ℕ) → s < g.sides → component (g.from s) ≡ component (g.from start) → Has g done s
  final_all [] some h k = absurd (omega arith)
  final_all (a ∷ done) some h k = all_used g r component (component (g.from start)) start a done h k

  -- the stack is empty, and the count is kept
  pub is_cover_order : (done : List ℕ) → 0 < length done → Ready g component (component (g.from start)) start done [] → IsConnected g component (g.from start) →
      HasFewChains g component start done → IsCoverOrder g component start done
  is_cover_order done some h k few =
      let laid = subst (λ l. Laid g component (component (g.from start)) start l) (append-nil done) h.laid in
      record {
        some = some;
        inside = laid.inside;
        once = laid.once;
        whole = final_all done some h k;
        encloses = encloses_of g (λ s. s ≡ start) r done laid.grows;
        last = laid.last;
        few = few;
      }

  -- where start is as the rule has it, at an odd vertex exactly where an odd vertex lies outside, the chains are few enough
  pub chains_within : (order : List ℕ) (vertices : ℕ) (outer : Bool) → IsCoverOrder g component start order → AreBelow g vertices →
      (outer ≡ true → is_odd g [] (g.from start) ≡ 1) → (is_odd g [] (g.from start) ≡ 1 → outer ≡ true) →
      length (chains_of g order) ≤ limit_of (odd_count g component (component (g.from start)) vertices []) outer
  chains_within order vertices outer h b f k =
      subst (λ n. n ≤ limit_of (odd_count g component (component (g.from start)) vertices []) outer) (sym (chains_count g order h.some))
      (within_limit (breaks g order) (is_odd g [] (g.from start)) (odd_count g component (component (g.from start)) vertices []) outer f k (h.few vertices b))
