-- The first site of a list, found out one after another.
use Rattle.std.proofs.Common.{arith, ◌≡◌, ◌<◌, ◌+◌, ℕ, length, sym, subst, ap, ◌∙◌, inl, inr, pos, refl}
use Rattle.std.specs.Prelude.{List, [], ◌∷◌, AllPairs, Some, slice_get}
use Rattle.std.proofs.lemmas.Bool.{cases_lt}
use Rattle.std.proofs.lemmas.Option.{slice_get_within, same_Some, get_or_from_slice_get}
use Rattle.std.proofs.lemmas.Int.{ints, by_lt_z}
use Rattle.nest_base.specs.declared.places.Point.{Point}
use Rattle.nest_base.specs.Order.{IsMarkedBefore}
use Rattle.nest_base.proofs.Orders.{IsMarkedBefore-asym, IsMarkedBefore-trans}
use Rattle.nest_base.proofs.Signs.{by_order_z}
use Rattle.start_policy.specs.declared.site.Site.{Site}
use Rattle.start_policy.specs.Choices.{IsFirstBy, IsWestOf, IsNearer, squared_distance}

-- what is read past the end of a list
abbrev pub nowhere : Site
nowhere = record { at = record { x = pos 0; y = pos 0 }; key = 0 }

-- one of the orders by which sites are chosen
pub record Chooses (goes_before : Site → Site → Type 0) : Type 0 where
  pub never_itself : (a : Site) → goes_before a a → ⊥
  pub through : (a b c : Site) → goes_before a b → goes_before b c → goes_before a c
  pub past : (a b c : Site) → goes_before a b → (goes_before c b → ⊥) → goes_before a c

-- the site comes before all others of the first n
pub record IsFirstBelow (goes_before : Site → Site → Type 0) (sites : List Site) (n index : ℕ) : Type 0 where
  pub site : Site
  pub stands : slice_get sites index ≡ Some site
  pub first : (k : ℕ) (other : Site) → k < n → slice_get sites k ≡ Some other → goes_before other site → ⊥
  pub earliest : (k : ℕ) (other : Site) → k < index → slice_get sites k ≡ Some other → goes_before site other

pub begins_first : (goes_before : Site → Site → Type 0) → Chooses goes_before → (sites : List Site) (s : Site) → slice_get sites 0 ≡ Some s →
    IsFirstBelow goes_before sites 1 0
begins_first goes_before order sites s at = record {
  site = s;
  stands = at;
  first = λ k other below stands before.
      let same : other ≡ s = same_Some _ _ (sym stands ∙ ap (slice_get sites) (omega (arith, below)) ∙ at) in
      order.never_itself s (subst (λ o. goes_before o s) same before);
  earliest = λ k other earlier stands. absurd (omega (arith, earlier));
}

pub stays_first : (goes_before : Site → Site → Type 0) (sites : List Site) (n index : ℕ) (a b : Site) → IsFirstBelow goes_before sites n index →
    slice_get sites index ≡ Some a → slice_get sites n ≡ Some b → (goes_before b a → ⊥) → IsFirstBelow goes_before sites (n + 1) index
stays_first goes_before sites n index a b so_far at next not_before = record {
  site = so_far.site;
  stands = so_far.stands;
  first = λ k other below stands before. elim (cases_lt k n) [
    | inl earlier ↦ so_far.first k other earlier stands before
    | inr late ↦
        let same : other ≡ b = same_Some _ _ (sym stands ∙ ap (slice_get sites) (omega (arith, below, late)) ∙ next) in
        let site : so_far.site ≡ a = same_Some _ _ (sym so_far.stands ∙ at) in
        not_before (subst (λ o. goes_before o a) same (subst (λ o. goes_before other o) site before))
  ];
  earliest = so_far.earliest;
}

pub becomes_first : (goes_before : Site → Site → Type 0) → Chooses goes_before → (sites : List Site) (n index : ℕ) (a b : Site) →
    IsFirstBelow goes_before sites n index → slice_get sites index ≡ Some a → slice_get sites n ≡ Some b → goes_before b a →
    IsFirstBelow goes_before sites (n + 1) n
becomes_first goes_before order sites n index a b so_far at next before = record {
  site = b;
  stands = next;
  first = λ k other below stands goes. elim (cases_lt k n) [
    | inl earlier ↦ so_far.first k other earlier stands (subst (λ o. goes_before other o) (same_Some _ _ (sym at ∙ so_far.stands)) (order.through other b a goes before))
    | inr late ↦
        let same : other ≡ b = same_Some _ _ (sym stands ∙ ap (slice_get sites) (omega (arith, below, late)) ∙ next) in
        order.never_itself b (subst (λ o. goes_before o b) same goes)
  ];
  earliest = λ k other earlier stands.
      order.past b a other before (λ goes. so_far.first k other earlier stands (subst (λ o. goes_before other o) (same_Some _ _ (sym at ∙ so_far.stands)) goes));
}

pub first_of_all : (goes_before : Site → Site → Type 0) (sites : List Site) (index : ℕ) → IsFirstBelow goes_before sites (length sites) index →
    IsFirstBy goes_before sites index
first_of_all goes_before sites index so_far = record {
  site = so_far.site;
  stands = so_far.stands;
  first = λ k other stands. so_far.first k other (slice_get_within sites k other stands) stands;
  earliest = so_far.earliest;
}

-- what isn't before b comes after all that are
past_west : (a b c : Point) → IsMarkedBefore a b → (IsMarkedBefore c b → ⊥) → IsMarkedBefore a c
past_west a b c before later =
    by_order_z c.x b.x (λ west. absurd (later (inl west)))
    (λ same. by_lt_z b.y c.y (λ north. absurd (later (inr (same, north))))
    (λ south. elim before [
      | inl west ↦ inl (omega (arith, ints, west, same))
      | inr north ↦ inr (north.0 ∙ sym same, omega (arith, ints, north.1, south))
    ]))
    (λ east. elim before [
      | inl west ↦ inl (omega (arith, ints, west, east))
      | inr north ↦ inl (omega (arith, ints, north.0, east))
    ])

pub west_chooses : Chooses IsWestOf
west_chooses = record {
  never_itself = λ a before. IsMarkedBefore-asym a.at a.at before before;
  through = λ a b c p q. IsMarkedBefore-trans a.at b.at c.at p q;
  past = λ a b c p later. past_west a.at b.at c.at p later;
}

pub nearer_chooses : (last : Point) → Chooses (IsNearer last)
nearer_chooses last = record {
  never_itself = λ a before. omega (arith, ints, before);
  through = λ a b c p q. omega (arith, ints, p, q);
  past = λ a b c p later. by_lt_z (squared_distance a.at last) (squared_distance c.at last) (λ less. less) (λ at_least. absurd (later (omega (arith, ints, p, at_least))));
}

-- of sites that stand in this order the first is that of all
pub first_in_order : (goes_before : Site → Site → Type 0) → Chooses goes_before → (sites : List Site) → 0 < length sites → AllPairs goes_before sites →
    IsFirstBy goes_before sites 0
first_in_order goes_before order (s ∷ sites) some rising = record {
  site = s;
  stands = refl;
  first = λ k other stands before. elim (cases_lt 0 k) [
    | inl later ↦
        let below = slice_get_within (s ∷ sites) k other stands in
        let after : goes_before s other = subst (goes_before s) (get_or_from_slice_get (s ∷ sites) k other nowhere stands) (rising 0 k nowhere later below) in
        order.never_itself s (order.through s other s after before)
    | inr low ↦
        let zero : k ≡ 0 = omega (arith, low) in
        let same : other ≡ s = same_Some _ _ (sym stands ∙ ap (slice_get (s ∷ sites)) zero) in
        order.never_itself s (subst (λ o. goes_before o s) same before)
  ];
  earliest = λ k other earlier stands. absurd (omega (arith, earlier));
}
first_in_order goes_before order [] some rising = absurd (omega (arith, some))
