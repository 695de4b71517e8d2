use Rattle.std.proofs.Common.{arith, ◌≡◌, ◌≢◌, ◌<◌, ℕ, inl, inr, Bool, true, false, length, map, replicate, refl, sym, ap, subst, ◌∙◌}
use Rattle.std.specs.Prelude.{◌==◌}
use Rattle.std.proofs.lemmas.Bool.{cases_lt}
use Rattle.std.proofs.lemmas.Bool.Decides.{nat_tests}
use Rattle.std.proofs.lemmas.List.{length-map, length-replicate, get_or-map, get_or-replicate, get_or_past}
use Rattle.nest_base.specs.declared.numbers.Component.{Component}
use Rattle.half_edges.specs.Floods.{IsLaidOut, none, component_at}
use Rattle.nest_base.specs.NumberLists.{component_numbers, vertex_numbers}
use Rattle.nest_base.proofs.ListReads.{read_below}
use Rattle.nest_base.proofs.NumberLists.{length-component_numbers}
use Rattle.half_edges.proofs.NumberLists.{component_read}
use Rattle.half_edges.proofs.FirstMarks.{AreFirstMarks, numbers_begun, numbers_passed, numbers_more, components_found}
use Rattle.half_edges.proofs.components.components_of.Goals as goal
use Rattle.half_edges.proofs.components.components_of.Goals.{then-eq+in_ok-start, else-eq}

abbrev number : Component → ℕ
number c = c.0

all_bare : (n v : ℕ) (c : Component) → c.0 ≡ none → component_at (component_numbers (replicate n c)) v ≡ none
all_bare n v c is = elim (cases_lt v n) [
  | inl less ↦
      get_or-map number (replicate n c) v c none (simp length-replicate less) ∙ ap number (get_or-replicate n v c c less) ∙ is
  | inr past ↦ get_or_past (map number (replicate n c)) v none (simp (length-map, length-replicate) past)
]

test_true : (n : ℕ) (b : Bool) → b ≡ (n == none) → b ≡ true → n ≡ none
test_true n b is same = grind (arith, nat_tests)

test_false : (n : ℕ) (b : Bool) → b ≡ (n == none) → b ≡ false → n ≢ none
test_false n b is other same = grind (arith, nat_tests)

pub loop-v-init : goal.loop-v-init
loop-v-init c =
    let c0 : Component = record { 0 = none } in
    let items : c.in_ok-vec.field-0.items ≡ replicate c.len.result c0 = c.in_ok-vec.ensures.items_if_clones_equal (λ y same. same) in
    let count : length c.in_ok-vec.field-0.items ≡ c.len.result = ap length items ∙ length-replicate c.len.result c0 in
    numbers_begun (IsLaidOut c.args.layout.now c.args.all.now) c.args.layout.now.places.keys (component_numbers c.in_ok-vec.field-0.items) c.new.result.items (vertex_numbers c.new-2.result.items)
    (omega (arith, length-component_numbers c.in_ok-vec.field-0.items, count)) (λ v. rw items (all_bare c.len.result v c0 refl)) c.new.ensures.items (ap vertex_numbers c.new-2.ensures.items)

pub loop-v-preserved : goal.loop-v-preserved
loop-v-preserved c =
    let self = c.loop-v.flood in
    let s = c.loop-v.invariant in
    let places = c.args.layout.now.places.keys in
    let v = c.loop-v.v in
    let below : v < length places = omega arith in
    let within : v < length self.of_vertex.items = omega (arith, s.as_many, length-component_numbers self.of_vertex.items) in
    let is = component_read self.of_vertex.items v c.index.result.now within c.index.ensures in
    elim c.if-eq.branch [
      | then-eq+in_ok-start w ↦
          let at = read_below places v below in
          let e = w.in_ok-start.ensures in
          rw w.flood-is
          (numbers_more (IsLaidOut c.args.layout.now c.args.all.now) places v at.0 (component_numbers self.of_vertex.items) self.marks.items (vertex_numbers self.found.items)
          (component_numbers w.start.new.self.of_vertex.items) w.start.new.self.marks.items (vertex_numbers w.start.new.self.found.items) c.requires.known.0 c.requires.known.1
          (λ edges lay. lay.are_vertices) s at.1 (is ∙ test_true c.index.result.now.0 c.eq.result c.eq.ensures w.if-eq.true) (e.marks at.0 at.1) (ap vertex_numbers e.empty) e.kept e.numbered e.flood)
      | else-eq w ↦
          let has = test_false c.index.result.now.0 c.eq.result c.eq.ensures w.if-eq.false in
          rw w.flood-is
          (numbers_passed (IsLaidOut c.args.layout.now c.args.all.now) places v (component_numbers self.of_vertex.items) self.marks.items (vertex_numbers self.found.items) s (λ bare. has (sym is ∙ bare)))
    ]

pub returns : goal.returns
returns c = λ edges lay.
    let s = c.loop-v.invariant in
    let places = c.args.layout.now.places.keys in
    let done : c.loop-v.v ≡ length places = omega arith in
    components_found edges places (component_numbers c.loop-v.flood.of_vertex.items) c.loop-v.flood.marks.items lay.are_vertices (s.flood edges lay)
    (subst (λ n. AreFirstMarks edges places n c.loop-v.flood.marks.items) done (s.firsts edges lay)) (λ j less. s.numbered j (omega arith))
