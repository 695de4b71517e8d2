-- An entity of which the name alone has come.
use Rattle.std.proofs.Common.{◌≡◌, ℕ, List, [], take, None, ap, ◌∙◌}
use Rattle.std.specs.Prelude.{◌||◌, codes, bytes_eq, option_map}
use Rattle.nest_base.specs.Lines.{trimmed}
use Rattle.dxf_groups.specs.Pairs.{Pair}
use Rattle.dxf_entities.specs.declared.group.Group.{Group}
use Rattle.dxf_entities.specs.declared.group.Group.TheVariants.{Content}
use Rattle.dxf_entities.specs.Entities.{shape_named}
use Rattle.dxf_entities.specs.Groups.{Text}
use Rattle.dxf_entities.specs.EntityBuilder.{EntitySoFar, value_in, value_read, BuilderAt}

-- nothing is kept
abbrev pub IsEmpty : EntitySoFar → Type 0
IsEmpty h = (h.opening ≡ None) × (h.space ≡ None) × (h.fault ≡ None) × (h.text ≡ None) × ((g : Group) → value_in h.values g ≡ None)

nothing_read : (g : Group) (h : EntitySoFar) → h.text ≡ None → ((f : Group) → value_in h.values f ≡ None) → value_read h g ≡ None
nothing_read Content h text values = ap (option_map Text) text
nothing_read g h text values = values g

pub begun : (h : EntitySoFar) (head : Pair) (name : List ℕ) → name ≡ trimmed head.value → h.shape ≡ shape_named name → h.label ≡ take 32 name → h.line ≡ head.line →
    h.is_section ≡ bytes_eq name (codes "SECTION") → h.closes ≡ (bytes_eq name (codes "ENDSEC") || bytes_eq name (codes "EOF")) → IsEmpty h →
    BuilderAt h (record { head = head; rest = [] })
begun h head name e shape label line is_section closes empty = record {
  shape = shape ∙ ap shape_named e;
  label = label ∙ ap (take 32) e;
  line = line;
  is_section = is_section ∙ ap (λ n. bytes_eq n (codes "SECTION")) e;
  closes = closes ∙ ap (λ n. bytes_eq n (codes "ENDSEC") || bytes_eq n (codes "EOF")) e;
  opening = empty.0;
  space = empty.1;
  fault = empty.2;
  values = λ none k d within. nothing_read _ h empty.3 empty.4;
}
