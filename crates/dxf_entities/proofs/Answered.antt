-- What the builder of an entity answers at its end.
use Rattle.std.proofs.Common.{◌≡◌, Bool, true, false, cond, List, [], ◌∷◌, ℕ, ℤ, lit<, take, length, ◌≤◌, Option, Some, None, refl, sym, ap, subst, ◌∙◌}
use Rattle.std.specs.Prelude.{IsTrue, find, filter_map, not, is_some, option_map}
use Rattle.std.specs.List.{All, cons_option}
use Rattle.std.specs.Option.{option_or}
use Rattle.std.proofs.lemmas.Bool.{false≢true}
use Rattle.std.proofs.lemmas.List.{take_all}
use Rattle.std.proofs.lemmas.List.Elements.{All-nil, All-head, All-tail, All-take, All-weaker}
use Rattle.nest_base.specs.declared.places.Point.{Point}
use Rattle.dxf_entities.specs.declared.shape.Shape.{Shape}
use Rattle.dxf_entities.specs.declared.shape.Shape.TheVariants.{Line, Polyline, Vertex, Seqend, Text as TextShape, Other}
use Rattle.dxf_entities.specs.declared.group.Group.{Group}
use Rattle.dxf_entities.specs.declared.group.Group.TheVariants.{StartX, StartY, EndX, EndY, Flags, Content}
use Rattle.dxf_entities.specs.declared.fault.Fault.{Fault}
use Rattle.dxf_entities.specs.declared.error.Kind.{Kind}
use Rattle.dxf_entities.specs.declared.error.Kind.TheVariants.{Entity as Named}
use Rattle.dxf_entities.specs.declared.error.DrawingError.{DrawingError}
use Rattle.dxf_entities.specs.declared.error.DrawingError.TheVariants.{Unsupported}
use Rattle.dxf_entities.specs.Entities.{Entity, line_of, shape_of}
use Rattle.dxf_entities.specs.Groups.{Text, value, groups_used, groups_needed}
use Rattle.dxf_entities.specs.Refusals.{first, missing_in, oddity, oddity_in, error_of, refusal_by, groups_refusal, name_refusal, values_fault}
use Rattle.dxf_entities.specs.Values.{number_in, bytes_in, has_place, start_of, second_end_of, closes, is_closed, text_of}
use Rattle.dxf_entities.specs.EntityBuilder.{EntitySoFar, value_in, value_read, BuilderAt}

find_agrees : (f k : Group → Bool) (groups : List Group) → All (λ g. f g ≡ k g) groups → find f groups ≡ find k groups
find_agrees f k [] all = refl
find_agrees f k (g ∷ groups) all =
    ap (λ b. cond b (Some g) (find f groups)) (All-head (λ x. f x ≡ k x) g groups all)
    ∙ ap (λ o. cond (k g) (Some g) o) (find_agrees f k groups (All-tail (λ x. f x ≡ k x) g groups all))

filter_map_agrees : (f k : Group → Option Kind) (groups : List Group) → All (λ g. f g ≡ k g) groups → filter_map f groups ≡ filter_map k groups
filter_map_agrees f k [] all = refl
filter_map_agrees f k (g ∷ groups) all =
    ap (λ o. cons_option o (filter_map f groups)) (All-head (λ x. f x ≡ k x) g groups all)
    ∙ ap (cons_option (k g)) (filter_map_agrees f k groups (All-tail (λ x. f x ≡ k x) g groups all))

needed_are_used : (P : Group → Type 0) (s : Shape) → All P (groups_used s) → All P (groups_needed s)
needed_are_used P Line all = all
needed_are_used P Polyline all = All-nil P
needed_are_used P Vertex all = All-take P 2 (groups_used Vertex) all
needed_are_used P Seqend all = All-nil P
needed_are_used P TextShape all = All-take P 3 (groups_used TextShape) all
needed_are_used P Other all = All-nil P

missing_agrees : (h : EntitySoFar) (e : Entity) → BuilderAt h e → h.fault ≡ None → missing_in (value_read h) h.shape ≡ missing_in (value e) (shape_of e)
missing_agrees h e at none =
    let all = needed_are_used (λ g. value_read h g ≡ value e g) h.shape (at.values none) in
    find_agrees (λ g. not (is_some (value_read h g))) (λ g. not (is_some (value e g))) (groups_needed h.shape)
    (All-weaker (λ g. value_read h g ≡ value e g) (λ g. not (is_some (value_read h g)) ≡ not (is_some (value e g))) (λ g is. ap (λ o. not (is_some o)) is) (groups_needed h.shape) all)
    ∙ ap (missing_in (value e)) at.shape

oddity_of_bytes : (g : Group) (h : EntitySoFar) → oddity g (value_in h.values g) ≡ oddity g (value_read h g)
oddity_of_bytes Content h = refl
oddity_of_bytes g h = refl

-- what isn't planned of the values
abbrev pub odd_in : EntitySoFar → Option Kind
odd_in h = first (filter_map (λ g. oddity g (value_in h.values g)) (groups_used h.shape))

odd_agrees : (h : EntitySoFar) (e : Entity) → BuilderAt h e → h.fault ≡ None → odd_in h ≡ oddity_in (value e) (shape_of e)
odd_agrees h e at none =
    ap first (filter_map_agrees (λ g. oddity g (value_in h.values g)) (λ g. oddity g (value e g)) (groups_used h.shape)
    (All-weaker (λ g. value_read h g ≡ value e g) (λ g. oddity g (value_in h.values g) ≡ oddity g (value e g)) (λ g is. oddity_of_bytes g h ∙ ap (oddity g) is) (groups_used h.shape) (at.values none)))
    ∙ ap (oddity_in (value e)) at.shape

-- the refusal
pub refusal_agrees : (h : EntitySoFar) (e : Entity) → BuilderAt h e → refusal_by h.line h.fault (missing_in (value_read h) h.shape) (odd_in h) ≡ groups_refusal e
refusal_agrees h e at = by_fault h.fault refl
  where
    missing : Option Group
    missing = missing_in (value e) (shape_of e)

    odd : Option Kind
    odd = oddity_in (value e) (shape_of e)

    by_fault : (o : Option Fault) → h.fault ≡ o → refusal_by h.line h.fault (missing_in (value_read h) h.shape) (odd_in h) ≡ refusal_by (line_of e) (values_fault e) missing odd
    by_fault (Some fault) is =
        ap (λ o. refusal_by h.line o (missing_in (value_read h) h.shape) (odd_in h)) is ∙ sym (ap (λ o. refusal_by (line_of e) o missing odd) (sym at.fault ∙ is))
    by_fault None is =
        ap (λ l. refusal_by l h.fault (missing_in (value_read h) h.shape) (odd_in h)) at.line
        ∙ ap (λ o. refusal_by (line_of e) o (missing_in (value_read h) h.shape) (odd_in h)) at.fault
        ∙ ap (λ o. refusal_by (line_of e) (values_fault e) o (odd_in h)) (missing_agrees h e at is)
        ∙ ap (λ o. refusal_by (line_of e) (values_fault e) missing o) (odd_agrees h e at is)

no_fault : (o : Option Fault) (later : Option DrawingError) → option_or (option_map error_of o) later ≡ None → o ≡ None
no_fault None later e = refl
no_fault (Some fault) later e = absurd (cc)

-- what is kept of an entity that isn't refused
accepted : (h : EntitySoFar) (e : Entity) → BuilderAt h e → groups_refusal e ≡ None → All (λ g. value_read h g ≡ value e g) (groups_used (shape_of e))
accepted h e at none = subst (λ s. All (λ g. value_read h g ≡ value e g) (groups_used s)) at.shape (at.values (at.fault ∙ no_fault (values_fault e) _ none))

placed : (P : Group → Type 0) (s : Shape) → IsTrue (has_place s) → All P (groups_used s) → P StartX × P StartY
placed P Line t all = (all 0 StartX (lit< tt), all 1 StartX (lit< tt))
placed P Polyline t all = absurd (false≢true t)
placed P Vertex t all = (all 0 StartX (lit< tt), all 1 StartX (lit< tt))
placed P Seqend t all = absurd (false≢true t)
placed P TextShape t all = (all 0 StartX (lit< tt), all 1 StartX (lit< tt))
placed P Other t all = absurd (false≢true t)

same_point : (a b c d : ℤ) → a ≡ b → c ≡ d → ◌≡◌ {A = Point} (record { x = a; y = c }) (record { x = b; y = d })
same_point a b c d p q = λ i. record { x = p i; y = q i }

-- the place
pub start_agrees : (h : EntitySoFar) (e : Entity) → BuilderAt h e → groups_refusal e ≡ None → IsTrue (has_place (shape_of e)) →
    ◌≡◌ {A = Point} (record { x = number_in (value_in h.values StartX); y = number_in (value_in h.values StartY) }) (start_of e)
start_agrees h e at none has =
    let both = placed (λ g. value_read h g ≡ value e g) (shape_of e) has (accepted h e at none) in
    same_point _ _ _ _ (ap number_in both.0) (ap number_in both.1)

-- the place of the second end
pub end_agrees : (h : EntitySoFar) (e : Entity) → BuilderAt h e → groups_refusal e ≡ None → shape_of e ≡ Line →
    ◌≡◌ {A = Point} (record { x = number_in (value_in h.values EndX); y = number_in (value_in h.values EndY) }) (second_end_of e)
end_agrees h e at none line =
    let all = subst (λ s. All (λ g. value_read h g ≡ value e g) (groups_used s)) line (accepted h e at none) in
    same_point _ _ _ _ (ap number_in (all 2 StartX (lit< tt))) (ap number_in (all 3 StartX (lit< tt)))

-- whether a polyline is closed
pub closed_agrees : (h : EntitySoFar) (e : Entity) → BuilderAt h e → groups_refusal e ≡ None → shape_of e ≡ Polyline →
    closes (number_in (value_in h.values Flags)) ≡ is_closed e
closed_agrees h e at none polyline =
    let all = subst (λ s. All (λ g. value_read h g ≡ value e g) (groups_used s)) polyline (accepted h e at none) in
    ap (λ o. closes (number_in o)) (all 0 StartX (lit< tt))

content_is : (has : Bool) (content : List ℕ) → (has ≡ false → content ≡ []) → content ≡ bytes_in (option_map Text (cond has (Some content) None))
content_is true content empty = refl
content_is false content empty = empty refl

-- the text, as it's kept
pub text_agrees : (h : EntitySoFar) (e : Entity) (has : Bool) (content : List ℕ) → (has ≡ false → content ≡ []) → h.text ≡ cond has (Some content) None →
    BuilderAt h e → groups_refusal e ≡ None → shape_of e ≡ TextShape → content ≡ text_of e
text_agrees h e has content empty text at none is =
    let all = subst (λ s. All (λ g. value_read h g ≡ value e g) (groups_used s)) is (accepted h e at none) in
    content_is has content empty ∙ ap (λ o. bytes_in (option_map Text o)) (sym text) ∙ ap bytes_in (all 2 StartX (lit< tt))

-- the name, cut a second time
pub name_agrees : (h : EntitySoFar) (e : Entity) (label cut : List ℕ) → BuilderAt h e → cut ≡ take 32 label → label ≡ h.label → length h.label ≤ 32 →
    Unsupported h.line (Named cut) ≡ name_refusal e
name_agrees h e label cut at is same short =
    ap (λ l. Unsupported l (Named cut)) at.line
    ∙ ap (λ name. Unsupported (line_of e) (Named name)) (is ∙ ap (take 32) same ∙ take_all 32 h.label short ∙ at.label)
