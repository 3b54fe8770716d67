-- The group objects of the first `link` lines of groups.
use Rattle.std.proofs.Common.{◌≡◌, ℕ, ◌+◌, ◌<◌, Bool, true, false, cond, eqb, ◌||◌, List, [], ◌∷◌, ◌++◌, length, get_or, take, Option, Some, None, refl, sym, ap, ◌∙◌}
use Rattle.std.specs.Option.{option_map, option_or}
use Rattle.std.proofs.lemmas.List.{take_more}
use Rattle.std.proofs.lemmas.List.Folds.{list_any-append}
use Rattle.knx_model.specs.declared.address.GroupAddr.{GroupAddr}
use Rattle.knx_model.specs.declared.address.IndAddr.{IndAddr}
use Rattle.knx_model.specs.declared.catalogue.model.NamedModel.{NamedModel}
use Rattle.knx_model.specs.declared.project.Statement.{Statement}
use Rattle.knx_model.specs.Rules.{first_some, has_group, linked_in}
use Rattle.project_check.specs.Knowing.{known_at, known_object}
use Rattle.project_check.proofs.Steps.{first_more}

or_false : (a b : Bool) → (a || (b || false)) ≡ (a || b)
or_false a true = refl
or_false a false = refl

-- with one group more
has_more : (g : ℕ) (groups : List GroupAddr) (i : ℕ) (group : GroupAddr) → i < length groups → group ≡ get_or groups i group → has_group g (take (i + 1) groups) ≡ (has_group g (take i groups) || eqb group.raw g)
has_more g groups i group lt is =
    ap (has_group g) (take_more groups i group lt ∙ ap (λ (x : GroupAddr). take i groups ++ x ∷ []) (sym is))
    ∙ list_any-append (λ (x : GroupAddr). eqb x.raw g) (take i groups) (group ∷ [])
    ∙ or_false (has_group g (take i groups)) (eqb group.raw g)

or_cond : {X : Type 0} (a b : Bool) (old : Option X) (x : X) → option_or old (cond (a || b) (Some x) None) ≡ option_or (option_or old (cond a (Some x) None)) (cond b (Some x) None)
or_cond a b (Some y) x = refl
or_cond true b None x = refl
or_cond false b None x = refl

-- the first of some groups and of one more
pub group_more : {X : Type 0} (g : ℕ) (groups : List GroupAddr) (i : ℕ) (group : GroupAddr) (old : Option X) (x : X) → i < length groups → group ≡ get_or groups i group
    → option_or (option_or old (cond (has_group g (take i groups)) (Some x) None)) (cond (eqb group.raw g) (Some x) None) ≡ option_or old (cond (has_group g (take (i + 1) groups)) (Some x) None)
group_more {X = X} g groups i group old x lt is =
    sym (or_cond (has_group g (take i groups)) (eqb group.raw g) old x) ∙ ap (λ (b : Bool). option_or old (cond {A = Option X} b (Some x) None)) (sym (has_more g groups i group lt is))

-- what is known of the object of a line of a group
pub linked_known : (catalogue : List NamedModel) (all : List Statement) (g : ℕ) (device : IndAddr) (object : ℕ) (groups : List GroupAddr) (b : Bool) → has_group g groups ≡ b
    → cond b (Some (known_object catalogue all device.raw object)) None ≡ option_map (known_at catalogue all) (cond b (Some (device.raw, object)) None)
linked_known catalogue all g device object groups true is = refl
linked_known catalogue all g device object groups false is = refl

map_or : {X Y : Type 0} (f : X → Y) (a b : Option X) → option_or (option_map f a) (option_map f b) ≡ option_map f (option_or a b)
map_or f None b = refl
map_or f (Some x) b = refl

-- the first line of a group, with one statement more
pub linked_more : (catalogue : List NamedModel) (all : List Statement) (g : ℕ) (ss : List Statement) (i : ℕ) (s : Statement) → i < length ss → s ≡ get_or ss i s
    → option_or (option_map (known_at catalogue all) (first_some (linked_in g) (take i ss))) (option_map (known_at catalogue all) (linked_in g s.what)) ≡ option_map (known_at catalogue all) (first_some (linked_in g) (take (i + 1) ss))
linked_more catalogue all g ss i s lt is =
    map_or (known_at catalogue all) (first_some (linked_in g) (take i ss)) (linked_in g s.what)
    ∙ ap (option_map (known_at catalogue all)) (sym (ap (first_some (linked_in g)) (take_more ss i s lt ∙ ap (λ (t : Statement). take i ss ++ t ∷ []) (sym is)) ∙ first_more (linked_in g) (take i ss) s))
