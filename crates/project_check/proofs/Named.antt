-- Maps by borrowed names.
use Rattle.std.proofs.Common.{◌≡◌, ℕ, ◌<◌, Bool, true, false, cond, eqb, not, ◌||◌, List, length, get_or, Option, Some, None, refl, sym}
use Rattle.std.specs.Prelude.{bytes_eq, is_some, is_none, IfSome, IfNone}
use Rattle.std.specs.Borrow.{Bor}
use Rattle.std.specs.Option.{option_map, option_or, option_flatten}
use Rattle.std.proofs.lemmas.List.Folds.{list_any_at}
use Rattle.std.specs.HashMap.{HashMap, get_by}
use Rattle.std.proofs.lemmas.Bool.{eqb-true}
use Rattle.std.proofs.lemmas.Option.{MatchOption-at_some, same_Some}
use Rattle.std.proofs.lemmas.Slice.Eq.{bytes_eq-Decides}
use Rattle.knx_model.specs.declared.catalogue.model.Model.{Model}
use Rattle.knx_model.specs.declared.address.IndAddr.{IndAddr}
use Rattle.knx_model.specs.declared.catalogue.model.NamedModel.{NamedModel}
use Rattle.knx_model.specs.declared.project.Statement.{Statement}
use Rattle.knx_model.specs.declared.project.What.{What}
use Rattle.knx_model.specs.declared.project.What.TheVariants.{Version, Title, Group, Device, Object, Link, Send, Flags, Param}
use Rattle.knx_model.specs.Models.{model_named}
use Rattle.knx_model.specs.Rules.{named_model, model_in}
use Rattle.project_check.specs.Keys.{index_of, names_model}
use Rattle.project_check.specs.Knowing.{Indexes, IndexesNamed, IsKept, IsNamed}
use Rattle.project_check.specs.declared.models.ModelIndex.{ModelIndex}

-- a value is put where there was none
pub put_first : {X : Type 0} (b : Bool) (old : Option X) (x : X) → (b ≡ true → old ≡ None) → cond b (Some x) old ≡ option_or old (cond b (Some x) None)
put_first true None x e = refl
put_first true (Some y) x e = absurd (let h = e refl in cc)
put_first false None x e = refl
put_first false (Some y) x e = refl

pub none_of : {X : Type 0} (o : Option X) → is_some o ≡ false → o ≡ None
none_of None e = refl
none_of (Some x) e = absurd (cc)

-- a map without a name has none at names that are equal to it
pub absent : {X S : Type 0} (mine name : List ℕ) (m : HashMap (Bor (List ℕ)) X S) → false ≡ is_some (get_by (λ key. bytes_eq mine key.now) m) → bytes_eq mine name ≡ true
    → get_by (λ key. bytes_eq name key.now) m ≡ None
absent mine name m lacks same =
    let is : mine ≡ name = (bytes_eq-Decides mine name).0 same in
    rw (← is) (none_of _ (sym lacks))

-- what has no value at a number has none at a number that is equal to it
pub same_at : {X : Type 0} (at : ℕ → Option X) (mine q : ℕ) → eqb mine q ≡ true → at mine ≡ None → at q ≡ None
same_at at mine q same none =
    let is : mine ≡ q = eqb-true mine q same in
    rw (← is) none

-- after a value is put at a test, there is one where there was, or at the test
pub put_some : {X : Type 0} (b : Bool) (old : Option X) (x : X) → is_some (cond b (Some x) old) ≡ (is_some old || b)
put_some true None x = refl
put_some true (Some y) x = refl
put_some false None x = refl
put_some false (Some y) x = refl

pub put_right : {X : Type 0} (P : X → Type 0) (b : Bool) (old : Option X) (x : X) → (b ≡ true → P x) → IfSome old P → IfSome (cond b (Some x) old) P
put_right P true old x here before = here refl
put_right P false old x here before = before

-- what holds of each value that is found
pub right_at : {X : Type 0} (P : X → Type 0) (o : Option X) (x : X) → o ≡ Some x → IfSome o P → P x
right_at P o x e h = MatchOption-at_some _ P x e h

same_known : (o : Option ModelIndex) (m : Option Model) → IndexesNamed o m → is_some o ≡ is_some m
same_known None None h = refl
same_known None (Some m) h = absurd h
same_known (Some index) None h = absurd h
same_known (Some index) (Some m) h = refl

pub known_is : (kept : Option (Bor ModelIndex)) (m : Option Model) → IndexesNamed (option_map index_of kept) m → is_some kept ≡ is_some m
known_is None m h = same_known None m h
known_is (Some index) m h = same_known (Some index.now) m h

pub indexed_none : (m : Option Model) → IndexesNamed None m → m ≡ None
indexed_none None h = refl
indexed_none (Some m) h = absurd h

pub indexed_some : (index : ModelIndex) (m : Option Model) → IndexesNamed (Some index) m → (n : Model) × (m ≡ Some n) × Indexes index n
indexed_some index None h = absurd h
indexed_some index (Some m) h = (m, refl, h)

pub none_not : {X : Type 0} (o : Option X) → is_none o ≡ not (is_some o)
none_not None = refl
none_not (Some x) = refl

pub none_then : {X : Type 0} (r : Option X) {P Q : Type 0} → IfNone r P → (P → Q) → IfNone r Q
none_then None h f = f h
none_then (Some x) h f = tt

-- ---- what is kept of devices

-- the model that a line names stands in that line
pub stands_named : (ss : List Statement) (i : ℕ) (s : Statement) → i < length ss → s ≡ get_or ss i s → IsNamed ss s.what
stands_named ss i s lt is = λ name names. list_any_at (λ (t : Statement). names_model name t.what) ss i s lt (rw (← is) names)

pub kept_known : (catalogue : List NamedModel) (kept : Option (Option (Bor ModelIndex))) (name : Option (List ℕ)) → IsKept catalogue kept name → is_some kept ≡ is_some name
kept_known catalogue None None h = refl
kept_known catalogue None (Some name) h = absurd h
kept_known catalogue (Some kept) None h = absurd h
kept_known catalogue (Some kept) (Some name) h = refl

-- the model that is kept of a device, where something is
pub kept_model : (catalogue : List NamedModel) (kept : Option (Option (Bor ModelIndex))) (name : Option (List ℕ)) → IsKept catalogue kept name → IndexesNamed (option_map index_of (option_flatten kept)) (named_model catalogue name)
kept_model catalogue None None h = tt
kept_model catalogue None (Some name) h = absurd h
kept_model catalogue (Some kept) None h = absurd h
kept_model catalogue (Some kept) (Some name) h = h

-- what is found is indexed, whatever is known
pub indexed_found : {P : List NamedModel → List Statement → Type 0} (found : List NamedModel → List Statement → Option Model) (kept : Option (Bor ModelIndex))
    → ((catalogue : List NamedModel) (ss : List Statement) → P catalogue ss → IndexesNamed (option_map index_of kept) (found catalogue ss))
    → IfSome kept (λ index. (catalogue : List NamedModel) (ss : List Statement) → P catalogue ss → (m : Model) × (found catalogue ss ≡ Some m) × Indexes index.now m)
indexed_found found None h = tt
indexed_found found (Some index) h = λ catalogue ss p. indexed_some index.now (found catalogue ss) (h catalogue ss p)

pub indexed_nothing : {P : List NamedModel → List Statement → Type 0} (found : List NamedModel → List Statement → Option Model) (kept : Option (Bor ModelIndex))
    → ((catalogue : List NamedModel) (ss : List Statement) → P catalogue ss → IndexesNamed (option_map index_of kept) (found catalogue ss))
    → IfNone kept ((catalogue : List NamedModel) (ss : List Statement) → P catalogue ss → found catalogue ss ≡ None)
indexed_nothing found None h = λ catalogue ss p. indexed_none (found catalogue ss) (h catalogue ss p)
indexed_nothing found (Some index) h = tt

-- the model that was found by a name is the one that is kept
pub found_named : (kept : Option (Bor ModelIndex)) (model : Option Model) → IfSome kept (λ index. (m : Model) × (model ≡ Some m) × Indexes index.now m) → IfNone kept (model ≡ None) → IndexesNamed (option_map index_of kept) model
found_named None model some none = rw none tt
found_named (Some index) model some none = rw some.1 some.2

or_nothing : {X : Type 0} (o : Option X) → option_or o None ≡ o
or_nothing None = refl
or_nothing (Some x) = refl

-- what is kept stays, where a device has a name already
pub still_kept : (catalogue : List NamedModel) (kept : Option (Option (Bor ModelIndex))) (b : Bool) (name : List ℕ) (old : Option (List ℕ)) → (b ≡ true → is_some kept ≡ true) → IsKept catalogue kept old → IsKept catalogue kept (option_or old (cond b (Some name) None))
still_kept catalogue kept b name (Some mine) known h = h
still_kept catalogue None true name None known h = absurd (let e = known refl in cc)
still_kept catalogue None false name None known h = tt
still_kept catalogue (Some kept) b name None known h = absurd h

pub nothing_more : (catalogue : List NamedModel) (kept : Option (Option (Bor ModelIndex))) (old more : Option (List ℕ)) → more ≡ None → IsKept catalogue kept old → IsKept catalogue kept (option_or old more)
nothing_more catalogue kept old more none h = rw (none, or_nothing old) h

pub no_model : (a : ℕ) (what : What) → ((device : IndAddr) (model : List ℕ) → what ≡ Device device model → ⊥) → model_in a what ≡ None
no_model a (Device device model) other = absurd (other device model refl)
no_model a (Title name) other = refl
no_model a (Group group name) other = refl
no_model a (Object device n size flags) other = refl
no_model a (Link device object groups) other = refl
no_model a Version other = refl
no_model a (Send device object group) other = refl
no_model a (Flags device object flags) other = refl
no_model a (Param device name value) other = refl

-- the model that is put for a device that had none
pub put_kept : (catalogue : List NamedModel) (put kept : Option (Option (Bor ModelIndex))) (found : Option (Bor ModelIndex)) (b : Bool) (model : List ℕ) (name : Option (List ℕ)) → put ≡ Some found → IndexesNamed (option_map index_of found) (model_named catalogue model)
    → (b ≡ true → name ≡ None) → (b ≡ false → IsKept catalogue kept name) → (b ≡ true → kept ≡ put) → IsKept catalogue kept (option_or name (cond b (Some model) None))
put_kept catalogue put kept found true model name is indexed empty rest new = rw (new refl, is, empty refl) indexed
put_kept catalogue put kept found false model name is indexed empty rest new = rw (or_nothing name) (rest refl)

pub at_put : {X : Type 0} (b : Bool) (put kept : X) (old : Option X) → cond b (Some put) old ≡ Some kept → (b ≡ true → kept ≡ put) × (b ≡ false → old ≡ Some kept)
at_put true put kept old e = (λ _. sym (same_Some put kept e), λ none. absurd (cc))
at_put false put kept old e = (λ same. absurd (cc), λ _. e)
