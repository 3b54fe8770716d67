-- A migrated project means for each device what the project means.
use Rattle.std.proofs.Common.{◌≡◌, ℕ, ◌+◌, ◌*◌, ◌%◌, ◌<◌, Bool, true, false, cond, ◌&&◌, eqb, ltb, List, [], ◌∷◌, ◌++◌, map, All, Option, Some, None, refl, ap, ◌∙◌, subst, arith}
use Rattle.std.specs.Prelude.{unwrap_or}
use Rattle.std.specs.List.{last_or, list_all}
use Rattle.std.proofs.lemmas.Bool.{and_parts, eqb-true, eq-eqb, ltb-true}
use Rattle.std.proofs.lemmas.List.Elements.{All-nil, All-cons, All-head, All-tail, All-append}
use Rattle.knx_model.specs.declared.address.GroupAddr.{GroupAddr}
use Rattle.knx_model.specs.declared.address.IndAddr.{IndAddr}
use Rattle.knx_model.specs.declared.catalogue.model.Model.{Model}
use Rattle.knx_model.specs.declared.catalogue.model.NamedModel.{NamedModel}
use Rattle.knx_model.specs.declared.config.Config.{Config}
use Rattle.knx_model.specs.declared.config.LinkSpec.{LinkSpec}
use Rattle.knx_model.specs.declared.config.ObjSpec.{ObjSpec}
use Rattle.knx_model.specs.declared.config.ParamValue.{ParamValue}
use Rattle.knx_model.specs.declared.project.Statement.{Statement}
use Rattle.knx_model.specs.declared.project.TextVersion.{TextVersion}
use Rattle.knx_model.specs.declared.project.What.{What}
use Rattle.knx_model.specs.declared.project.What.TheVariants.{Version, Title, Group, Device, Object, Link, Send, Flags, Param}
use Rattle.knx_model.specs.Meaning.{Installation, link_to, links_said, link_lines, last_send, first_group, is_the_group, link_of, links_of, model_object, object_line, declared_objects, flags_line, flagged, flagged_objects, objects_of, param_line, param_value, params_of, or_inline, the_model, meaning}
use Rattle.knx_model.specs.Rules.{model_in, named_model, model_of}
use Rattle.knx_model.specs.Statements.{is_spellable, are_spelled, is_device, is_object, is_group, are_groups}
use Rattle.project_text.specs.Migrated.{migrated}
use Rattle.project_text.proofs.KeptLines.{IsSilent, migrated_say, migrated_first, migrated_links}
use Rattle.project_text.proofs.SendLines.{sending_stays}

-- ---- what is linked can be spelled

pub record IsLinked (device : IndAddr) (line : ℕ × GroupAddr) : Type 0 where
  pub device_is : is_device device ≡ true
  pub object_is : is_object line.0 ≡ true
  pub group_is : is_group line.1 ≡ true

said_true : (device of : IndAddr) (n : ℕ) (groups : List GroupAddr) → of.raw ≡ device.raw → is_device of ≡ true → is_object n ≡ true → list_all is_group groups ≡ true → All (IsLinked device) (map (link_to n) groups)
said_true device of n [] same d o g = All-nil (IsLinked device)
said_true device of n (x ∷ groups) same d o g =
    let h = and_parts (is_group x) (list_all is_group groups) g in
    let there : of ≡ device = ap (λ (r : ℕ). let i : IndAddr = record { raw = r } in i) same in
    All-cons (IsLinked device) (link_to n x) (map (link_to n) groups) (record { device_is = subst (λ (i : IndAddr). is_device i ≡ true) there d; object_is = o; group_is = h.0 }) (said_true device of n groups same d o h.1)

said_linked : (version : TextVersion) (device : IndAddr) (w : What) → is_spellable version w ≡ true → All (IsLinked device) (links_said device w)
said_linked version device Version e = All-nil (IsLinked device)
said_linked version device (Title name) e = All-nil (IsLinked device)
said_linked version device (Group group name) e = All-nil (IsLinked device)
said_linked version device (Device of model) e = All-nil (IsLinked device)
said_linked version device (Object of n size flags) e = All-nil (IsLinked device)
said_linked version device (Link of n groups) e = by (eqb of.raw device.raw) refl
  where
    by : (b : Bool) → eqb of.raw device.raw ≡ b → All (IsLinked device) (cond b (map (link_to n) groups) [])
    by false q = All-nil (IsLinked device)
    by true q =
        let h = and_parts (is_device of && is_object n) (are_groups version groups) e in
        let k = and_parts (is_device of) (is_object n) h.0 in
        let g = and_parts _ (list_all is_group groups) h.1 in
        said_true device of n groups (eqb-true of.raw device.raw q) k.0 k.1 g.1
said_linked version device (Send of n group) e = All-nil (IsLinked device)
said_linked version device (Flags of n flags) e = All-nil (IsLinked device)
said_linked version device (Param of name value) e = All-nil (IsLinked device)

pub lines_linked : (version : TextVersion) (device : IndAddr) (ss : List Statement) → are_spelled version ss ≡ true → All (IsLinked device) (link_lines device ss)
lines_linked version device [] e = All-nil (IsLinked device)
lines_linked version device (s ∷ ss) e =
    let h = and_parts (is_spellable version s.what) (are_spelled version ss) e in
    All-append (IsLinked device) (links_said device s.what) (link_lines device ss) (said_linked version device s.what h.0) (lines_linked version device ss h.1)

pub object_below : (n : ℕ) → is_object n ≡ true → n < 256
object_below n e = ltb-true n 256 (and_parts (ltb 0 n) (ltb n 256) e).1

pub place_below : (device : IndAddr) (n : ℕ) → is_device device ≡ true → is_object n ≡ true → device.raw * 256 + n < 16777216
place_below device n d o =
    let h = and_parts (ltb device.raw 65536 && ltb 0 (device.raw % 256)) (ltb (device.raw % 256) 255) d in
    let k = and_parts (ltb device.raw 65536) (ltb 0 (device.raw % 256)) h.0 in
    let fits : device.raw < 65536 = ltb-true device.raw 65536 k.0 in
    let small : n < 256 = object_below n o in
    omega (arith, fits, small)

-- ---- the links

some_or_none : (o : Option GroupAddr) → (o ≡ None → ⊥) → (g : GroupAddr) × (o ≡ Some g)
some_or_none None never = absurd (never refl)
some_or_none (Some g) never = (g, refl)

its_group : (line : ℕ × GroupAddr) (rest : List (ℕ × GroupAddr)) → first_group (line ∷ rest) line.0 ≡ None → ⊥
its_group line rest e = let same : eqb line.0 line.0 ≡ true = eq-eqb line.0 line.0 refl in let h : Some line.1 ≡ None = rw same at e in cc

later_group : (line : ℕ × GroupAddr) (rest : List (ℕ × GroupAddr)) (n : ℕ) → first_group (line ∷ rest) n ≡ None → first_group rest n ≡ None
later_group line rest n e = by (eqb line.0 n) e
  where
    by : (b : Bool) → cond b (Some line.1) (first_group rest n) ≡ None → first_group rest n ≡ None
    by true q = absurd cc
    by false q = q

links_stay : (device : IndAddr) (ss : List Statement) (rest : List (ℕ × GroupAddr)) → ((n : ℕ) → first_group (link_lines device ss) n ≡ None → first_group rest n ≡ None) → All (IsLinked device) rest
    → map (link_of (last_send device (migrated ss)) (link_lines device ss)) rest ≡ map (link_of (last_send device ss) (link_lines device ss)) rest
links_stay device ss [] among linked = refl
links_stay device ss (line ∷ rest) among linked =
    let first = some_or_none (first_group (link_lines device ss) line.0) (λ none. its_group line rest (among line.0 none)) in
    let is = All-head (IsLinked device) line rest linked in
    let stays = sending_stays device line.0 ss first.0 (object_below line.0 is.object_is) (place_below device line.0 is.device_is is.object_is) first.1 in
    let head : link_of (last_send device (migrated ss)) (link_lines device ss) line ≡ link_of (last_send device ss) (link_lines device ss) line
    = ap (λ (o : Option GroupAddr). let l : LinkSpec = record { object = line.0; group = line.1; sending = is_the_group o line.1 } in l) stays in
    ap (λ (l : LinkSpec). l ∷ map (link_of (last_send device (migrated ss)) (link_lines device ss)) rest) head
    ∙ ap (λ (ls : List LinkSpec). link_of (last_send device ss) (link_lines device ss) line ∷ ls) (links_stay device ss rest (λ n none. later_group line rest n (among n none)) (All-tail (IsLinked device) line rest linked))

same_links : (version : TextVersion) (device : IndAddr) (ss : List Statement) → are_spelled version ss ≡ true → links_of (last_send device (migrated ss)) (link_lines device (migrated ss)) ≡ links_of (last_send device ss) (link_lines device ss)
unfolding links_of
same_links version device ss e =
    ap (λ (lines : List (ℕ × GroupAddr)). map (link_of (last_send device (migrated ss)) lines) lines) (migrated_links device ss)
    ∙ links_stay device ss (link_lines device ss) (λ n none. none) (lines_linked version device ss e)

-- ---- the model, the objects and the parameters

model_silent : (d : ℕ) → IsSilent (model_in d)
model_silent d = record { version = refl; link = λ device n groups. refl; send = λ device n group. refl }

object_silent : (device : IndAddr) → IsSilent (object_line device)
object_silent device = record { version = refl; link = λ of n groups. refl; send = λ of n group. refl }

flags_silent : (device : IndAddr) (n : ℕ) → IsSilent (flags_line device n)
flags_silent device n = record { version = refl; link = λ of o groups. refl; send = λ of o group. refl }

param_silent : (device : IndAddr) (name : List ℕ) → IsSilent (param_line device name)
param_silent device name = record { version = refl; link = λ of o groups. refl; send = λ of o group. refl }

map_same : {A B : Type 0} (f g : A → B) (xs : List A) → ((x : A) → f x ≡ g x) → map f xs ≡ map g xs
map_same f g [] same = refl
map_same {B = B} f g (x ∷ xs) same = ap (λ (y : B). y ∷ map f xs) (same x) ∙ ap (λ (ys : List B). g x ∷ ys) (map_same f g xs same)

same_flagged : (m : Model) (device : IndAddr) (ss : List Statement) → flagged_objects m device (migrated ss) ≡ flagged_objects m device ss
same_flagged m device ss =
    ap (λ (lines : List (ℕ × ObjSpec)). map (flagged device (migrated ss)) (map model_object m.objects ++ lines)) (migrated_say (object_line device) (object_silent device) ss)
    ∙ map_same (flagged device (migrated ss)) (flagged device ss) (declared_objects m device ss) (λ o.
    ap (λ (flags : List ℕ). let p : ℕ × ObjSpec = (o.0, record { flags = unwrap_or (last_or None flags) o.1.flags; size = o.1.size }) in p) (migrated_say (flags_line device o.0) (flags_silent device o.0) ss))

same_params : (m : Model) (device : IndAddr) (ss : List Statement) → params_of m device (migrated ss) ≡ params_of m device ss
unfolding params_of
same_params m device ss = map_same (param_value device (migrated ss)) (param_value device ss) m.parameters (λ f.
    ap (λ (values : List ℕ). let p : ParamValue = record { bit = f.bit; width = f.width; value = unwrap_or (last_or None values) f.default } in p) (migrated_say (param_line device f.name) (param_silent device f.name) ss))

same_model : (catalogue : List NamedModel) (d : ℕ) (ss : List Statement) → model_of catalogue (migrated ss) d ≡ model_of catalogue ss d
same_model catalogue d ss = ap (named_model catalogue) (migrated_first (model_in d) (model_silent d) ss)

abbrev in_installation : List NamedModel → List Statement → Installation
in_installation catalogue ss = record { statements = ss; catalogue = catalogue }

abbrev config : List LinkSpec → List (ℕ × ObjSpec) → ℕ → List ParamValue → Config
config links objects len params = record { links = links; objects = objects_of objects; param_len = len; params = params }

-- a project of statements that can be spelled
pub same_meaning : (version : TextVersion) (catalogue : List NamedModel) (device : IndAddr) (ss : List Statement) → are_spelled version ss ≡ true
    → meaning (record { statements = migrated ss; catalogue = catalogue }) device ≡ meaning (record { statements = ss; catalogue = catalogue }) device
same_meaning version catalogue device ss e =
    let old : Model = the_model (in_installation catalogue ss) device in
    let new : Model = the_model (in_installation catalogue (migrated ss)) device in
    let model : new ≡ old = ap or_inline (same_model catalogue device.raw ss) in
    ap (λ (links : List LinkSpec). config links (flagged_objects new device (migrated ss)) new.params (params_of new device (migrated ss))) (same_links version device ss e)
    ∙ ap (λ (m : Model). config (links_of (last_send device ss) (link_lines device ss)) (flagged_objects m device (migrated ss)) m.params (params_of m device (migrated ss))) model
    ∙ ap (λ (objects : List (ℕ × ObjSpec)). config (links_of (last_send device ss) (link_lines device ss)) objects old.params (params_of old device (migrated ss))) (same_flagged old device ss)
    ∙ ap (λ (params : List ParamValue). config (links_of (last_send device ss) (link_lines device ss)) (flagged_objects old device ss) old.params params) (same_params old device ss)
