-- One statement more.
use Rattle.std.proofs.Common.{◌≡◌, ℕ, ◌+◌, Bool, true, false, cond, eqb, ◌||◌, List, [], ◌∷◌, ◌++◌, length, Option, Some, None, refl, sym, ap, ◌∙◌, subst, arith}
use Rattle.std.specs.Prelude.{is_some}
use Rattle.std.specs.Option.{option_or}
use Rattle.std.specs.HashSet.{contains}
use Rattle.std.specs.HashMap.{get}
use Rattle.std.proofs.lemmas.Bool.{or_left, or_right}
use Rattle.std.proofs.lemmas.Option.{cond_some}
use Rattle.std.proofs.lemmas.Slice.Eq.{bytes_eq-Decides}
use Rattle.std.proofs.lemmas.List.Folds.{list_any-append}
use Rattle.std.proofs.lemmas.List.Sums.{sum_by-append}
use Rattle.knx_model.specs.declared.catalogue.model.NamedModel.{NamedModel}
use Rattle.knx_model.specs.declared.project.Statement.{Statement}
use Rattle.knx_model.specs.declared.project.What.{What}
use Rattle.knx_model.specs.declared.project.What.TheVariants.{Version, Title, Group, Device, Object, Link, Send, Flags, Param}
use Rattle.knx_model.specs.Rules.{some_line, count_lines, first_some, declares_group, declares_device, declares_object, count_links, links_of_device, is_device_line, size_in, model_in}
use Rattle.project_check.specs.Keys.{object_eq, names_model}
use Rattle.project_check.specs.Knowing.{Holds, IsKept, KeepsModels, Declares, Precedes, capped, counted, with_links}
use Rattle.project_check.specs.declared.group_object.GroupObject.{GroupObject}
use Rattle.project_check.specs.declared.declared.Declared.{Declared}
use Rattle.project_check.specs.declared.earlier.Earlier.{Earlier}

or_false : (a b : Bool) → (a || (b || false)) ≡ (a || b)
or_false a true = refl
or_false a false = refl

-- a test of one line more
pub some_more : (test : What → Bool) (ss : List Statement) (s : Statement) → some_line test (ss ++ s ∷ []) ≡ (some_line test ss || test s.what)
some_more test ss s = list_any-append (λ x. test x.what) ss (s ∷ []) ∙ or_false (some_line test ss) (test s.what)

or_none : {X : Type 0} (f : What → Option X) (s : Statement) → first_some f (s ∷ []) ≡ f s.what
or_none {X = X} f s = elim (f s.what) as (λ r. elim r as (λ _. Option X) [ None ↦ None | Some x ↦ Some x ] ≡ r) [ None ↦ refl | Some x ↦ refl ]

-- the first of one line more
pub first_more : {X : Type 0} (f : What → Option X) (ss : List Statement) (s : Statement) → first_some f (ss ++ s ∷ []) ≡ option_or (first_some f ss) (f s.what)
first_more f [] s = or_none f s
first_more {X = X} f (t ∷ ss) s = elim (f t.what) as (λ r. elim r as (λ _. Option X) [ None ↦ first_some f (ss ++ s ∷ []) | Some x ↦ Some x ] ≡ option_or (elim r as (λ _. Option X) [ None ↦ first_some f ss | Some x ↦ Some x ]) (f s.what)) [ None ↦ first_more f ss s | Some x ↦ refl ]

one_more : (b : Bool) (n : ℕ) → n + (0 + cond b 1 0) ≡ cond b (n + 1) n
one_more true n = omega arith
one_more false n = omega arith

-- a count of one line more
pub count_more : (test : What → Bool) (ss : List Statement) (s : Statement) → count_lines test (ss ++ s ∷ []) ≡ cond (test s.what) (count_lines test ss + 1) (count_lines test ss)
count_more test ss s = sum_by-append (λ x. cond (test x.what) 1 0) ss (s ∷ []) ∙ one_more (test s.what) (count_lines test ss)

first_or : {X : Type 0} (r first : Option X) (b any : Bool) → is_some r ≡ b → is_some first ≡ any → is_some (elim r as (λ _. Option X) [ None ↦ first | Some x ↦ Some x ]) ≡ (b || any)
first_or None first b any p q = rw (← p, ← q) refl
first_or (Some x) first b any p q = rw (← p) refl

-- there is a first where some line passes
any_some : {X : Type 0} (f : What → Option X) (test : What → Bool) → ((w : What) → is_some (f w) ≡ test w) → (ss : List Statement) → is_some (first_some f ss) ≡ some_line test ss
any_some f test same [] = refl
any_some f test same (s ∷ ss) = first_or (f s.what) (first_some f ss) (test s.what) (some_line test ss) (same s.what) (any_some f test same ss)

some_if : {X : Type 0} (b : Bool) (x : X) → is_some (cond b (Some x) None) ≡ b
some_if true x = refl
some_if false x = refl

size_or_none : (d n : ℕ) (w : What) → is_some (size_in d n w) ≡ declares_object d n w
size_or_none d n (Title name) = refl
size_or_none d n (Group group name) = refl
size_or_none d n (Device device model) = refl
size_or_none d n (Object device number size flags) = some_if (declares_object d n (Object device number size flags)) size
size_or_none d n (Link device object groups) = refl
size_or_none d n Version = refl
size_or_none d n (Send device object group) = refl
size_or_none d n (Flags device object flags) = refl
size_or_none d n (Param device name value) = refl

-- an object stands in a line just where the lines have a size of it
pub sized : (d n : ℕ) (ss : List Statement) → is_some (first_some (size_in d n) ss) ≡ some_line (declares_object d n) ss
sized d n ss = any_some (size_in d n) (declares_object d n) (size_or_none d n) ss

model_or_none : (d : ℕ) (w : What) → is_some (model_in d w) ≡ declares_device d w
model_or_none d (Title name) = refl
model_or_none d (Group group name) = refl
model_or_none d (Device device model) = some_if (declares_device d (Device device model)) model
model_or_none d (Object device number size flags) = refl
model_or_none d (Link device object groups) = refl
model_or_none d Version = refl
model_or_none d (Send device object group) = refl
model_or_none d (Flags device object flags) = refl
model_or_none d (Param device name value) = refl

-- a device stands in a `device` line just where the lines have a model of it
pub modelled : (d : ℕ) (ss : List Statement) → is_some (first_some (model_in d) ss) ≡ some_line (declares_device d) ss
modelled d ss = any_some (model_in d) (declares_device d) (model_or_none d) ss

named_by : (d : ℕ) (name : List ℕ) (w : What) → model_in d w ≡ Some name → names_model name w ≡ true
named_by d name (Title title) e = absurd (cc)
named_by d name (Group group title) e = absurd (cc)
named_by d name (Device device model) e =
    let is : model ≡ name = (cond_some (eqb device.raw d) model name e).1 in
    (bytes_eq-Decides model name).1 is
named_by d name (Object device number size flags) e = absurd (cc)
named_by d name (Link device object groups) e = absurd (cc)
named_by d name Version e = absurd (cc)
named_by d name (Send device object group) e = absurd (cc)
named_by d name (Flags device object flags) e = absurd (cc)
named_by d name (Param device title value) e = absurd (cc)

here_or_later : (d : ℕ) (name : List ℕ) (s : Statement) (ss : List Statement) (r : Option (List ℕ)) → model_in d s.what ≡ r → (first_some (model_in d) ss ≡ Some name → some_line (names_model name) ss ≡ true)
    → elim r as (λ _. Option (List ℕ)) [ None ↦ first_some (model_in d) ss | Some x ↦ Some x ] ≡ Some name → some_line (names_model name) (s ∷ ss) ≡ true
here_or_later d name s ss None is later e = or_right (names_model name s.what) (some_line (names_model name) ss) (later e)
here_or_later d name s ss (Some x) is later e = or_left (names_model name s.what) (some_line (names_model name) ss) (named_by d name s.what (is ∙ e))

-- the model of a device is named in a line
pub named_in : (d : ℕ) (name : List ℕ) (ss : List Statement) → first_some (model_in d) ss ≡ Some name → some_line (names_model name) ss ≡ true
named_in d name [] e = absurd (cc)
named_in d name (s ∷ ss) e = here_or_later d name s ss (model_in d s.what) refl (named_in d name ss) e

-- a test that is kept of one line more
pub marked_more : (test : ℕ → What → Bool) (table : List Bool) (ss : List Statement) (s : Statement) → Holds table (λ a. some_line (test a) ss || test a s.what) → Holds table (λ a. some_line (test a) (ss ++ s ∷ []))
marked_more test table ss s held a value is = held a value is ∙ sym (some_more (test a) ss s)

pub declares_more : (catalogue : List NamedModel) (d e : Declared) (ss : List Statement) (s : Statement)
    → ((f : ℕ → Bool) → Holds d.groups f → Holds e.groups (λ g. f g || declares_group g s.what))
    → ((names : ℕ → Option (List ℕ)) → KeepsModels catalogue d.devices names → KeepsModels catalogue e.devices (λ a. option_or (names a) (model_in a s.what)))
    → ((o : GroupObject) → get object_eq e.sizes o ≡ option_or (get object_eq d.sizes o) (size_in o.device o.number s.what))
    → Declares catalogue d ss → Declares catalogue e (ss ++ s ∷ [])
declares_more catalogue d e ss s groups devices sizes before = record {
  groups = marked_more declares_group e.groups ss s (groups (λ g. some_line (declares_group g) ss) before.groups);
  devices = λ a kept is. subst (IsKept catalogue kept) (sym (first_more (model_in a) ss s)) (devices (λ b. first_some (model_in b) ss) before.devices a kept is);
  sizes = λ o. sizes o ∙ ap (λ r. option_or r (size_in o.device o.number s.what)) (before.sizes o) ∙ sym (first_more (size_in o.device o.number) ss s);
}

capped_more : (b : Bool) (n : ℕ) → counted b (capped n) ≡ capped (cond b (n + 1) n)
capped_more true n = omega arith
capped_more false n = refl

counted_more : (test : What → Bool) (ss : List Statement) (s : Statement) (old new : ℕ) → new ≡ counted (test s.what) old → old ≡ capped (count_lines test ss) → new ≡ capped (count_lines test (ss ++ s ∷ []))
counted_more test ss s old new e before = e ∙ ap (counted (test s.what)) before ∙ capped_more (test s.what) (count_lines test ss) ∙ ap capped (sym (count_more test ss s))

-- the links of a device in one line more
pub links_more : (d : ℕ) (ss : List Statement) (s : Statement) → count_links d (ss ++ s ∷ []) ≡ count_links d ss + links_of_device d s.what
links_more d ss s = sum_by-append (λ x. links_of_device d x.what) ss (s ∷ []) ∙ omega arith

capped_if : (b : Bool) (n k : ℕ) → cond b (capped (capped n + k)) (capped n) ≡ capped (n + cond b k 0)
capped_if true n k = omega arith
capped_if false n k = omega arith

nothing_more : (n : ℕ) → capped n ≡ capped (n + 0)
nothing_more n = omega arith

-- a count that stopped before goes on as one that didn't
capped_links : (d : ℕ) (what : What) (n : ℕ) → with_links d what (capped n) ≡ capped (n + links_of_device d what)
capped_links d (Link device object groups) n = capped_if (eqb device.raw d) n (length groups)
capped_links d Version n = nothing_more n
capped_links d (Title name) n = nothing_more n
capped_links d (Group group name) n = nothing_more n
capped_links d (Device device model) n = nothing_more n
capped_links d (Object device k size flags) n = nothing_more n
capped_links d (Send device object group) n = nothing_more n
capped_links d (Flags device object flags) n = nothing_more n
capped_links d (Param device name value) n = nothing_more n

pub precedes_more : (d e : Earlier) (ss : List Statement) (s : Statement)
    → ((f : ℕ → Bool) → Holds d.groups f → Holds e.groups (λ g. f g || declares_group g s.what))
    → ((f : ℕ → Bool) → Holds d.devices f → Holds e.devices (λ a. f a || declares_device a s.what))
    → ((o : GroupObject) → contains object_eq e.objects o ≡ (contains object_eq d.objects o || declares_object o.device o.number s.what))
    → e.device_lines ≡ counted (is_device_line s.what) d.device_lines
    → ((f : ℕ → ℕ) → Holds d.links f → Holds e.links (λ a. with_links a s.what (f a)))
    → Precedes d ss → Precedes e (ss ++ s ∷ [])
precedes_more d e ss s groups devices objects device_lines links before = record {
  groups = marked_more declares_group e.groups ss s (groups (λ g. some_line (declares_group g) ss) before.groups);
  devices = marked_more declares_device e.devices ss s (devices (λ a. some_line (declares_device a) ss) before.devices);
  objects = λ o. objects o ∙ ap (λ b. b || declares_object o.device o.number s.what) (before.objects o) ∙ sym (some_more (declares_object o.device o.number) ss s);
  device_lines = counted_more is_device_line ss s d.device_lines e.device_lines device_lines before.device_lines;
  links = λ a count is. links (λ b. capped (count_links b ss)) before.links a count is ∙ capped_links a s.what (count_links a ss) ∙ ap capped (sym (links_more a ss s));
}
