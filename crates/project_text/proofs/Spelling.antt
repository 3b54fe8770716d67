-- The words of a line are read as a statement just where they spell it.
use Rattle.std.proofs.Common.{◌≡◌, ℕ, ◌<◌, ◌≤◌, Bool, cond, eqb, ◌&&◌, bytes_eq, codes, List, [], ◌∷◌, length, map, true, false, arith, Option, Some, None, Result, Ok, Err, refl, sym, ap, ◌∙◌, subst, inl, inr}
use Rattle.std.proofs.lemmas.Bool.{cases_Bool, and_parts, eqb-true}
use Rattle.std.proofs.lemmas.Slice.Eq.{bytes_eq-Decides}
use Rattle.knx_model.specs.declared.address.GroupAddr.{GroupAddr}
use Rattle.knx_model.specs.declared.project.TextVersion.{TextVersion}
use Rattle.knx_model.specs.declared.project.TextVersion.TheVariants.{One, Two}
use Rattle.knx_model.specs.declared.project.What.{What}
use Rattle.knx_model.specs.declared.project.What.TheVariants.{Version, Title, Group, Device, Object, Link, Send, Flags, Param}
use Rattle.knx_model.specs.declared.refusal.Why.{Why}
use Rattle.knx_model.specs.declared.refusal.Why.TheVariants.{BadAddress, BadNumber, BadName, BadVersion}
use Rattle.knx_model.specs.Numbers.{number_value, is_name}
use Rattle.knx_model.specs.Addresses.{group_by, ind_value}
use Rattle.knx_model.specs.Flags.{flags_value}
use Rattle.knx_model.specs.Sizes.{size_value}
use Rattle.knx_model.specs.Answers.{◌>>=◌}
use Rattle.knx_model.specs.Statements.{placed, field, ended, object_value, name_value, most_groups, some_groups, version_says, title_says, ga_says, device_says, object_says, link_says, send_says, flags_says, param_says, some_what, words_say}
use Rattle.project_text.specs.Spelling.{SpellsStatement, VersionLine, TitleLine, GroupLine, DeviceLine, ObjectLine, LinkLine, SendLine, FlagsLine, ParamLine}
use Rattle.project_text.proofs.LinkGroups.{groups_spelled, groups_read}

-- ---- what is spelled is read

-- the groups of a line are read of the words that spell them
pub some_read : (version : TextVersion) (words : List (List ℕ)) (groups : List GroupAddr) → map (group_by version) words ≡ map Some groups → 0 < length groups → length groups ≤ most_groups version → some_groups version words ≡ Ok groups
some_read version [] [] e some few = absurd (omega arith)
some_read version [] (g ∷ groups) e some few = absurd cc
some_read version (w ∷ words) groups e some few = groups_read version (most_groups version) (w ∷ words) groups e few

pub spelled_is_read : (version : TextVersion) (is_first : Bool) (ws : List (List ℕ)) (what : What) → SpellsStatement version is_first ws what → words_say version is_first ws ≡ Ok (Some what)
unfolding words_say version_says title_says ga_says device_says object_says link_says send_says flags_says param_says
spelled_is_read version is_first _ _ (VersionLine number first e) = rw (e, first) refl
spelled_is_read version is_first _ _ (TitleLine name e) = rw e refl
spelled_is_read version is_first _ _ (GroupLine address name g a e) = rw (a, e) refl
spelled_is_read version is_first _ _ (DeviceLine address model d a e) = rw (a, e) refl
spelled_is_read version is_first _ _ (ObjectLine address number size flags d n code octet a e s f) = rw (a, e, s, f) refl
spelled_is_read version is_first _ _ (LinkLine address number words d n groups a e f some few) = rw (a, e, some_read version words groups f some few) refl
spelled_is_read One is_first _ _ (SendLine address number group d n g v a e f) = absurd cc
spelled_is_read Two is_first _ _ (SendLine address number group d n g v a e f) = rw (a, e, f) refl
spelled_is_read version is_first _ _ (FlagsLine address number flags d n octet a e f) = rw (a, e, f) refl
spelled_is_read version is_first _ _ (ParamLine address name value d n a e f) = rw (a, e, f) refl

-- ---- what is read is spelled

bound : {A B G : Type 0} (r : Result A Why) (f : A → Result B Why) (v : B) → (r >>= f) ≡ Ok v → ((x : A) → r ≡ Ok x → f x ≡ Ok v → G) → G
bound (Ok x) f v e then_ = then_ x refl e
bound (Err why) f v e then_ = absurd cc

in_place : {A : Type 0} (o : Option A) (why : Why) (ws : List (List ℕ)) (x : A × List (List ℕ)) → placed o why ws ≡ Ok x → (o ≡ Some x.0) × (ws ≡ x.1)
in_place None why ws x e = absurd cc
in_place {A = A} (Some y) why ws x e = let same : (y, ws) ≡ x = cc in (ap (λ (p : A × List (List ℕ)). Some p.0) same, ap (λ (p : A × List (List ℕ)). p.1) same)

-- a word in its place, before the words that are left
record Word {A : Type 0} (read : List ℕ → Option A) (ws : List (List ℕ)) (x : A × List (List ℕ)) : Type 0 where
  word : List ℕ
  first : ws ≡ word ∷ x.1
  value : read word ≡ Some x.0

word_of : {A : Type 0} (read : List ℕ → Option A) (why : Why) (ws : List (List ℕ)) (x : A × List (List ℕ)) → field read why ws ≡ Ok x → Word read ws x
word_of read why [] x e = absurd cc
word_of read why (w ∷ ws) x e = let h = in_place (read w) why ws x e in record { word = w; first = ap (λ (l : List (List ℕ)). w ∷ l) h.1; value = h.0 }

-- a name in its place: the word itself
record Name (ws : List (List ℕ)) (x : List ℕ × List (List ℕ)) : Type 0 where
  first : ws ≡ x.0 ∷ x.1
  value : name_value x.0 ≡ Some x.0

name_is : (word name : List ℕ) → name_value word ≡ Some name → word ≡ name
name_is word name e = elim (cases_Bool (is_name word)) [
  | inl q ↦ cc (rw q at e)
  | inr q ↦ absurd (cc (rw q at e))
]

name_of : (ws : List (List ℕ)) (x : List ℕ × List (List ℕ)) → field name_value BadName ws ≡ Ok x → Name ws x
name_of ws x e =
    let w = word_of name_value BadName ws x e in
    let same = name_is w.word x.0 w.value in
    record { first = w.first ∙ ap (λ (n : List ℕ). n ∷ x.1) same; value = ap (λ (n : List ℕ). name_value n) (sym same) ∙ w.value }

at_end : {A : Type 0} (x : A) (ws : List (List ℕ)) (v : A) → ended x ws ≡ Ok v → (ws ≡ []) × (x ≡ v)
at_end x [] v e = (refl, cc)
at_end x (w ∷ ws) v e = absurd cc

-- one word more stands before words that are known
before : (w : List ℕ) {ws known : List (List ℕ)} → ws ≡ known → w ∷ ws ≡ w ∷ known
before w e = ap (λ (l : List (List ℕ)). w ∷ l) e

spelled_as : {version : TextVersion} {is_first : Bool} (ws as_ : List (List ℕ)) (what same : What) → ws ≡ as_ → same ≡ what → SpellsStatement version is_first as_ same → SpellsStatement version is_first ws what
spelled_as {version = version} {is_first = is_first} ws as_ what same p q s = subst (λ (v : What). SpellsStatement version is_first ws v) q (subst (λ (l : List (List ℕ)). SpellsStatement version is_first l same) (sym p) s)

-- the groups of a line
groups_of : (version : TextVersion) (words : List (List ℕ)) (groups : List GroupAddr) → some_groups version words ≡ Ok groups → (map (group_by version) words ≡ map Some groups) × (0 < length groups) × (length groups ≤ most_groups version)
groups_of version [] groups e = absurd cc
groups_of version (w ∷ words) [] e = absurd (let h = groups_spelled version (most_groups version) (w ∷ words) [] e in let q = h.0 in cc)
groups_of version (w ∷ words) (g ∷ groups) e = let h = groups_spelled version (most_groups version) (w ∷ words) (g ∷ groups) e in (h.0, omega arith, h.1)

told_two : (is_first : Bool) (n : ℕ) (told v : What) → cond {A = Result What Why} (is_first && eqb n 2) (Ok told) (Err BadVersion) ≡ Ok v → (is_first ≡ true) × (n ≡ 2) × (told ≡ v)
told_two is_first n told v e = by (is_first && eqb n 2) refl e
  where
    by : (b : Bool) → (is_first && eqb n 2) ≡ b → cond {A = Result What Why} b (Ok told) (Err BadVersion) ≡ Ok v → (is_first ≡ true) × (n ≡ 2) × (told ≡ v)
    by true is e = let h = and_parts is_first (eqb n 2) is in (h.0, eqb-true n 2 h.1, cc)
    by false is e = absurd cc

of_title : (version : TextVersion) (is_first : Bool) (ws : List (List ℕ)) (v : What) → title_says ws ≡ Ok v → SpellsStatement version is_first (codes "project" ∷ ws) v
unfolding title_says
of_title version is_first ws v e = bound (field name_value BadName ws) _ v e (λ name at last.
    let w = name_of ws name at in
    let end = at_end (Title name.0) name.1 v last in
    spelled_as _ _ v (Title name.0) (before (codes "project") (w.first ∙ before name.0 end.0)) end.1 (TitleLine name.0 w.value))

of_group : (version : TextVersion) (is_first : Bool) (ws : List (List ℕ)) (v : What) → ga_says version ws ≡ Ok v → SpellsStatement version is_first (codes "ga" ∷ ws) v
unfolding ga_says
of_group version is_first ws v e = bound (field (group_by version) BadAddress ws) _ v e (λ g at rest. bound (field name_value BadName g.1) _ v rest (λ name here last.
    let a = word_of (group_by version) BadAddress ws g at in
    let w = name_of g.1 name here in
    let end = at_end (Group g.0 name.0) name.1 v last in
    spelled_as _ _ v (Group g.0 name.0) (before (codes "ga") (a.first ∙ before a.word (w.first ∙ before name.0 end.0))) end.1 (GroupLine a.word name.0 g.0 a.value w.value)))

of_device : (version : TextVersion) (is_first : Bool) (ws : List (List ℕ)) (v : What) → device_says ws ≡ Ok v → SpellsStatement version is_first (codes "device" ∷ ws) v
unfolding device_says
of_device version is_first ws v e = bound (field ind_value BadAddress ws) _ v e (λ d at rest. bound (field name_value BadName d.1) _ v rest (λ model here last.
    let a = word_of ind_value BadAddress ws d at in
    let w = name_of d.1 model here in
    let end = at_end (Device d.0 model.0) model.1 v last in
    spelled_as _ _ v (Device d.0 model.0) (before (codes "device") (a.first ∙ before a.word (w.first ∙ before model.0 end.0))) end.1 (DeviceLine a.word model.0 d.0 a.value w.value)))

of_object : (version : TextVersion) (is_first : Bool) (ws : List (List ℕ)) (v : What) → object_says ws ≡ Ok v → SpellsStatement version is_first (codes "object" ∷ ws) v
unfolding object_says
of_object version is_first ws v e =
    bound (field ind_value BadAddress ws) _ v e (λ d at rest. bound (field object_value BadNumber d.1) _ v rest (λ n here more.
    bound (field size_value BadNumber n.1) _ v more (λ size there most. bound (field flags_value BadName size.1) _ v most (λ flags then_ last.
    let a = word_of ind_value BadAddress ws d at in
    let w = word_of object_value BadNumber d.1 n here in
    let s = word_of size_value BadNumber n.1 size there in
    let f = word_of flags_value BadName size.1 flags then_ in
    let end = at_end (Object d.0 n.0 size.0 flags.0) flags.1 v last in
    spelled_as _ _ v (Object d.0 n.0 size.0 flags.0)
    (before (codes "object") (a.first ∙ before a.word (w.first ∙ before w.word (s.first ∙ before s.word (f.first ∙ before f.word end.0))))) end.1
    (ObjectLine a.word w.word s.word f.word d.0 n.0 size.0 flags.0 a.value w.value s.value f.value)))))

of_link : (version : TextVersion) (is_first : Bool) (ws : List (List ℕ)) (v : What) → link_says version ws ≡ Ok v → SpellsStatement version is_first (codes "link" ∷ ws) v
unfolding link_says
of_link version is_first ws v e =
    bound (field ind_value BadAddress ws) _ v e (λ d at rest. bound (field object_value BadNumber d.1) _ v rest (λ n here more. bound (some_groups version n.1) _ v more (λ groups there last.
    let a = word_of ind_value BadAddress ws d at in
    let w = word_of object_value BadNumber d.1 n here in
    let u = groups_of version n.1 groups there in
    let end : Link d.0 n.0 groups ≡ v = cc in
    spelled_as _ _ v (Link d.0 n.0 groups) (before (codes "link") (a.first ∙ before a.word w.first)) end
    (LinkLine a.word w.word n.1 d.0 n.0 groups a.value w.value u.0 u.1 u.2))))

of_send : (version : TextVersion) (is_first : Bool) (ws : List (List ℕ)) (v : What) → send_says version ws ≡ Ok v → SpellsStatement version is_first (codes "send" ∷ ws) v
unfolding send_says
of_send One is_first ws v e = absurd cc
of_send Two is_first ws v e =
    bound (field ind_value BadAddress ws) _ v e (λ d at rest. bound (field object_value BadNumber d.1) _ v rest (λ n here more. bound (field (group_by Two) BadAddress n.1) _ v more (λ g there last.
    let a = word_of ind_value BadAddress ws d at in
    let w = word_of object_value BadNumber d.1 n here in
    let u = word_of (group_by Two) BadAddress n.1 g there in
    let end = at_end (Send d.0 n.0 g.0) g.1 v last in
    spelled_as _ _ v (Send d.0 n.0 g.0) (before (codes "send") (a.first ∙ before a.word (w.first ∙ before w.word (u.first ∙ before u.word end.0)))) end.1
    (SendLine a.word w.word u.word d.0 n.0 g.0 refl a.value w.value u.value))))

of_version : (version : TextVersion) (is_first : Bool) (ws : List (List ℕ)) (v : What) → version_says is_first ws ≡ Ok v → SpellsStatement version is_first (codes "version" ∷ ws) v
unfolding version_says
of_version version is_first ws v e =
    bound (field number_value BadNumber ws) _ v e (λ number at rest. bound (ended Version number.1) _ v rest (λ told here last.
    let w = word_of number_value BadNumber ws number at in
    let end = at_end Version number.1 told here in
    let two = told_two is_first number.0 told v last in
    spelled_as _ _ v Version (before (codes "version") (w.first ∙ before w.word end.0)) (end.1 ∙ two.2) (VersionLine w.word two.0 (w.value ∙ ap Some two.1))))

of_flags : (version : TextVersion) (is_first : Bool) (ws : List (List ℕ)) (v : What) → flags_says ws ≡ Ok v → SpellsStatement version is_first (codes "flags" ∷ ws) v
unfolding flags_says
of_flags version is_first ws v e =
    bound (field ind_value BadAddress ws) _ v e (λ d at rest. bound (field object_value BadNumber d.1) _ v rest (λ n here more. bound (field flags_value BadName n.1) _ v more (λ f there last.
    let a = word_of ind_value BadAddress ws d at in
    let w = word_of object_value BadNumber d.1 n here in
    let u = word_of flags_value BadName n.1 f there in
    let end = at_end (Flags d.0 n.0 f.0) f.1 v last in
    spelled_as _ _ v (Flags d.0 n.0 f.0) (before (codes "flags") (a.first ∙ before a.word (w.first ∙ before w.word (u.first ∙ before u.word end.0)))) end.1
    (FlagsLine a.word w.word u.word d.0 n.0 f.0 a.value w.value u.value))))

of_param : (version : TextVersion) (is_first : Bool) (ws : List (List ℕ)) (v : What) → param_says ws ≡ Ok v → SpellsStatement version is_first (codes "param" ∷ ws) v
unfolding param_says
of_param version is_first ws v e =
    bound (field ind_value BadAddress ws) _ v e (λ d at rest. bound (field name_value BadName d.1) _ v rest (λ name here more. bound (field number_value BadNumber name.1) _ v more (λ n there last.
    let a = word_of ind_value BadAddress ws d at in
    let w = name_of d.1 name here in
    let u = word_of number_value BadNumber name.1 n there in
    let end = at_end (Param d.0 name.0 n.0) n.1 v last in
    spelled_as _ _ v (Param d.0 name.0 n.0) (before (codes "param") (a.first ∙ before a.word (w.first ∙ before name.0 (u.first ∙ before u.word end.0)))) end.1
    (ParamLine a.word name.0 u.word d.0 n.0 a.value w.value u.value))))

chosen : {A G : Type 0} (b : Bool) (P : Type 0) (x y : Result A Why) (v : A) → (b ≡ true → P) → cond b x y ≡ Ok v → (P → x ≡ Ok v → G) → (y ≡ Ok v → G) → G
chosen true P x y v means e this other = this (means refl) e
chosen false P x y v means e this other = other e

said : (r : Result What Why) (v : What) → some_what r ≡ Ok (Some v) → r ≡ Ok v
said (Ok x) v e = cc
said (Err why) v e = absurd cc

-- the statement whose word is k, or another one
choose : {version : TextVersion} {is_first : Bool} (w k : List ℕ) (ws : List (List ℕ)) (r : Result What Why) (y : Result (Option What) Why) (v : What) → cond (bytes_eq w k) (some_what r) y ≡ Ok (Some v)
    → (r ≡ Ok v → SpellsStatement version is_first (k ∷ ws) v) → (y ≡ Ok (Some v) → SpellsStatement version is_first (w ∷ ws) v) → SpellsStatement version is_first (w ∷ ws) v
choose {version = version} {is_first = is_first} w k ws r y v e this other =
    chosen (bytes_eq w k) (w ≡ k) (some_what r) y (Some v) ((bytes_eq-Decides w k).0) e
    (λ is here. subst (λ (x : List ℕ). SpellsStatement version is_first (x ∷ ws) v) (sym is) (this (said r v here))) other

pub read_is_spelled : (version : TextVersion) (is_first : Bool) (ws : List (List ℕ)) (what : What) → words_say version is_first ws ≡ Ok (Some what) → SpellsStatement version is_first ws what
unfolding words_say
read_is_spelled version is_first [] what e = absurd cc
read_is_spelled version is_first (w ∷ ws) what e =
    choose w (codes "project") ws (title_says ws) _ what e (of_title version is_first ws what) (λ e.
    choose w (codes "ga") ws (ga_says version ws) _ what e (of_group version is_first ws what) (λ e.
    choose w (codes "device") ws (device_says ws) _ what e (of_device version is_first ws what) (λ e.
    choose w (codes "object") ws (object_says ws) _ what e (of_object version is_first ws what) (λ e.
    choose w (codes "link") ws (link_says version ws) _ what e (of_link version is_first ws what) (λ e.
    choose w (codes "flags") ws (flags_says ws) _ what e (of_flags version is_first ws what) (λ e.
    choose w (codes "param") ws (param_says ws) _ what e (of_param version is_first ws what) (λ e.
    choose w (codes "send") ws (send_says version ws) _ what e (of_send version is_first ws what) (λ e.
    choose w (codes "version") ws (version_says is_first ws) _ what e (of_version version is_first ws what) (λ e. absurd cc)))))))))
