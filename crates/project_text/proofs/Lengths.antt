-- The words of a statement with a word more, and the first ones of them.
use Rattle.std.proofs.Common.{◌≡◌, ℕ, zero, suc, ◌<◌, Bool, true, List, [], ◌∷◌, ◌++◌, length, map, take, Some, Err, refl, sym, ap, ◌∙◌, arith}
use Rattle.std.proofs.lemmas.Bool.{eqb-true}
use Rattle.knx_model.specs.declared.address.GroupAddr.{GroupAddr}
use Rattle.knx_model.specs.declared.project.TextVersion.{TextVersion}
use Rattle.knx_model.specs.declared.project.TextVersion.TheVariants.{One, Two}
use Rattle.knx_model.specs.declared.project.What.{What}
use Rattle.knx_model.specs.Addresses.{group_by}
use Rattle.knx_model.specs.declared.refusal.Why.TheVariants.{MissingWord, ExtraWord}
use Rattle.knx_model.specs.Statements.{most_groups, up_to_groups, some_groups, version_says, title_says, ga_says, device_says, object_says, link_says, send_says, flags_says, param_says, words_say}
use Rattle.project_text.specs.Spelling.{SpellsStatement, VersionLine, TitleLine, GroupLine, DeviceLine, ObjectLine, LinkLine, SendLine, FlagsLine, ParamLine, is_full, needed}
use Rattle.project_text.proofs.LinkGroups.{groups_longer}

-- a group too many
longer_groups : (version : TextVersion) (words more : List (List ℕ)) (word : List ℕ) (groups : List GroupAddr) → map (group_by version) words ≡ map Some groups → 0 < length groups → length groups ≡ most_groups version
    → some_groups version (words ++ word ∷ more) ≡ Err ExtraWord
longer_groups version [] more word [] e some full = absurd (omega arith)
longer_groups version [] more word (g ∷ groups) e some full = absurd cc
longer_groups version (w ∷ words) more word groups e some full = ap (λ (n : ℕ). up_to_groups version n (w ∷ (words ++ word ∷ more))) (sym full) ∙ groups_longer version (w ∷ words) more word groups e

pub longer : (version : TextVersion) (is_first : Bool) (ws more : List (List ℕ)) (word : List ℕ) (what : What) → SpellsStatement version is_first ws what → is_full version what ≡ true → words_say version is_first (ws ++ word ∷ more) ≡ Err ExtraWord
unfolding words_say version_says title_says ga_says device_says object_says link_says send_says flags_says param_says
longer version is_first _ more word _ (VersionLine number first e) full = rw e refl
longer version is_first _ more word _ (TitleLine name e) full = rw e refl
longer version is_first _ more word _ (GroupLine address name g a e) full = rw (a, e) refl
longer version is_first _ more word _ (DeviceLine address model d a e) full = rw (a, e) refl
longer version is_first _ more word _ (ObjectLine address number size flags d n code octet a e s f) full = rw (a, e, s, f) refl
longer version is_first _ more word _ (LinkLine address number words d n groups a e f some few) full = rw (a, e, longer_groups version words more word groups f some (eqb-true (length groups) (most_groups version) full)) refl
longer One is_first _ more word _ (SendLine address number group d n g v a e f) full = absurd cc
longer Two is_first _ more word _ (SendLine address number group d n g v a e f) full = rw (a, e, f) refl
longer version is_first _ more word _ (FlagsLine address number flags d n octet a e f) full = rw (a, e, f) refl
longer version is_first _ more word _ (ParamLine address name value d n a e f) full = rw (a, e, f) refl

first_words : (version : TextVersion) (is_first : Bool) (ws : List (List ℕ)) (what : What) (k : ℕ) → SpellsStatement version is_first ws what → suc k < needed what → words_say version is_first (take (suc k) ws) ≡ Err MissingWord
unfolding words_say version_says title_says ga_says device_says object_says link_says send_says flags_says param_says
first_words version is_first _ _ zero (VersionLine number first e) less = refl
first_words version is_first _ _ (suc k) (VersionLine number first e) less = absurd (omega arith)
first_words version is_first _ _ zero (TitleLine name e) less = refl
first_words version is_first _ _ (suc k) (TitleLine name e) less = absurd (omega arith)
first_words version is_first _ _ zero (GroupLine address name g a e) less = refl
first_words version is_first _ _ (suc zero) (GroupLine address name g a e) less = rw a refl
first_words version is_first _ _ (suc (suc k)) (GroupLine address name g a e) less = absurd (omega arith)
first_words version is_first _ _ zero (DeviceLine address model d a e) less = refl
first_words version is_first _ _ (suc zero) (DeviceLine address model d a e) less = rw a refl
first_words version is_first _ _ (suc (suc k)) (DeviceLine address model d a e) less = absurd (omega arith)
first_words version is_first _ _ zero (ObjectLine address number size flags d n code octet a e s f) less = refl
first_words version is_first _ _ (suc zero) (ObjectLine address number size flags d n code octet a e s f) less = rw a refl
first_words version is_first _ _ (suc (suc zero)) (ObjectLine address number size flags d n code octet a e s f) less = rw (a, e) refl
first_words version is_first _ _ (suc (suc (suc zero))) (ObjectLine address number size flags d n code octet a e s f) less = rw (a, e, s) refl
first_words version is_first _ _ (suc (suc (suc (suc k)))) (ObjectLine address number size flags d n code octet a e s f) less = absurd (omega arith)
first_words version is_first _ _ zero (LinkLine address number words d n groups a e f some few) less = refl
first_words version is_first _ _ (suc zero) (LinkLine address number words d n groups a e f some few) less = rw a refl
first_words version is_first _ _ (suc (suc zero)) (LinkLine address number words d n groups a e f some few) less = rw (a, e) refl
first_words version is_first _ _ (suc (suc (suc k))) (LinkLine address number words d n groups a e f some few) less = absurd (omega arith)
first_words One is_first _ _ k (SendLine address number group d n g v a e f) less = absurd cc
first_words Two is_first _ _ zero (SendLine address number group d n g v a e f) less = refl
first_words Two is_first _ _ (suc zero) (SendLine address number group d n g v a e f) less = rw a refl
first_words Two is_first _ _ (suc (suc zero)) (SendLine address number group d n g v a e f) less = rw (a, e) refl
first_words Two is_first _ _ (suc (suc (suc k))) (SendLine address number group d n g v a e f) less = absurd (omega arith)
first_words version is_first _ _ zero (FlagsLine address number flags d n octet a e f) less = refl
first_words version is_first _ _ (suc zero) (FlagsLine address number flags d n octet a e f) less = rw a refl
first_words version is_first _ _ (suc (suc zero)) (FlagsLine address number flags d n octet a e f) less = rw (a, e) refl
first_words version is_first _ _ (suc (suc (suc k))) (FlagsLine address number flags d n octet a e f) less = absurd (omega arith)
first_words version is_first _ _ zero (ParamLine address name value d n a e f) less = refl
first_words version is_first _ _ (suc zero) (ParamLine address name value d n a e f) less = rw a refl
first_words version is_first _ _ (suc (suc zero)) (ParamLine address name value d n a e f) less = rw (a, e) refl
first_words version is_first _ _ (suc (suc (suc k))) (ParamLine address name value d n a e f) less = absurd (omega arith)

pub shorter : (version : TextVersion) (is_first : Bool) (ws : List (List ℕ)) (what : What) (k : ℕ) → SpellsStatement version is_first ws what → 0 < k → k < needed what → words_say version is_first (take k ws) ≡ Err MissingWord
shorter version is_first ws what zero s some less = absurd (omega arith)
shorter version is_first ws what (suc k) s some less = first_words version is_first ws what k s less
