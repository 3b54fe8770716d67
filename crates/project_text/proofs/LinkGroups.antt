-- The groups of a `link` line are read one after another.
use Rattle.std.proofs.Common.{◌≡◌, ℕ, zero, suc, ◌+◌, ◌-◌, ◌<◌, ◌≤◌, true, List, [], ◌∷◌, ◌++◌, length, map, Option, Some, None, Result, Ok, Err, refl, sym, ap, ◌∙◌, subst, append_assoc, length-append, arith}
use Rattle.std.specs.List.{list_all}
use Rattle.std.proofs.lemmas.Bool.{and_from, lt-ltb, le-leb}
use Rattle.std.proofs.lemmas.List.{append-nil}
use Rattle.std.proofs.lemmas.List.Folds.{list_all-append}
use Rattle.knx_model.specs.declared.address.GroupAddr.{GroupAddr}
use Rattle.knx_model.specs.declared.project.TextVersion.{TextVersion}
use Rattle.knx_model.specs.declared.project.TextVersion.TheVariants.{One, Two}
use Rattle.knx_model.specs.declared.refusal.Why.{Why}
use Rattle.knx_model.specs.declared.refusal.Why.TheVariants.{BadAddress, ExtraWord, MissingWord}
use Rattle.knx_model.specs.Answers.{◌>>=◌}
use Rattle.knx_model.specs.Addresses.{group_by}
use Rattle.knx_model.specs.Statements.{placed, field, is_group, are_groups, most_groups, read_group, up_to_groups, some_groups}

-- what is read of further words, behind groups that are read
pub with_front : List GroupAddr → Result (List GroupAddr) Why → Result (List GroupAddr) Why
with_front front (Ok others) = Ok (front ++ others)
with_front front (Err why) = Err why

-- these are the groups of all words but those that are left
pub record GroupsTo (version : TextVersion) (all left : List (List ℕ)) (groups : List GroupAddr) : Type 0 where
  pub read : some_groups version all ≡ with_front groups (up_to_groups version (most_groups version - length groups) left)
  pub some : 0 < length groups
  pub few : length groups ≤ most_groups version
  pub are : list_all is_group groups ≡ true

bound_is : (g : GroupAddr) (r : Result (List GroupAddr) Why) → (r >>= λ others. Ok (g ∷ others)) ≡ with_front (g ∷ []) r
unfolding with_front
bound_is g (Ok others) = refl
bound_is g (Err why) = refl

fronts : (a b : List GroupAddr) (r : Result (List GroupAddr) Why) → with_front a (with_front b r) ≡ with_front (a ++ b) r
unfolding with_front
fronts a b (Ok others) = ap (λ (l : List GroupAddr). Ok l) (sym (append_assoc a b others))
fronts a b (Err why) = refl

-- a word that is a group
group_first : (version : TextVersion) (most : ℕ) (w : List ℕ) (ws : List (List ℕ)) (g : GroupAddr) → group_by version w ≡ Some g → up_to_groups version (suc most) (w ∷ ws) ≡ with_front (g ∷ []) (up_to_groups version most ws)
unfolding up_to_groups
group_first version most w ws g e = ap (λ (o : Option GroupAddr). read_group o >>= λ group. up_to_groups version most ws >>= λ others. Ok (group ∷ others)) e ∙ bound_is g (up_to_groups version most ws)

most_is : (version : TextVersion) → most_groups version ≡ suc (most_groups version - 1)
most_is One = refl
most_is Two = refl

first_read : (version : TextVersion) (o : Option GroupAddr) (ws left : List (List ℕ)) (g : GroupAddr) → placed o BadAddress ws ≡ Ok (g, left) → (o ≡ Some g) × (ws ≡ left)
first_read version None ws left g e = absurd cc
first_read version (Some h) ws left g e = let same : (h, ws) ≡ (g, left) = cc in (ap (λ (p : GroupAddr × List (List ℕ)). Some p.0) same, ap (λ (p : GroupAddr × List (List ℕ)). p.1) same)

pub starts : (version : TextVersion) (all left : List (List ℕ)) (g : GroupAddr) → field (group_by version) BadAddress all ≡ Ok (g, left) → is_group g ≡ true → GroupsTo version all left (g ∷ [])
starts version [] left g e is = absurd cc
starts version (w ∷ ws) left g e is =
    let h = first_read version (group_by version w) ws left g e in
    record {
      read = ap (λ (n : ℕ). up_to_groups version n (w ∷ ws)) (most_is version) ∙ group_first version (most_groups version - 1) w ws g h.0 ∙ ap (λ (l : List (List ℕ)). with_front (g ∷ []) (up_to_groups version (most_groups version - 1) l)) h.1;
      some = omega arith;
      few = omega (arith, most_is version);
      are = and_from (is_group g) true is refl;
    }

pub group_more : (version : TextVersion) (all ws left : List (List ℕ)) (groups : List GroupAddr) (w : List ℕ) (g : GroupAddr) → GroupsTo version all left groups → left ≡ w ∷ ws → length groups < most_groups version
    → group_by version w ≡ Some g → is_group g ≡ true → GroupsTo version all ws (groups ++ g ∷ [])
group_more version all ws left groups w g to is lt e fits =
    let long : length (groups ++ g ∷ []) ≡ length groups + 1 = length-append groups (g ∷ []) in
    let rest : most_groups version - length groups ≡ suc (most_groups version - length (groups ++ g ∷ [])) = omega (arith, long, lt) in
    record {
      read = to.read ∙ ap (λ (l : List (List ℕ)). with_front groups (up_to_groups version (most_groups version - length groups) l)) is
          ∙ ap (λ (n : ℕ). with_front groups (up_to_groups version n (w ∷ ws))) rest
          ∙ ap (with_front groups) (group_first version (most_groups version - length (groups ++ g ∷ [])) w ws g e)
          ∙ fronts groups (g ∷ []) (up_to_groups version (most_groups version - length (groups ++ g ∷ [])) ws);
      some = omega (arith, long);
      few = omega (arith, long, lt);
      are = list_all-append is_group groups (g ∷ []) ∙ and_from _ _ to.are (and_from (is_group g) true fits refl);
    }

bad_first : (version : TextVersion) (most : ℕ) (w : List ℕ) (ws : List (List ℕ)) → group_by version w ≡ None → up_to_groups version (suc most) (w ∷ ws) ≡ Err BadAddress
unfolding up_to_groups
bad_first version most w ws e = ap (λ (o : Option GroupAddr). read_group o >>= λ group. up_to_groups version most ws >>= λ others. Ok (group ∷ others)) e

pub bad_group : (version : TextVersion) (all ws left : List (List ℕ)) (groups : List GroupAddr) (w : List ℕ) → GroupsTo version all left groups → left ≡ w ∷ ws → length groups < most_groups version
    → group_by version w ≡ None → some_groups version all ≡ Err BadAddress
unfolding with_front
bad_group version all ws left groups w to is lt e =
    let rest : most_groups version - length groups ≡ suc (most_groups version - length groups - 1) = omega (arith, lt) in
    to.read ∙ ap (λ (l : List (List ℕ)). with_front groups (up_to_groups version (most_groups version - length groups) l)) is
    ∙ ap (λ (n : ℕ). with_front groups (up_to_groups version n (w ∷ ws))) rest
    ∙ ap (with_front groups) (bad_first version (most_groups version - length groups - 1) w ws e)

-- a first word that is no group
pub first_refused : (version : TextVersion) (all : List (List ℕ)) (why : Why) → field (group_by version) BadAddress all ≡ Err why → some_groups version all ≡ Err why
first_refused version [] why e = let same : MissingWord ≡ why = cc in ap (λ (w : Why). Err w) same
first_refused version (w ∷ ws) why e = by (group_by version w) refl e
  where
    by : (o : Option GroupAddr) → group_by version w ≡ o → placed o BadAddress ws ≡ Err why → some_groups version (w ∷ ws) ≡ Err why
    by None is e = ap (λ (n : ℕ). up_to_groups version n (w ∷ ws)) (most_is version) ∙ bad_first version (most_groups version - 1) w ws is ∙ cc
    by (Some g) is e = absurd cc

none_more : (version : TextVersion) (w : List ℕ) (ws : List (List ℕ)) → up_to_groups version 0 (w ∷ ws) ≡ Err ExtraWord
unfolding up_to_groups
none_more version w ws = refl

pub extra_group : (version : TextVersion) (all ws left : List (List ℕ)) (groups : List GroupAddr) (w : List ℕ) → GroupsTo version all left groups → left ≡ w ∷ ws → most_groups version ≤ length groups
    → some_groups version all ≡ Err ExtraWord
unfolding with_front
extra_group version all ws left groups w to is le =
    let rest : most_groups version - length groups ≡ 0 = omega (arith, le) in
    to.read ∙ ap (λ (l : List (List ℕ)). with_front groups (up_to_groups version (most_groups version - length groups) l)) is
    ∙ ap (λ (n : ℕ). with_front groups (up_to_groups version n (w ∷ ws))) rest
    ∙ ap (with_front groups) (none_more version w ws)

no_words : (version : TextVersion) (most : ℕ) → up_to_groups version most [] ≡ Ok []
unfolding up_to_groups
no_words version zero = refl
no_words version (suc most) = refl

pub all_groups : (version : TextVersion) (all left : List (List ℕ)) (groups : List GroupAddr) → GroupsTo version all left groups → left ≡ [] → some_groups version all ≡ Ok groups
unfolding with_front
all_groups version all left groups to none =
    to.read ∙ ap (λ (l : List (List ℕ)). with_front groups (up_to_groups version (most_groups version - length groups) l)) none
    ∙ ap (with_front groups) (no_words version (most_groups version - length groups))
    ∙ ap (λ (l : List GroupAddr). Ok l) (append-nil groups)

pub fits : (version : TextVersion) (all left : List (List ℕ)) (groups : List GroupAddr) → GroupsTo version all left groups → are_groups version groups ≡ true
fits version all left groups to = and_from _ _ (and_from _ _ (lt-ltb 0 (length groups) to.some) (le-leb (length groups) (most_groups version) to.few)) to.are

-- ---- all words of a line at once

spelled_first : (version : TextVersion) (w : List ℕ) (ws : List (List ℕ)) (most : ℕ) (groups : List GroupAddr) (o : Option GroupAddr) (r : Result (List GroupAddr) Why) → group_by version w ≡ o
    → ((others : List GroupAddr) → r ≡ Ok others → (map (group_by version) ws ≡ map Some others) × (length others ≤ most)) → (read_group o >>= λ group. r >>= λ others. Ok (group ∷ others)) ≡ Ok groups
    → (map (group_by version) (w ∷ ws) ≡ map Some groups) × (length groups ≤ suc most)
spelled_first version w ws most groups None r is later e = absurd cc
spelled_first version w ws most groups (Some g) (Err why) is later e = absurd cc
spelled_first version w ws most groups (Some g) (Ok others) is later e =
    let same : g ∷ others ≡ groups = cc in
    let h = later others refl in
    (subst (λ (l : List GroupAddr). map (group_by version) (w ∷ ws) ≡ map Some l) same (rw (is, h.0) refl), omega (arith, h.1, ap length same))

-- the words spell the groups that are read of them
pub groups_spelled : (version : TextVersion) (most : ℕ) (ws : List (List ℕ)) (groups : List GroupAddr) → up_to_groups version most ws ≡ Ok groups → (map (group_by version) ws ≡ map Some groups) × (length groups ≤ most)
unfolding up_to_groups
groups_spelled version zero [] groups e = let same : [] ≡ groups = cc in (ap (map Some) same, omega (arith, ap length same))
groups_spelled version (suc most) [] groups e = let same : [] ≡ groups = cc in (ap (map Some) same, omega (arith, ap length same))
groups_spelled version zero (w ∷ ws) groups e = absurd cc
groups_spelled version (suc most) (w ∷ ws) groups e = spelled_first version w ws most groups (group_by version w) (up_to_groups version most ws) refl (λ others read. groups_spelled version most ws others read) e

-- groups are read of the words that spell them
pub groups_read : (version : TextVersion) (most : ℕ) (ws : List (List ℕ)) (groups : List GroupAddr) → map (group_by version) ws ≡ map Some groups → length groups ≤ most → up_to_groups version most ws ≡ Ok groups
unfolding with_front
groups_read version most [] [] e le = no_words version most
groups_read version most [] (g ∷ groups) e le = absurd cc
groups_read version most (w ∷ ws) [] e le = absurd cc
groups_read version zero (w ∷ ws) (g ∷ groups) e le = absurd (omega arith)
groups_read version (suc most) (w ∷ ws) (g ∷ groups) e le =
    let first : group_by version w ≡ Some g = cc in
    let others : map (group_by version) ws ≡ map Some groups = cc in
    group_first version most w ws g first ∙ ap (with_front (g ∷ [])) (groups_read version most ws groups others (omega (arith, le)))

-- one word more than there may be
pub groups_longer : (version : TextVersion) (ws more : List (List ℕ)) (word : List ℕ) (groups : List GroupAddr) → map (group_by version) ws ≡ map Some groups → up_to_groups version (length groups) (ws ++ word ∷ more) ≡ Err ExtraWord
unfolding with_front
groups_longer version [] more word [] e = none_more version word more
groups_longer version [] more word (g ∷ groups) e = absurd cc
groups_longer version (w ∷ ws) more word [] e = absurd cc
groups_longer version (w ∷ ws) more word (g ∷ groups) e =
    let first : group_by version w ≡ Some g = cc in
    let others : map (group_by version) ws ≡ map Some groups = cc in
    group_first version (length groups) w (ws ++ word ∷ more) g first ∙ ap (with_front (g ∷ [])) (groups_longer version ws more word groups others)
