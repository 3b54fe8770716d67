-- The first word of a statement that isn't what its place wants is refused as its place says.
use Rattle.std.proofs.Common.{◌≡◌, ◌⊎◌, inl, inr, ℕ, zero, suc, ◌<◌, ◌≤◌, Bool, true, false, List, ◌∷◌, [], replicate, Option, Some, None, Result, Ok, Err, refl, sym, ap, ◌∙◌, arith}
use Rattle.std.specs.Prelude.{is_some}
use Rattle.knx_model.specs.Answers.{◌>>=◌}
use Rattle.knx_model.specs.declared.address.GroupAddr.{GroupAddr}
use Rattle.knx_model.specs.declared.project.TextVersion.{TextVersion}
use Rattle.knx_model.specs.declared.project.TextVersion.TheVariants.{One, Two}
use Rattle.knx_model.specs.declared.project.What.{What}
use Rattle.knx_model.specs.declared.project.What.TheVariants.{Link}
use Rattle.knx_model.specs.declared.refusal.Why.{Why}
use Rattle.knx_model.specs.declared.refusal.Why.TheVariants.{BadAddress, BadNumber, BadName}
use Rattle.knx_model.specs.Numbers.{number_value}
use Rattle.knx_model.specs.Addresses.{group_by, ind_value}
use Rattle.knx_model.specs.Flags.{flags_value}
use Rattle.knx_model.specs.Sizes.{size_value}
use Rattle.knx_model.specs.Places.{Place, FirstMisfit, a_group_by, a_device, an_object, a_size, a_number, a_name, some_flags}
use Rattle.knx_model.specs.Statements.{object_value, name_value, most_groups, read_group, up_to_groups, some_groups, some_what, version_says, title_says, ga_says, device_says, object_says, link_says, send_says, flags_says, param_says, words_say}
use Rattle.knx_model.proofs.Misfit.{misfit}
use Rattle.project_text.specs.Wants.{Wants, OfVersion, OfTitle, OfGroup, OfDevice, OfObject, OfLink, OfSend, OfFlags, OfParameter}

of_title : (ws : List (List ℕ)) (why : Why) → FirstMisfit (a_name ∷ []) ws why → title_says ws ≡ Err why
unfolding title_says
of_title ws why h = misfit name_value BadName why _ [] ws h (λ n rest none. absurd none)

of_group : (version : TextVersion) (ws : List (List ℕ)) (why : Why) → FirstMisfit (a_group_by version ∷ a_name ∷ []) ws why → ga_says version ws ≡ Err why
unfolding ga_says
of_group version ws why h = misfit (group_by version) BadAddress why _ (a_name ∷ []) ws h (λ g ws h. misfit name_value BadName why _ [] ws h (λ n rest none. absurd none))

of_device : (ws : List (List ℕ)) (why : Why) → FirstMisfit (a_device ∷ a_name ∷ []) ws why → device_says ws ≡ Err why
unfolding device_says
of_device ws why h = misfit ind_value BadAddress why _ (a_name ∷ []) ws h (λ d ws h. misfit name_value BadName why _ [] ws h (λ n rest none. absurd none))

of_object : (ws : List (List ℕ)) (why : Why) → FirstMisfit (a_device ∷ an_object ∷ a_size ∷ some_flags ∷ []) ws why → object_says ws ≡ Err why
unfolding object_says
of_object ws why h =
    misfit ind_value BadAddress why _ (an_object ∷ a_size ∷ some_flags ∷ []) ws h (λ d ws h.
    misfit object_value BadNumber why _ (a_size ∷ some_flags ∷ []) ws h (λ n ws h.
    misfit size_value BadNumber why _ (some_flags ∷ []) ws h (λ s ws h.
    misfit flags_value BadName why _ [] ws h (λ f rest none. absurd none))))

-- the first word that is no group, where there may be as many
groups_misfit : (version : TextVersion) (k most : ℕ) (ws : List (List ℕ)) (why : Why) → k ≤ most → FirstMisfit (replicate k (a_group_by version)) ws why → up_to_groups version most ws ≡ Err why
unfolding up_to_groups
groups_misfit version zero most ws why le h = absurd h
groups_misfit version (suc k) zero ws why le h = absurd (omega arith)
groups_misfit version (suc k) (suc most) [] why le h = absurd h
groups_misfit version (suc k) (suc most) (w ∷ ws) why le h = by (groups_misfit version k most ws why (omega (arith, le))) (group_by version w) refl h
  where
    by : (FirstMisfit (replicate k (a_group_by version)) ws why → up_to_groups version most ws ≡ Err why) → (o : Option GroupAddr) → group_by version w ≡ o → ((is_some o ≡ false) × (why ≡ BadAddress)) ⊎ ((is_some o ≡ true) × FirstMisfit (replicate k (a_group_by version)) ws why)
        → (read_group o >>= λ group. up_to_groups version most ws >>= λ others. Ok (group ∷ others)) ≡ Err why
    by later None is (inl (none, same)) = ap (λ (w : Why). Err w) (sym same)
    by later None is (inr (some, more)) = absurd cc
    by later (Some g) is (inl (none, same)) = absurd cc
    by later (Some g) is (inr (some, more)) = ap (λ (r : Result (List GroupAddr) Why). r >>= λ others. Ok (g ∷ others)) (later more)

some_misfit : (version : TextVersion) (k : ℕ) (ws : List (List ℕ)) (why : Why) → k < most_groups version → FirstMisfit (a_group_by version ∷ replicate k (a_group_by version)) ws why → some_groups version ws ≡ Err why
some_misfit version k [] why lt h = absurd h
some_misfit version k (w ∷ ws) why lt h = groups_misfit version (suc k) (most_groups version) (w ∷ ws) why (omega (arith, lt)) h

of_link : (version : TextVersion) (k : ℕ) (ws : List (List ℕ)) (why : Why) → k < most_groups version → FirstMisfit (a_device ∷ an_object ∷ a_group_by version ∷ replicate k (a_group_by version)) ws why → link_says version ws ≡ Err why
unfolding link_says
of_link version k ws why lt h =
    misfit ind_value BadAddress why _ (an_object ∷ a_group_by version ∷ replicate k (a_group_by version)) ws h (λ d ws h.
    misfit object_value BadNumber why _ (a_group_by version ∷ replicate k (a_group_by version)) ws h (λ n ws h.
    ap (λ (r : Result (List GroupAddr) Why). r >>= λ groups. Ok (Link d n groups)) (some_misfit version k ws why lt h)))

of_send : (ws : List (List ℕ)) (why : Why) → FirstMisfit (a_device ∷ an_object ∷ a_group_by Two ∷ []) ws why → send_says Two ws ≡ Err why
unfolding send_says
of_send ws why h =
    misfit ind_value BadAddress why _ (an_object ∷ a_group_by Two ∷ []) ws h (λ d ws h.
    misfit object_value BadNumber why _ (a_group_by Two ∷ []) ws h (λ n ws h.
    misfit (group_by Two) BadAddress why _ [] ws h (λ g rest none. absurd none)))

of_version : (is_first : Bool) (ws : List (List ℕ)) (why : Why) → FirstMisfit (a_number ∷ []) ws why → version_says is_first ws ≡ Err why
unfolding version_says
of_version is_first ws why h = misfit number_value BadNumber why _ [] ws h (λ n rest none. absurd none)

of_flags : (ws : List (List ℕ)) (why : Why) → FirstMisfit (a_device ∷ an_object ∷ some_flags ∷ []) ws why → flags_says ws ≡ Err why
unfolding flags_says
of_flags ws why h =
    misfit ind_value BadAddress why _ (an_object ∷ some_flags ∷ []) ws h (λ d ws h.
    misfit object_value BadNumber why _ (some_flags ∷ []) ws h (λ n ws h.
    misfit flags_value BadName why _ [] ws h (λ f rest none. absurd none)))

of_parameter : (ws : List (List ℕ)) (why : Why) → FirstMisfit (a_device ∷ a_name ∷ a_number ∷ []) ws why → param_says ws ≡ Err why
unfolding param_says
of_parameter ws why h =
    misfit ind_value BadAddress why _ (a_name ∷ a_number ∷ []) ws h (λ d ws h.
    misfit name_value BadName why _ (a_number ∷ []) ws h (λ n ws h.
    misfit number_value BadNumber why _ [] ws h (λ v rest none. absurd none)))

pub first_misfit : (version : TextVersion) (is_first : Bool) (word : List ℕ) (places : List Place) (ws : List (List ℕ)) (why : Why) → Wants version word places → FirstMisfit places ws why → words_say version is_first (word ∷ ws) ≡ Err why
unfolding words_say
first_misfit version is_first _ _ ws why OfVersion h = ap some_what (of_version is_first ws why h)
first_misfit version is_first _ _ ws why OfTitle h = ap some_what (of_title ws why h)
first_misfit version is_first _ _ ws why OfGroup h = ap some_what (of_group version ws why h)
first_misfit version is_first _ _ ws why OfDevice h = ap some_what (of_device ws why h)
first_misfit version is_first _ _ ws why OfObject h = ap some_what (of_object ws why h)
first_misfit version is_first _ _ ws why (OfLink k lt) h = ap some_what (of_link version k ws why lt h)
first_misfit One is_first _ _ ws why (OfSend v) h = absurd cc
first_misfit Two is_first _ _ ws why (OfSend v) h = ap some_what (of_send ws why h)
first_misfit version is_first _ _ ws why OfFlags h = ap some_what (of_flags ws why h)
first_misfit version is_first _ _ ws why OfParameter h = ap some_what (of_parameter ws why h)
