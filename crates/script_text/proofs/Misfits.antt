-- The first word of a line that isn't what its place wants is refused as its place says.
use Rattle.std.proofs.Common.{◌≡◌, ℕ, Bool, List, [], ◌∷◌, ◌++◌, Err, refl}
use Rattle.knx_model.specs.declared.refusal.Why.{Why}
use Rattle.knx_model.specs.declared.refusal.Why.TheVariants.{BadAddress, BadNumber}
use Rattle.knx_model.specs.Numbers.{number_value}
use Rattle.knx_model.specs.Addresses.{group_value, ind_value}
use Rattle.knx_model.specs.Places.{Place, FirstMisfit, a_group, a_device, a_number, a_count, a_status, a_service}
use Rattle.knx_model.specs.ScriptText.{count_value, status_value, service_value, n_says, device_n_says, telegram_says, cut_says, refuse_says, off_says, standard_says, lose_says, repeat_says, drop_says, then_says, after_word_says, script_words_say}
use Rattle.knx_model.proofs.Misfit.{misfit}
use Rattle.script_text.specs.Wants.{Wants, OfLoseUp, OfLoseDown, OfLoseTo, OfLoseFrom, OfRepeatUp, OfRepeatDown, OfRepeatTo, OfCut, OfWorn, OfClose, OfRefuse, OfDrop, OfOff, OfStandard, OfGroup, OfThenGroup}

of_n : (ws : List (List ℕ)) (why : Why) → FirstMisfit (a_count ∷ []) ws why → n_says ws ≡ Err why
unfolding n_says
of_n ws why h = misfit count_value BadNumber why _ [] ws h (λ n rest none. absurd none)

of_device_n : (ws : List (List ℕ)) (why : Why) → FirstMisfit (a_device ∷ a_count ∷ []) ws why → device_n_says ws ≡ Err why
unfolding device_n_says
of_device_n ws why h = misfit ind_value BadAddress why _ (a_count ∷ []) ws h (λ d ws h. misfit count_value BadNumber why _ [] ws h (λ n rest none. absurd none))

of_telegram : (after : Bool) (ws : List (List ℕ)) (why : Why) → FirstMisfit (a_group ∷ a_service ∷ []) ws why → telegram_says after ws ≡ Err why
unfolding telegram_says
of_telegram after ws why h = misfit group_value BadAddress why _ (a_service ∷ []) ws h (λ g ws h. misfit service_value BadNumber why _ [] ws h (λ s rest none. absurd none))

of_cut : (ws : List (List ℕ)) (why : Why) → FirstMisfit (a_device ∷ a_count ∷ a_number ∷ []) ws why → cut_says ws ≡ Err why
unfolding cut_says
of_cut ws why h =
    misfit ind_value BadAddress why _ (a_count ∷ a_number ∷ []) ws h (λ d ws h.
    misfit count_value BadNumber why _ (a_number ∷ []) ws h (λ n ws h.
    misfit number_value BadNumber why _ [] ws h (λ k rest none. absurd none)))

of_refuse : (ws : List (List ℕ)) (why : Why) → FirstMisfit (a_count ∷ a_status ∷ []) ws why → refuse_says ws ≡ Err why
unfolding refuse_says
of_refuse ws why h = misfit count_value BadNumber why _ (a_status ∷ []) ws h (λ n ws h. misfit status_value BadNumber why _ [] ws h (λ s rest none. absurd none))

of_off : (ws : List (List ℕ)) (why : Why) → FirstMisfit (a_device ∷ []) ws why → off_says ws ≡ Err why
unfolding off_says
of_off ws why h = misfit ind_value BadAddress why _ [] ws h (λ d rest none. absurd none)

of_standard : (ws : List (List ℕ)) (why : Why) → FirstMisfit (a_device ∷ []) ws why → standard_says ws ≡ Err why
unfolding standard_says
of_standard ws why h = misfit ind_value BadAddress why _ [] ws h (λ d rest none. absurd none)

pub first_misfit : (line : List (List ℕ)) (places : List Place) (ws : List (List ℕ)) (why : Why) → Wants line places → FirstMisfit places ws why → script_words_say (line ++ ws) ≡ Err why
unfolding script_words_say after_word_says lose_says repeat_says drop_says then_says
first_misfit _ _ ws why OfLoseUp h = rw (of_n ws why h) refl
first_misfit _ _ ws why OfLoseDown h = rw (of_n ws why h) refl
first_misfit _ _ ws why OfRepeatUp h = rw (of_n ws why h) refl
first_misfit _ _ ws why OfRepeatDown h = rw (of_n ws why h) refl
first_misfit _ _ ws why OfDrop h = rw (of_n ws why h) refl
first_misfit _ _ ws why OfLoseTo h = rw (of_device_n ws why h) refl
first_misfit _ _ ws why OfLoseFrom h = rw (of_device_n ws why h) refl
first_misfit _ _ ws why OfRepeatTo h = rw (of_device_n ws why h) refl
first_misfit _ _ ws why OfWorn h = rw (of_device_n ws why h) refl
first_misfit _ _ ws why OfClose h = rw (of_device_n ws why h) refl
first_misfit _ _ ws why OfCut h = rw (of_cut ws why h) refl
first_misfit _ _ ws why OfRefuse h = rw (of_refuse ws why h) refl
first_misfit _ _ ws why OfOff h = rw (of_off ws why h) refl
first_misfit _ _ ws why OfStandard h = rw (of_standard ws why h) refl
first_misfit _ _ ws why OfGroup h = rw (of_telegram _ ws why h) refl
first_misfit _ _ ws why OfThenGroup h = rw (of_telegram _ ws why h) refl
