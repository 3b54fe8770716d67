-- The words of a line in their places: what each place wants of its word, and how a word that isn't that is refused. Words are read from
-- left to right, and the first that isn't what its place wants decides.
use Rattle.std.specs.Prelude.{◌≡◌, ◌⊎◌, ℕ, Bool, true, false, List, [], ◌∷◌, is_some, Option}
use Rattle.knx_model.specs.declared.refusal.Why.{Why}
use Rattle.knx_model.specs.declared.refusal.Why.TheVariants.{BadAddress, BadNumber, BadName}
use Rattle.knx_model.specs.Numbers.{number_value, is_name}
use Rattle.knx_model.specs.declared.project.TextVersion.{TextVersion}
use Rattle.knx_model.specs.Addresses.{group_value, group_by, ind_value}
use Rattle.knx_model.specs.Flags.{flags_value}
use Rattle.knx_model.specs.Sizes.{size_value}
use Rattle.knx_model.specs.Statements.{object_value, name_value}
use Rattle.knx_model.specs.ScriptText.{count_value, status_value, service_value}

pub record Place : Type 0 where
  pub fits : List ℕ → Bool
  pub otherwise : Why

-- a place whose word is read
abbrev pub wants : {A : Type 0} → (List ℕ → Option A) → Why → Place
wants read why = record { fits = λ word. is_some (read word); otherwise = why }

abbrev pub a_group : Place
a_group = wants group_value BadAddress

-- a group as a project text of this version writes it
abbrev pub a_group_by : TextVersion → Place
a_group_by version = wants (group_by version) BadAddress

abbrev pub a_device : Place
a_device = wants ind_value BadAddress

abbrev pub an_object : Place
an_object = wants object_value BadNumber

abbrev pub a_size : Place
a_size = wants size_value BadNumber

abbrev pub a_number : Place
a_number = wants number_value BadNumber

-- a number of at least 1
abbrev pub a_count : Place
a_count = wants count_value BadNumber

-- a status of a refused connection
abbrev pub a_status : Place
a_status = wants status_value BadNumber

-- `read` or a group value
abbrev pub a_service : Place
a_service = wants service_value BadNumber

abbrev pub a_name : Place
a_name = wants name_value BadName

abbrev pub some_flags : Place
some_flags = wants flags_value BadName

-- of the words in these places, the first that doesn't fit is refused for this reason
abbrev pub FirstMisfit : List Place → List (List ℕ) → Why → Type 0
FirstMisfit [] words why = ⊥
FirstMisfit (place ∷ places) [] why = ⊥
FirstMisfit (place ∷ places) (word ∷ words) why =
    ((place.fits word ≡ false) × (why ≡ place.otherwise))
    ⊎ ((place.fits word ≡ true) × FirstMisfit places words why)
