-- What the lines of one device say, as it is kept.
use Rattle.std.specs.Prelude.{◌≡◌, ℕ, ◌<◌, Bool, false, ◌==◌, List, [], ◌++◌, Option, None, Some, slice_index_or, length}
use Rattle.std.specs.Borrow.{Bor}
use Rattle.std.specs.List.{cons_option, filter_map}
use Rattle.std.specs.Option.{option_or}
use Rattle.knx_model.specs.declared.address.GroupAddr.{GroupAddr}
use Rattle.knx_model.specs.declared.address.IndAddr.{IndAddr}
use Rattle.knx_model.specs.declared.catalogue.model.NamedModel.{NamedModel}
use Rattle.knx_model.specs.declared.project.Statement.{Statement}
use Rattle.knx_model.specs.declared.project.What.{What}
use Rattle.knx_model.specs.declared.project.What.TheVariants.{Device, Object, Link, Send, Flags, Param}
use Rattle.knx_model.specs.Meaning.{links_said, link_lines, send_line, last_send, object_line, flags_line, last_flags, param_line}
use Rattle.knx_model.specs.Rules.{first_broken, first_some, model_in}
use Rattle.table_compiler.specs.Settings.{value_in, HoldsValues}
use Rattle.table_compiler.specs.declared.drafts.Draft.{Draft}

-- the statement names the device
abbrev pub names : ℕ → What → Bool
names d (Device device model) = device.raw == d
names d (Object device n size flags) = device.raw == d
names d (Link device object groups) = device.raw == d
names d (Send device object group) = device.raw == d
names d (Flags device object flags) = device.raw == d
names d (Param device name value) = device.raw == d
names d _ = false

-- the text that is borrowed, where there is one
abbrev pub text_of : Option (Bor (List ℕ)) → Option (List ℕ)
text_of None = None
text_of (Some text) = Some text.now

-- the flags of the last `flags` line of each object of the device
abbrev pub HoldsFlags : List (Option ℕ) → IndAddr → List Statement → Type 0
HoldsFlags kept device ss = (n : ℕ) → n < 256 → slice_index_or kept n None ≡ last_flags device ss n

-- the group of the last `send` line of each object of the device
abbrev pub HoldsSends : List (Option GroupAddr) → IndAddr → List Statement → Type 0
HoldsSends kept device ss = (n : ℕ) → n < 256 → slice_index_or kept n None ≡ last_send device ss n

-- this is what the lines of the device say
pub record IsDraft (device : IndAddr) (draft : Draft) (ss : List Statement) : Type 0 where
  pub model : text_of draft.model ≡ first_some (model_in device.raw) ss
  pub objects : draft.objects.items ≡ filter_map (λ s. object_line device s.what) ss
  pub flags : HoldsFlags draft.flags device ss
  pub links : draft.links.items ≡ link_lines device ss
  pub sends : HoldsSends draft.sends device ss
  pub values : HoldsValues draft.values device ss

-- what a line says is added
pub record Adds (device : IndAddr) (what : What) (old new : Draft) : Type 0 where
  pub model : text_of new.model ≡ option_or (text_of old.model) (model_in device.raw what)
  pub objects : new.objects.items ≡ old.objects.items ++ cons_option (object_line device what) []
  pub flags : (n : ℕ) → n < 256 → slice_index_or new.flags n None ≡ option_or (flags_line device n what) (slice_index_or old.flags n None)
  pub links : new.links.items ≡ old.links.items ++ links_said device what
  pub sends : (n : ℕ) → n < 256 → slice_index_or new.sends n None ≡ option_or (send_line device n what) (slice_index_or old.sends n None)
  pub values : (name : List ℕ) → value_in new.values name ≡ option_or (param_line device name what) (value_in old.values name)

-- for each device what its lines say
pub record AreDrafts (devices : List IndAddr) (drafts : List Draft) (ss : List Statement) : Type 0 where
  pub whole : length drafts ≡ length devices
  pub each : (k : ℕ) (device : IndAddr) (draft : Draft) → k < length devices → IsDraft (slice_index_or devices k device) (slice_index_or drafts k draft) ss

-- the lines are those of a device in a text that breaks no rule
pub record IsSoundDraft (catalogue : List NamedModel) (draft : Draft) : Type 0 where
  pub device : IndAddr
  pub whole : List Statement
  pub is : IsDraft device draft whole
  pub sound : first_broken catalogue whole ≡ None
