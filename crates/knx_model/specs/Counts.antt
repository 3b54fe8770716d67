-- How many devices, objects and links a project has.
use Rattle.std.specs.Prelude.{ℕ, ◌+◌, length, sum_by}
use Rattle.knx_model.specs.declared.address.IndAddr.{IndAddr}
use Rattle.knx_model.specs.declared.counts.Counts.{Counts}
use Rattle.knx_model.specs.Meaning.{Installation, the_model}
use Rattle.knx_model.specs.Rules.{count_lines, is_object_line, links_in, devices_of}

-- the objects of a device's model
abbrev pub model_objects : Installation → IndAddr → ℕ
model_objects i device = length (the_model i device).objects

-- the devices of the `device` lines; the objects of the `object` lines and of each device's model; one link for each group of the `link` lines
abbrev pub counts_of : Installation → Counts
counts_of i = record {
  devices = length (devices_of i.statements);
  objects = count_lines is_object_line i.statements + sum_by (model_objects i) (devices_of i.statements);
  links = sum_by (λ s. links_in s.what) i.statements;
}
