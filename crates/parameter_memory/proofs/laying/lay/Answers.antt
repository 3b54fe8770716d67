use Rattle.std.proofs.Common.{◌≡◌, ℕ, [], List, length, drop, replicate, ◌∙◌}
use Rattle.std.proofs.lemmas.List.{take_at}
use Rattle.knx_model.specs.Parameters.{HoldsParameters, bits_of, laid, set_value}
use Rattle.parameter_memory.specs.Bits.{AreOctets, HoldsFields}
use Rattle.parameter_memory.proofs.Holds.{blank, zero_octets, holds_memory}
use Rattle.parameter_memory.proofs.laying.lay.Goals as goal

pub write_defaults-requires-clause-blank : goal.write_defaults-requires-clause-blank
write_defaults-requires-clause-blank c =
    let zeros : c.as_mut_slice.result.now ≡ replicate c.from.result 0 = c.as_mut_slice.ensures.value ∙ c.in_ok-memory.ensures.items_if_clones_equal (λ y e. e) in
    rw zeros (blank c.from.result)

pub returns : goal.returns
returns c =
    let model = c.args.model.now in
    let settings = c.args.settings.now in
    let len = c.in_ok-memory.memory.len in
    let defaults : List ℕ = c.write_defaults.new.memory in
    let all : List ℕ = c.write_settings.new.memory in
    let size : len ≡ model.params = c.in_ok-memory.ensures.len ∙ c.from.ensures in
    let first : length defaults ≡ len = c.write_defaults.auto.memory ∙ c.as_mut_slice.ensures.len in
    let begun : c.as_mut_slice-2.result.now ≡ defaults = c.as_mut_slice-2.ensures.value ∙ take_at defaults (drop (length defaults) c.in_ok-memory.memory.items) len first in
    let second : length all ≡ len = c.write_settings.auto.memory ∙ c.as_mut_slice-2.ensures.len in
    let ended : c.from_vec.result ≡ all = c.from_vec.ensures ∙ take_at all _ len second in
    let before : HoldsFields (bits_of c.as_mut_slice-2.result.now) model.parameters (set_value []) = rw (begun, ← c.as_slice.ensures) c.write_defaults.ensures.holds in
    let after : HoldsFields (bits_of all) model.parameters (set_value settings) = c.write_settings.ensures.holds model c.requires.model c.requires.settings (c.as_mut_slice-2.ensures.len ∙ size) before in
    let zeros : c.as_mut_slice.result.now ≡ replicate c.from.result 0 = c.as_mut_slice.ensures.value ∙ c.in_ok-memory.ensures.items_if_clones_equal (λ y e. e) in
    let octets : AreOctets all = c.write_settings.ensures.octets (rw begun (c.write_defaults.ensures.octets (rw zeros (zero_octets c.from.result)))) in
    let holds : HoldsParameters all model.params (laid model settings) = holds_memory model settings all after octets (second ∙ size) in
    rw ended holds
