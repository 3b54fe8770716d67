use Rattle.std.proofs.lemmas.Result.{on_ok_weaker}
use Rattle.std.specs.Fmt.{decimal}
use Rattle.std.specs.List.{join_with_byte, flat_map}
use Rattle.std.proofs.Common.{ℕ, ◌∷◌, ◌++◌, map, ap, ◌∙◌}
use Rattle.knx_model.specs.Addresses.{device_text, group_text}
use Rattle.project_text.proofs.Printed.{joined_groups, link_words}
use Rattle.project_text.proofs.print.put_link.Goals as goal

pub returns : goal.returns
returns c =
    let n = decimal c.args.object in
    let groups = c.args.groups.now in
    on_ok_weaker c.put_groups.result (λ put.
    link_words c.args.out.now (device_text c.args.device) n (flat_map (λ g. 32 ∷ group_text g) groups) (join_with_byte 32 (n ∷ map group_text groups)) c.append.new.self c.put_device_word.new.out c.put_number_word.new.out c.put_groups.new.out
    c.in_ok-append.ensures.ok c.in_ok-put_device_word.ensures (c.in_ok-put_number_word.ensures ∙ ap (λ (k : ℕ). c.put_device_word.new.out ++ 32 ∷ decimal k) c.from.ensures) put (joined_groups n groups)) c.put_groups.ensures
