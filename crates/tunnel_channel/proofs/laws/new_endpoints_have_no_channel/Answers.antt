use Rattle.line_model.specs.ClientView.{after_entry}
use Rattle.tunnel_channel.proofs.laws.new_endpoints_have_no_channel.Goals as goal

pub returns : goal.returns
unfolding after_entry
returns c = λ r now. tt
