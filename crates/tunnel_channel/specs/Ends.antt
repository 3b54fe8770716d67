-- The states of this crate's code are those of the definitions.
use Rattle.tunnel_channel.specs.declared.state.State.{State}
use Rattle.tunnel_channel.specs.declared.state.State.TheVariants as code
use Rattle.std.specs.Prelude.{◌<◌}
use Rattle.line_model.specs.ClientEnd.{ClientEnd, Idle, Seeking, Open, Leaving, JustLost, most_unanswered}

abbrev pub client_end : State → ClientEnd
client_end code.Idle = Idle
client_end (code.Seeking since) = Seeking since
client_end (code.Open e) = Open e
client_end (code.Leaving e) = Leaving e
client_end (code.JustLost channel) = JustLost channel

-- where it has a channel another heartbeat may go without answer
abbrev pub MayBeat : ClientEnd → Type 0
MayBeat Idle = Unit {0}
MayBeat (Seeking since) = Unit {0}
MayBeat (Open e) = e.unanswered < most_unanswered
MayBeat (Leaving e) = e.unanswered < most_unanswered
MayBeat (JustLost channel) = Unit {0}
