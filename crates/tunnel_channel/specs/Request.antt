-- The request of this crate's code is that of the definitions.
use Rattle.tunnel_channel.specs.declared.request.Request.{Request}
use Rattle.tunnel_channel.specs.declared.request.Request.TheVariants as code
use Rattle.line_model.specs.ClientEnd.{Outstanding, Free, Once, Again}

abbrev pub outstanding : Request → Outstanding
outstanding code.Free = Free
outstanding (code.Once datagram since) = Once datagram since
outstanding (code.Again since) = Again since
