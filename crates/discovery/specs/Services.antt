-- The identifiers of the services that are read (ISO 22510, Core).
use Rattle.std.specs.Prelude.{ℕ}
use Rattle.discovery.specs.declared.service.Service.{Service}
use Rattle.discovery.specs.declared.service.Service.TheVariants.{SearchRequest, SearchResponse, DescriptionRequest, DescriptionResponse}

abbrev pub identifier_of : Service → ℕ
identifier_of SearchRequest = 0x0201
identifier_of SearchResponse = 0x0202
identifier_of DescriptionRequest = 0x0203
identifier_of DescriptionResponse = 0x0204
