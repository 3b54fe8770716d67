-- A report with entries of all kinds, as it is printed.
use Rattle.std.specs.Prelude.{ℕ, codes, List, [], ◌∷◌, ◌++◌, Some}
use Rattle.knx_model.specs.declared.address.IndAddr.{IndAddr}
use Rattle.knx_model.specs.declared.frames.value.Value.TheVariants.{Short, Long}
use Rattle.knx_model.specs.declared.log.Sign.TheVariants.{NoCon, Silent, TunnelLost}
use Rattle.knx_model.specs.declared.script.GroupService.TheVariants.{Response}
use Rattle.line_model.specs.declared.fault.HubFault.TheVariants.{GatewayRefused}
use Rattle.line_model.specs.declared.fault.Try.TheVariants.{Status, NoAnswer}
use Rattle.line_model.specs.declared.log.LogWhat.TheVariants.{Took, Done, Failed, Refused, Sent, Lost}
use Rattle.line_model.specs.declared.log.Report.{Report}
use Rattle.call_words.specs.declared.case.Case.TheVariants.{New}
use Rattle.call_words.specs.declared.job_word.JobKind.TheVariants.{Check, Load}
use Rattle.call_words.specs.declared.job_word.JobWord.{JobWord}
use Rattle.call_words.specs.Printed.{DeviceShown}

abbrev pub device : IndAddr
device = record { raw = 0x1105 }

abbrev pub shown : DeviceShown
shown = record { device = device; case = New; values = (1, Short 0x3F) ∷ (4, Long (0 ∷ 0xC8 ∷ [])) ∷ [] }

abbrev pub load : JobWord
load = record { device = device; kind = Load }

abbrev pub job_words : List JobWord
job_words = record { device = device; kind = Check } ∷ load ∷ load ∷ load ∷ []

abbrev pub report : Report
report = record {
  log =
      record { at = 4; worker = 1; what = Took 1 }
      ∷ record { at = 9; worker = 1; what = Refused 1 0 (0x03 ∷ 0x40 ∷ 0x00 ∷ 0x12 ∷ []) [] }
      ∷ record { at = 9; worker = 2; what = Took 2 }
      ∷ record { at = 12; worker = 0; what = Sent 1 }
      ∷ record { at = 40; worker = 2; what = Done 2 }
      ∷ record { at = 40; worker = 1; what = Took 3 }
      ∷ record { at = 99; worker = 1; what = Failed 3 (NoCon ∷ Silent 3000 ∷ TunnelLost ∷ []) }
      ∷ record { at = 99; worker = 0; what = Lost 2 }
      ∷ [];
  heard = record { from = device; group = record { raw = 0x0A03 }; service = Response (Short 1) } ∷ [];
  missed = 2;
  dropped = 0;
  fault = Some (GatewayRefused (Status 0x24 ∷ NoAnswer ∷ NoAnswer ∷ []));
}

abbrev pub printed : List ℕ
printed =
    codes "job 1 check 1.1.5 refused 0 got 03400012 expected -\njob 2 load 1.1.5 done\njob 3 load 1.1.5 failed nocon silent tunnel\njob 4 load 1.1.5 open\n"
    ++ codes "group 1 sent\ngroup 2 lost\ngroup 3 open\nheard 1/2/3 1.1.5 response s01\ndevice 1.1.5 new 1=s3F 4=00C8\nmissed 2\n"
    ++ codes "log 4 1 took 1\nlog 9 1 refused 1\nlog 9 2 took 2\nlog 12 0 sent 1\nlog 40 2 done 2\nlog 40 1 took 3\nlog 99 1 failed 3\nlog 99 0 lost 2\ndropped 0\n"
    ++ codes "gateway refused 24 - -\n"
