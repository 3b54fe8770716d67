use Rattle.device_reservation.proofs.Logged.{one_downloader, taken_in_order, free_in_log, there_in_log, waits_in_log, free_from_log, held_by_log}
use Rattle.device_reservation.proofs.laws.one_downloader_per_device.Goals as goal

pub returns-clause-alone : goal.returns-clause-alone
returns-clause-alone c = λ jobs log reserved. one_downloader jobs log reserved

pub returns-clause-in_order : goal.returns-clause-in_order
returns-clause-in_order c = λ jobs log reserved. taken_in_order jobs log reserved

pub returns-clause-free : goal.returns-clause-free
returns-clause-free c = λ jobs log job reserved. (
  λ free. (there_in_log jobs log job free, waits_in_log jobs log job reserved free, free_in_log jobs log job reserved free),
  λ all. free_from_log jobs log job reserved all.0 all.1 all.2,
)

pub returns-clause-held : goal.returns-clause-held
returns-clause-held c = held_by_log
