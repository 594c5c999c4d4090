-- What each refusal of a log tells. Assumes nothing.
use Rattle.std.specs.Prelude.{Some, None}
use Rattle.fault.specs.declared.report.Report.{Report}
use Rattle.fault.specs.declared.report.Layer.TheVariants.{Log}
use Rattle.fault.specs.Reports.{bytes_report}
use Rattle.logs.specs.declared.log_fault.LogFault.{LogFault}
use Rattle.logs.specs.declared.log_fault.LogFault.TheVariants.{Bytes, Full, Pending, NotPending, NoMessage, OtherPage}

abbrev pub log_report : LogFault → Report
log_report (Bytes f) = bytes_report f
log_report (Full p) = record { number = 29; page = Some p; pointer = None; layer = Log }
log_report (Pending p) = record { number = 30; page = Some p; pointer = None; layer = Log }
log_report (NotPending o) = record { number = 31; page = None; pointer = Some o; layer = Log }
log_report (NoMessage p o) = record { number = 32; page = Some p; pointer = Some o; layer = Log }
log_report (OtherPage p o) = record { number = 33; page = Some p; pointer = Some o; layer = Log }
