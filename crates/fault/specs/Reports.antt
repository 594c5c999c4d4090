-- What each refusal tells: its number, its page and pointer, and its layer. Assumes nothing.
use Rattle.std.specs.Prelude.{ℕ, None}
use Rattle.fault.specs.declared.report.Report.{Report}
use Rattle.fault.specs.declared.report.Layer.TheVariants.{Bytes as bytes_layer, Node as node_layer}
use Rattle.fault.specs.declared.bytes_fault.BytesFault.{BytesFault}
use Rattle.fault.specs.declared.bytes_fault.BytesFault.TheVariants as bytes
use Rattle.fault.specs.declared.node_fault.NodeFault.{NodeFault}
use Rattle.fault.specs.declared.node_fault.NodeFault.TheVariants as node
use Rattle.fault.specs.declared.value_fault.ValueFault.{ValueFault}
use Rattle.fault.specs.declared.value_fault.ValueFault.TheVariants as value

abbrev pub bytes_number : BytesFault → ℕ
bytes_number bytes.TooLong = 4
bytes_number bytes.Unlawful = 5
bytes_number bytes.EndsEarly = 7
bytes_number bytes.BadNumber = 8
bytes_number bytes.OutOfRange = 9
bytes_number bytes.LeftOver = 10
bytes_number bytes.ScratchTooSmall = 12

abbrev pub node_number : NodeFault → ℕ
node_number node.Unlawful = 5
node_number node.Merging = 22
node_number node.NotBelowHi = 23
node_number node.WrongKind = 24
node_number node.Full = 25
node_number node.BadChild = 26
node_number node.NoPointer = 27
node_number node.TooManyRoots = 38

-- a value's fault has no page and no pointer of its own: the layer that met it adds them
abbrev pub bytes_report : BytesFault → Report
bytes_report f = record { number = bytes_number f; page = None; pointer = None; layer = bytes_layer }

abbrev pub node_report : NodeFault → Report
node_report f = record { number = node_number f; page = None; pointer = None; layer = node_layer }

abbrev pub value_report : ValueFault → Report
value_report (value.Bytes f) = bytes_report f
value_report (value.Node f) = node_report f
