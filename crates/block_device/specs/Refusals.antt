-- Faults of a range as refusals of its command.
use Rattle.line_forms.specs.declared.cause.DeviceFault.{DeviceFault}
use Rattle.line_forms.specs.declared.cause.DeviceFault.TheVariants as faults
use Rattle.block_device.specs.declared.refusal.DeviceRefusal.{DeviceRefusal}
use Rattle.block_device.specs.declared.refusal.DeviceRefusal.TheVariants as refusals

abbrev pub as_refusal : DeviceFault → DeviceRefusal
as_refusal faults.PastEnd = refusals.PastEnd
as_refusal faults.EmptyRange = refusals.EmptyRange
