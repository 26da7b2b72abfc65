-- Why a copy was not swapped in, by why it did not end.
use Rattle.compactor.specs.declared.fault.CopyFault.{CopyFault}
use Rattle.compactor.specs.declared.fault.CopyFault.TheVariants as copied
use Rattle.updater_state.specs.declared.fault.SwapFault.{SwapFault}
use Rattle.updater_state.specs.declared.fault.SwapFault.TheVariants as swapped

abbrev pub swap_fault : CopyFault → SwapFault
swap_fault copied.Behind = swapped.Behind
swap_fault copied.Overrun = swapped.Overrun
swap_fault copied.Memory = swapped.Memory
