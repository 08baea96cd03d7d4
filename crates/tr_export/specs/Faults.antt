-- Faults of files as faults of archives.
use Rattle.tr_chunk.specs.declared.faults.WriteFault.{WriteFault}
use Rattle.tr_chunk.specs.declared.faults.WriteFault.TheVariants as file
use Rattle.tr_export.specs.declared.faults.ExportFault.{ExportFault}
use Rattle.tr_export.specs.declared.faults.ExportFault.TheVariants.{Write, NoMemory}

abbrev pub export_fault_of : WriteFault → ExportFault
export_fault_of file.Write = Write
export_fault_of file.NoMemory = NoMemory
