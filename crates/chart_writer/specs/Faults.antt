-- What a refusal to write is numbered. Assumes nothing.
--     write_fault_number f     the refusal's number
use Rattle.std.specs.Prelude.{ℕ}
use Rattle.chart_writer.specs.declared.fault.WriteFault.{WriteFault}
use Rattle.chart_writer.specs.declared.fault.WriteFault.TheVariants.{BufferTooShort}

abbrev pub write_fault_number : WriteFault → ℕ
write_fault_number BufferTooShort = 17
