-- The numbers of each answer of `write`. Assumes nothing.
use Rattle.std.specs.Prelude.{ℕ, Result, Ok, Err}
use Rattle.bundle_writing.specs.declared.WriteRefusal.{WriteRefusal}
use Rattle.bundle_writing.specs.declared.WriteRefusal.TheVariants.{WrongTables, WrongNodes, SmallBuffer}
use Rattle.bundles.specs.WriteCall.{WriteNumbers, write_refusal}

abbrev pub write_numbers : Result ℕ WriteRefusal → WriteNumbers
write_numbers (Ok bytes) = record { status = 0; place = 0; bytes = bytes }
write_numbers (Err WrongTables) = write_refusal 7
write_numbers (Err WrongNodes) = write_refusal 1
write_numbers (Err SmallBuffer) = write_refusal 13
