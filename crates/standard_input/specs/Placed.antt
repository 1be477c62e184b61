-- The place of a refusal is a number of 32 bits, as the programs print it. Assumes nothing.
use Rattle.std.specs.Prelude.{◌≤◌, Err}
use Rattle.relations.specs.Limits.{greatest_number}
use Rattle.bundle_reading.specs.ReadAnswer.{read_numbers}
use Rattle.standard_input.specs.declared.InputError.{InputError}
use Rattle.standard_input.specs.declared.InputError.TheVariants.{Unreadable, Refused}

abbrev pub PlaceFits : InputError → Type 0
PlaceFits Unreadable = Unit {0}
PlaceFits (Refused refusal) = (read_numbers (Err refusal)).place ≤ greatest_number
