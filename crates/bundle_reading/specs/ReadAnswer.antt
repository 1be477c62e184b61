-- The numbers of each answer of `read`. Assumes nothing.
use Rattle.std.specs.Prelude.{Result, Ok, Err}
use Rattle.bundle_reading.specs.declared.Bundle.{Bundle}
use Rattle.bundle_reading.specs.declared.ReadRefusal.{ReadRefusal}
use Rattle.bundle_reading.specs.declared.ReadRefusal.TheVariants.{WrongLine, SmallBuffer}
use Rattle.bundles.specs.ReadCall.{ReadNumbers, read_refusal}

abbrev pub read_numbers : Result Bundle ReadRefusal → ReadNumbers
read_numbers (Ok bundle) =
    record { status = 0; place = 0; mode = bundle.mode; pairs = bundle.pairs; words = bundle.words; nodes = bundle.nodes }
read_numbers (Err (WrongLine line)) = read_refusal 12 line
read_numbers (Err SmallBuffer) = read_refusal 14 0
