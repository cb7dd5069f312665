-- The number that each name of a rule stands for.
-- Assumes nothing.
use Rattle.std.specs.Prelude.{ℕ}
use Rattle.rules.specs.Numbers as numbers
use Rattle.answers.specs.declared.number.Number as number-type
use Rattle.answers.specs.declared.number.Number.TheVariants as number

abbrev pub code_of : number-type.Number → ℕ
code_of number.BadLength = numbers.bad_length
code_of number.BadDirectory = numbers.bad_directory
code_of number.BadCounts = numbers.bad_counts
code_of number.BadClass = numbers.bad_class
code_of number.BadFunction = numbers.bad_function
code_of number.BadSignature = numbers.bad_signature
code_of number.BadMethod = numbers.bad_method
code_of number.TwinMethod = numbers.twin_method
code_of number.BadCode = numbers.bad_code
code_of number.NoMethod = numbers.no_method
code_of number.Ambiguous = numbers.ambiguous
code_of number.NarrowDeclared = numbers.narrow_declared
code_of number.WideResult = numbers.wide_result
code_of number.BadStack = numbers.bad_stack
code_of number.AbstractNew = numbers.abstract_new
code_of number.NoLicence = numbers.no_licence
code_of number.LooseResult = numbers.loose_result
code_of number.Absent = numbers.absent
code_of number.ShortScratch = numbers.short_scratch
code_of number.ShortBuffer = numbers.short_buffer
code_of number.NotBinary = numbers.not_binary
code_of number.NoLine = numbers.no_line
code_of number.ShortLine = numbers.short_line
code_of number.NoConcrete = numbers.no_concrete
code_of number.NoOverridden = numbers.no_overridden
code_of number.AmbiguousResend = numbers.ambiguous_resend
code_of number.NarrowTarget = numbers.narrow_target
