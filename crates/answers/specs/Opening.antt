-- What opening answers: the number and values of each case, and the tables of a bundle that opens.
-- Assumes nothing.
use Rattle.std.specs.Prelude.{ℕ, ◌≡◌, List, [], ◌∷◌, Result, Ok, Err}
use Rattle.rules.specs.Numbers as numbers
use Rattle.rules.specs.Layout.{Answer, gives, refuses, opening}
use Rattle.layout.specs.declared.bundle.Bundle.{Bundle}
use Rattle.layout.specs.Tables.{Tables}
use Rattle.answers.specs.declared.opening.Rule as rule-type
use Rattle.answers.specs.declared.opening.Rule.TheVariants.{Class, Function, Signature, Method, Twin, Code}
use Rattle.answers.specs.declared.opening.LayoutFinding as finding-type
use Rattle.answers.specs.declared.opening.LayoutFinding.TheVariants.{Length, Directory, Counts, Record}

abbrev pub rule_number : rule-type.Rule → ℕ
rule_number Class = numbers.bad_class
rule_number Function = numbers.bad_function
rule_number Signature = numbers.bad_signature
rule_number Method = numbers.bad_method
rule_number Twin = numbers.twin_method
rule_number Code = numbers.bad_code

-- a layout finding: its number, and the record from 4 on
abbrev pub layout_number : finding-type.LayoutFinding → ℕ
layout_number Length = numbers.bad_length
layout_number Directory = numbers.bad_directory
layout_number Counts = numbers.bad_counts
layout_number (Record rule k) = rule_number rule

abbrev pub layout_values : finding-type.LayoutFinding → List ℕ
layout_values Length = []
layout_values Directory = []
layout_values Counts = []
layout_values (Record rule k) = k ∷ []

-- An opened bundle gives its four counts.
abbrev pub said : Result Bundle finding-type.LayoutFinding → Answer (List ℕ)
said (Ok t) = gives (t.classes ∷ t.functions ∷ t.signatures ∷ t.methods ∷ [])
said (Err f) = refuses (layout_number f) (layout_values f)

-- the tables that come with an opened bundle are its own
abbrev pub TablesOf : List ℕ → Result Bundle finding-type.LayoutFinding → Type 0
TablesOf b (Ok t) = Tables b t
TablesOf b (Err f) = Unit

pub record Opens (b : List ℕ) (r : Result Bundle finding-type.LayoutFinding) : Type 0 where
  pub answer : said r ≡ opening b
  pub tables : TablesOf b r
