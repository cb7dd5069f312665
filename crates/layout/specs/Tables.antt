-- What the numbers of an opened bundle are, and where its sections lie.
-- Assumes nothing.
use Rattle.std.specs.Prelude.{ℕ, ◌+◌, ◌*◌, ◌/◌, ◌≤◌, ◌≡◌, List, length}
use Rattle.rules.specs.Layout.{offset, extent, class_count, function_count, signature_count, method_count, class_section, parent_section, function_section, signature_section, method_section, code_section, class_bytes, signature_bytes, method_bytes, max_classes, max_functions, max_signatures, max_methods}
use Rattle.layout.specs.declared.bundle.Section.{Section}
use Rattle.layout.specs.declared.bundle.Bundle.{Bundle}

-- the records of so many bytes that section k has
pub record Counted (b : List ℕ) (k width : ℕ) (s : Section) : Type 0 where
  pub place : s.at ≡ offset b k
  pub records : s.count ≡ extent b k / width

-- the bundle of six counted sections
abbrev pub bundle_of : Section → Section → Section → Section → Section → Section → Bundle
bundle_of classes parents functions signatures methods code =
    record {
      classes = classes.count;
      functions = functions.count;
      signatures = signatures.count;
      methods = methods.count;
      class_at = classes.at;
      parent_at = parents.at;
      function_at = functions.at;
      signature_at = signatures.at;
      method_at = methods.at;
      code_at = code.at;
      parent_len = parents.count;
      code_len = code.count;
    }

-- the tables are those of the bundle's directory
pub record Tables (b : List ℕ) (t : Bundle) : Type 0 where
  pub classes : t.classes ≡ class_count b
  pub functions : t.functions ≡ function_count b
  pub signatures : t.signatures ≡ signature_count b
  pub methods : t.methods ≡ method_count b
  pub class_at : t.class_at ≡ offset b class_section
  pub parent_at : t.parent_at ≡ offset b parent_section
  pub function_at : t.function_at ≡ offset b function_section
  pub signature_at : t.signature_at ≡ offset b signature_section
  pub method_at_lem : t.method_at ≡ offset b method_section
  pub code_at : t.code_at ≡ offset b code_section
  pub parent_len : t.parent_len ≡ extent b parent_section
  pub code_len : t.code_len ≡ extent b code_section

-- the tables are the bundle's, no count passes its limit, and every record lies within the bundle
pub record Placed (b : List ℕ) (t : Bundle) : Type 0 where
  pub tables : Tables b t
  pub short : length b ≤ 65535
  pub classes_limit : t.classes ≤ max_classes
  pub functions_limit : t.functions ≤ max_functions
  pub signatures_limit : t.signatures ≤ max_signatures
  pub methods_limit : t.methods ≤ max_methods
  pub class_end : t.class_at + class_bytes * t.classes ≤ length b
  pub parent_end : t.parent_at + t.parent_len ≤ length b
  pub function_end : t.function_at + t.functions ≤ length b
  pub signature_end : t.signature_at + signature_bytes * t.signatures ≤ length b
  pub method_end : t.method_at + method_bytes * t.methods ≤ length b
  pub code_end : t.code_at + t.code_len ≤ length b
