use Rattle.std.proofs.Common.{◌∙◌}
use native.Mathlib.Nat.{div-one}
use Rattle.rules.specs.Layout.{class_count, function_count, signature_count, method_count}
use Rattle.layout.proofs.bundle.Bundle.of_directory.Goals as goal

pub returns : goal.returns
unfolding class_count function_count signature_count method_count
returns c =
    let classes = c.counted-classes.ensures in
    let parents = c.counted-parents.ensures in
    let functions = c.counted-functions.ensures in
    let signatures = c.counted-signatures.ensures in
    let methods = c.counted-methods.ensures in
    let code = c.counted-code.ensures in
    rw c.new.ensures
    (record {
      classes = classes.records;
      functions = functions.records ∙ div-one _;
      signatures = signatures.records;
      methods = methods.records;
      class_at = classes.place;
      parent_at = parents.place;
      function_at = functions.place;
      signature_at = signatures.place;
      method_at_lem = methods.place;
      code_at = code.place;
      parent_len = parents.records ∙ div-one _;
      code_len = code.records ∙ div-one _;
    })
