-- The rows hold the classes' types, and the send's row is copied where there is a licence.
use native.Mathlib.Omega.{arith}
use mathlib.Core.Path.{ap, ◌∙◌}
use lib.ListN.{length}
use lib.Seq.{length-take-le}
use Rattle.rules.specs.Calls.{row_bytes}
use Rattle.layout.proofs.Opened.{counts_of}
use Rattle.subclasses.proofs.Asked.{arguments_places}
use Rattle.typing.proofs.Classes.{class_rows_length, given_classes}
use Rattle.typing.proofs.Sends.{left_some, left_none, given_long}
use Rattle.typing.proofs.send.send_type.Goals as goal

pub class_rows-rows-requires-clause-args_le_places : goal.class_rows-rows-requires-clause-args_le_places
class_rows-rows-requires-clause-args_le_places c = arguments_places c.args.prepared.now.bundle.opened c.requires.arguments

pub send_row-requires-clause-f_lt_functions : goal.send_row-requires-clause-f_lt_functions
send_row-requires-clause-f_lt_functions c =
    omega (arith, c.requires.arguments.function, (counts_of c.args.prepared.now.bundle.opened).functions)

pub send_row-requires-clause-rows_length : goal.send_row-requires-clause-rows_length
send_row-requires-clause-rows_length c =
    ap length c.as_slice.ensures.value ∙ class_rows_length _ _ _ c.class_rows-rows.ensures ∙ c.requires.arguments.arity

pub copy_from_slice-requires : goal.copy_from_slice-requires
copy_from_slice-requires c =
    let given = given_classes _ _ _ _ _ _ c.class_rows-rows.ensures c.as_slice.ensures.value c.requires.arguments.arity c.in-Some.ensures in
    let room = length-take-le row_bytes c.args.row.now c.requires.row_bytes_in_bounds in
    let long = given_long _ c.args.row.now _ _ given in
    omega arith

pub returns-in-Some-clause-value : goal.returns-in-Some-clause-value
returns-in-Some-clause-value c =
    (left_some _ c.args.row.now _ _ (given_classes _ _ _ _ _ _ c.class_rows-rows.ensures c.as_slice.ensures.value c.requires.arguments.arity c.in-Some.ensures)).0

pub returns-in-Some-clause-row_after : goal.returns-in-Some-clause-row_after
returns-in-Some-clause-row_after c =
    rw c.copy_from_slice.ensures.after
    (left_some _ c.args.row.now _ _ (given_classes _ _ _ _ _ _ c.class_rows-rows.ensures c.as_slice.ensures.value c.requires.arguments.arity c.in-Some.ensures)).1

pub returns-in-None-clause-value : goal.returns-in-None-clause-value
returns-in-None-clause-value c =
    (left_none _ c.args.row.now _ (given_classes _ _ _ _ _ _ c.class_rows-rows.ensures c.as_slice.ensures.value c.requires.arguments.arity c.in-None.ensures)).0

pub returns-in-None-clause-row_after : goal.returns-in-None-clause-row_after
returns-in-None-clause-row_after c =
    (left_none _ c.args.row.now _ (given_classes _ _ _ _ _ _ c.class_rows-rows.ensures c.as_slice.ensures.value c.requires.arguments.arity c.in-None.ensures)).1
