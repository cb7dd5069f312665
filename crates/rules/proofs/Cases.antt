-- The cases hold of the definitions, by computing each.
-- Assumes nothing.
use mathlib.Core.Path.{refl}
use Rattle.rules.specs.Bounded.{upto, sum, every, any, keep, first, matching}
use Rattle.rules.specs.Bytes.{byte, word, part}
use Rattle.rules.specs.Layout.{offset, extent, section_end, size_rule, chain_rule, whole_rule, class_count, function_count, signature_count, method_count, limit_rule, in_sequence, tuple_rule, class_at, kind_of, list_offset, list_length, parents_of, rises_above, rises, class_rule, arity_of, function_rule, signature_at, sig_function_of, sig_tuple_of, sig_result_of, signature_rule, method_at, function_of, specialiser_tuple_of, declared_tuple_of, result_of, body_offset, body_length, code_of, method_rule, twins, twin_rule, instruction_rule, every_pair, code_rule, require, lowest, require_each, opening, padded}
use Rattle.rules.specs.Model.{decode, instructions, model_of, present, operand_rule}
use Rattle.rules.specs.Subclass.{subclass_within, subclass, under, ancestry_by, ancestry}
use Rattle.rules.specs.Lookup.{applies, applicable, as_specific, leads, unbeaten, rivals, leader_or, select, lookup, exact}
use Rattle.rules.specs.Resend.{overrides, overridden, resend_target}
use Rattle.rules.specs.Types.{in_type, licenses, licensing, send_type, arg_type, arguments, send_effect, arg_types, suits, resend_effect, effect, ending, after_effect, type_from, type_body}
use Rattle.rules.specs.Coverage.{covers, declared_hold, judge_found, judge, failing, concrete_class, concrete_under, prefixed, tuples, broken_tuple, is_some, broken_signature, breaking, broken_method, coverage_refusal, body_refusal, body_verdict, tuple_verdict, coverage_verdict, verdict}
use Rattle.rules.specs.Machine.{stopped_at, settled, settle, push, proceed, return_to, resume, target_found, target, opened, enter, call_target, call, after, resend_to, turn, meeting, sent, resent, landed, counted, start, pace_from, pace, sent_next, resent_next, ending_now, finished, meets, run_from, run}
use Rattle.rules.specs.Calls.{on_opening, when_open, with_scratch, send_rule, used, opening_call, ancestry_in, lookup_in, send_type_in, run_rule, run_in, ancestry_call, found_answer, lookup_call, licensed, send_type_call, check_call, witness_rule, witness_answer, witness_in, witness_call, start_on, body_view_call, body_view_start, run_call, overwrite, scratch_on, scratch_after, row_on, row_after}
use Rattle.rules.specs.Scratch.{class_under, matrix_byte}
use Rattle.rules.specs.Bits.{bit, byte_of}
use Rattle.rules.specs.Chart.{concretes, digit_at, number, entry, heading, cell, columns, chart_line, line_bytes, chart_in, chart_call, line_on, buffer_after}
use Rattle.rules.specs.Rough.{is_method, is_failure, shared_method, some_fails, rough_by, rough, has_concrete, rough_of, rough_in, rough_call}
use Rattle.rules.specs.Samples.{chart3, chart4, chart5, loop, one_class, abstract_argument, narrow_declared, wide_result, two_values, abstract_new, no_licence, loose_result, twenty_three_bytes, directory_gap, empty_sections, own_parent, four_arguments, absent_result, empty_body, twin_methods, unknown_operation, no_method, three_faults, three_rivals, several_broken, upper_classes, exact_match, resend, resend_loop, resend_operand, no_overridden, ambiguous_resend, narrow_target}
use Rattle.rules.specs.Cases.{row_of, matrix_of, AllStand, marked, worked}

-- both tables
pub cases_stand : AllStand marked × AllStand worked
unfolding upto sum every any keep first matching byte word part offset extent section_end size_rule chain_rule whole_rule class_count function_count signature_count method_count limit_rule in_sequence tuple_rule class_at kind_of list_offset list_length parents_of rises_above rises class_rule arity_of function_rule signature_at sig_function_of sig_tuple_of sig_result_of signature_rule method_at function_of specialiser_tuple_of declared_tuple_of result_of body_offset body_length code_of method_rule twins twin_rule instruction_rule every_pair code_rule require lowest require_each opening padded decode instructions model_of present operand_rule subclass_within subclass under applies applicable as_specific leads unbeaten rivals leader_or select lookup exact overrides overridden resend_target ancestry_by ancestry in_type licenses licensing send_type arg_type arguments send_effect arg_types suits resend_effect effect ending after_effect type_from type_body covers declared_hold judge_found judge failing concrete_class concrete_under prefixed tuples broken_tuple is_some broken_signature breaking broken_method coverage_refusal body_refusal body_verdict tuple_verdict coverage_verdict verdict stopped_at settled settle push proceed return_to resume target_found target opened enter call_target call after resend_to turn meeting sent resent landed counted start pace_from pace sent_next resent_next ending_now finished meets run_from run on_opening when_open with_scratch send_rule used opening_call ancestry_in lookup_in send_type_in witness_in run_rule run_in ancestry_call found_answer lookup_call licensed send_type_call check_call witness_rule witness_answer witness_call start_on body_view_call body_view_start run_call overwrite bit class_under byte_of matrix_byte scratch_on scratch_after row_on row_after concretes digit_at number entry heading cell columns chart_line line_bytes chart_in chart_call line_on buffer_after is_method is_failure shared_method some_fails rough_by rough has_concrete rough_of rough_in rough_call chart3 chart4 chart5 loop one_class abstract_argument narrow_declared wide_result two_values abstract_new no_licence loose_result twenty_three_bytes directory_gap empty_sections own_parent four_arguments absent_result empty_body twin_methods unknown_operation no_method three_faults three_rivals several_broken upper_classes exact_match resend resend_loop resend_operand no_overridden ambiguous_resend narrow_target row_of matrix_of
cases_stand = (
  (refl, (refl, (refl, (refl, (refl, (refl, (refl, (refl, (refl, (refl, (refl, tt))))))))))),
  (refl, (refl, ((refl, refl), ((refl, refl), (refl, (refl, (refl, (refl, (refl, (refl, (refl, (refl, (refl, (refl, (refl, (refl, (refl, (refl, (refl, (refl, (refl, (refl, (refl, (refl, (refl, (refl, (refl, (refl, (refl, (refl, (refl, (refl, (refl, (refl, (refl, (refl, (refl, (refl, (refl, (refl, (refl, (refl, (refl, (refl, (refl, (refl, (refl, (refl, (refl, (refl, (refl, (refl, (refl, (refl, (refl, (refl, (refl, (refl, (refl, (refl, (refl, (refl, (refl, (refl, (refl, (refl, (refl, (refl, (refl, (refl, (refl, (refl, (refl, (refl, (refl, (refl, (refl, (refl, (refl, (refl, (refl, (refl, (refl, (refl, (refl, tt))))))))))))))))))))))))))))))))))))))))))))))))))))))))))))))))))))))))))))))))))))),
)
