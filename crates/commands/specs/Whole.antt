-- The whole case of the rules' examples, computed in the program's map of M 256 and N 512: the bytes of the five lines, and the bytes that they are answered.
use Rattle.std.specs.Prelude.{◌≡◌, refl, List, [], ◌∷◌, ◌++◌, ℕ, replicate}
use Rattle.insert.specs.Examples.{blank, started}
use Rattle.words.specs.Wide.{wide_at, set_wide}
use Rattle.words.specs.Zeros.{zeros_at}
use Rattle.keys.specs.Common.{common_of, common, bit_of}
use Rattle.keys.specs.Number.{number_of}
use Rattle.node_allocator.specs.Layout.{header_at, record_at, capacity_of, width_of}
use Rattle.node_allocator.specs.Steps.{counts_of, set_counts, get_register, set_register, never_used, taken, add_counts, add_image, freed, remove_counts, remove_image}
use Rattle.records.specs.Numbers.{refusal_number}
use Rattle.descent.specs.Found.{stop_leaf}
use Rattle.inspection.specs.Visit.{visit_of, first_of, live_of}
use Rattle.inspection.specs.Opening.{open_shaped, open_of}
use Rattle.records.specs.Records.{header_of, front_of, spare_of, node_of, padding_of, record_from}
use Rattle.inspection.specs.Tests.{arena_ok, counts_ok, header_ok, top_ok, padding_ok, form_ok, node_ok, root_ok, kids_ok, live_value, free_node, free_value}
use Rattle.records.specs.Writes.{registers_set, key_set, node_set, set_node, value_set, live_record, set_value}
use Rattle.descent.specs.Descent.{child_of, lookup_turn, bits_turn, turn_at, descend, from_root}
use Rattle.lookup.specs.Get.{live_target, stop_target, opened_target, target_of, leaf_target}
use Rattle.insert.specs.Plan.{taken_node, next_node, taken_value, leaf_tests, split_tests, stop_plan, insert_plan}
use Rattle.insert.specs.Steps.{leaf_taken, copy_index, both_taken, first_image, adopted, fork_node, forked, split_image, plan_image, plan_place, opened_plan, insert_of, insert_image}
use Rattle.remove.specs.Plan.{sibling_of, sibling_ok, cut_plan, leaf_plan, stop_plan as remove_stop_plan, reached_plan}
use Rattle.remove.specs.Steps.{leaf_freed, lone_image, moved, place_freed, cut_image, plan_image as remove_plan_image, value_gone, opened_plan as remove_opened_plan, remove_of, removed_image}
use Rattle.listing.specs.Position.{opened_made, made_of}
use Rattle.listing.specs.Step.{open_turn, open_to, pop_to, live_moved, leaf_moved, opened_moved, moved_of, opened_step, step_of}
use Rattle.texts.specs.Digits.{glyph, digits, width_of as commands_width_of, decimal_of, is_digit, digit_of, digits_at, value_at}
use Rattle.texts.specs.Lines.{both, word_at, field_at, one_field, two_fields, key_asked, both_asked, alone_asked, letter_asked, command_of}
use Rattle.texts.specs.Texts.{pair_text, value_text, entry_text, end_text, refusal_text}
use Rattle.commands.specs.Answers.{place_text, gone_text, close_text, step_text, list_text, all_text, answer_of, image_after}
use Rattle.commands.specs.Session.{byte_text, byte_image, byte_line, fed_text, fed_image, fed_line, last_text, input_text}

abbrev case : List ℕ
case =
    ((105 ∷ 32 ∷ 56 ∷ []) ++ replicate 31 48 ++ (32 ∷ []) ++ replicate 31 48 ++ (49 ∷ 10 ∷ []))
    ++ ((105 ∷ 32 ∷ []) ++ replicate 32 48 ++ (32 ∷ []) ++ replicate 31 48 ++ (50 ∷ 10 ∷ []))
    ++ ((105 ∷ 32 ∷ []) ++ replicate 31 48 ++ (49 ∷ 32 ∷ []) ++ replicate 31 48 ++ (51 ∷ 10 ∷ []))
    ++ ((114 ∷ 32 ∷ 56 ∷ []) ++ replicate 31 48 ++ (10 ∷ []))
    ++ ((97 ∷ 10 ∷ []))

abbrev answer : List ℕ
answer =
    ((111 ∷ 107 ∷ 32 ∷ 49 ∷ 10 ∷ []))
    ++ ((111 ∷ 107 ∷ 32 ∷ 50 ∷ 10 ∷ []))
    ++ ((111 ∷ 107 ∷ 32 ∷ 52 ∷ 10 ∷ []))
    ++ ((103 ∷ 111 ∷ 110 ∷ 101 ∷ 32 ∷ []) ++ replicate 31 48 ++ (49 ∷ 10 ∷ []))
    ++ (replicate 32 48 ++ (32 ∷ []) ++ replicate 31 48 ++ (50 ∷ 10 ∷ []))
    ++ (replicate 31 48 ++ (49 ∷ 32 ∷ []) ++ replicate 31 48 ++ (51 ∷ 10 ∷ []))
    ++ ((101 ∷ 110 ∷ 100 ∷ 32 ∷ 50 ∷ 10 ∷ []))

pub whole_case : input_text 256 512 (started 256 512) case ≡ answer
unfolding
    wide_at set_wide zeros_at common_of common bit_of number_of header_at record_at capacity_of width_of counts_of set_counts get_register set_register never_used taken add_counts add_image freed remove_counts remove_image
    refusal_number open_shaped open_of header_of front_of spare_of node_of padding_of record_from arena_ok counts_ok header_ok top_ok padding_ok form_ok node_ok root_ok kids_ok live_value free_node free_value visit_of first_of live_of
    registers_set key_set node_set set_node value_set live_record set_value child_of lookup_turn bits_turn turn_at descend from_root live_target leaf_target stop_leaf opened_target target_of
    taken_node next_node taken_value leaf_tests split_tests stop_plan insert_plan leaf_taken copy_index both_taken first_image adopted fork_node forked split_image plan_image plan_place opened_plan
    insert_of insert_image sibling_of sibling_ok cut_plan leaf_plan reached_plan leaf_freed lone_image moved place_freed cut_image remove_plan_image value_gone remove_opened_plan remove_of removed_image
    opened_made made_of open_turn open_to pop_to live_moved leaf_moved opened_moved moved_of opened_step step_of
    glyph digits commands_width_of decimal_of is_digit digit_of digits_at value_at both word_at field_at one_field two_fields key_asked both_asked alone_asked letter_asked command_of
    pair_text value_text entry_text end_text refusal_text place_text gone_text close_text step_text list_text all_text answer_of image_after
    byte_text byte_image byte_line fed_text fed_image fed_line last_text input_text blank started
whole_case = refl
