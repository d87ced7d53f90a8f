-- One name that opens every definition that an example computes with: `unfolding computes`.
-- Assumes nothing.
use Rattle.model.specs.Words.{written_over}
use Rattle.model.specs.Stores.{is_sound, fits_design, store_number, named_number, store_of, store_words}
use Rattle.model.specs.Rights.{bit, has, within, without, with_those, common, meets, together, fits_rights}
use Rattle.model.specs.Codes.{class_of, is_code_byte, is_hyphen, spelled, padded, packed, unpadded, unpacked}
use Rattle.model.specs.Schemes.{command_is_valid, scheme_is_valid, scheme_number}
use Rattle.model.specs.Rosters.{out_of_range, roster_number, roster_of, roster_words}
use Rattle.model.specs.Forms.{held, lose, gain, act, created}
use Rattle.model.specs.Requests.{two_people, create_number, other_number, request_number, carried_out, requested, batch_numbers, batched}
use Rattle.model.specs.Cards.{is_card, command_of, scheme_of, is_scheme_card, people_of, is_roster_card, requests_of, is_batch_card, scheme_card_number, roster_card_number, batch_card_number}
use Rattle.model.specs.Questions.{shown, may_use_number, may_use, access_words}
use Rattle.model.specs.Kinds.{is_step, steps_of, propagation, deletable, both, is_normal, first_not_normal, row_of_create, clash, overlaps, of_type, row_of_design}
use Rattle.model.specs.Listing.{fires, moved, put, tried, expanded, listed_from, listing, is_duplicate, first_duplicate, has_duplicate, small_step, small_steps}
use Rattle.model.specs.Verdicts.{holds, reported, duplicate_found, verdict_from, is_in_range, create_asked_number, leaves_rows, table_after, design_asked_number}
use Rattle.model.specs.Outcomes.{verdict_answer, create_call_number, read_scheme_number, scheme_read, read_roster_number, roster_read, has_rooms, handed_number, request_call_number, run_batch_number, batch_run, may_use_call_number, may_use_answer, access_list_number, access_list_answer, design_call_number}
use Rattle.model.specs.Lines.{digit_byte, trimmed, decimal, hexadecimal, line, line_x, lines_r, line_p, lines_d, line_e, batch_stream_number, run_lines, batch_text, line_t, lines_t, lines_c, command_lines, create_lines, verdict_text, card_wanted, batch_wanted, verdict_wanted, table_after_command, table_after_creates, text_answer, batch_text_number, verdict_text_number, table_of_stream}
use Rattle.model.specs.Mill.{commands_a, commands_b, commands_c}
use Rattle.model.specs.Cases.{outcome, cases, shortcuts}
use Rattle.model.specs.Worked.{card_a, roster_card, batch_card}

unfoldable pub computes : Unit {0}
unfolding bit has within without with_those common meets together fits_rights class_of is_code_byte is_hyphen spelled command_is_valid scheme_is_valid scheme_number out_of_range roster_number held lose gain act created two_people create_number other_number request_number carried_out requested batch_numbers batched is_card command_of scheme_of is_scheme_card people_of is_roster_card requests_of is_batch_card scheme_card_number roster_card_number batch_card_number shown is_step steps_of propagation deletable both is_normal first_not_normal row_of_create clash overlaps of_type row_of_design fires moved put tried expanded listed_from listing is_duplicate first_duplicate has_duplicate holds reported duplicate_found verdict_from is_in_range create_asked_number verdict_answer create_call_number digit_byte trimmed decimal hexadecimal line line_x lines_r line_p lines_d line_e batch_stream_number run_lines batch_text line_t lines_t lines_c command_lines create_lines verdict_text commands_a commands_b commands_c outcome cases shortcuts card_a roster_card batch_card written_over padded packed unpadded unpacked roster_of roster_words is_sound fits_design store_number named_number store_of store_words may_use_number may_use access_words small_step small_steps leaves_rows table_after design_asked_number read_scheme_number scheme_read read_roster_number roster_read has_rooms handed_number request_call_number run_batch_number batch_run may_use_call_number may_use_answer access_list_number access_list_answer design_call_number card_wanted batch_wanted verdict_wanted table_after_command table_after_creates text_answer batch_text_number verdict_text_number table_of_stream
computes = tt
